use Rattle.std.proofs.Common.{[], ℕ, Bool, ◌||◌, length, sym, ap, subst, ◌∙◌, Ok, Err, arith}
use Rattle.std.proofs.lemmas.List.{length-map}
use Rattle.vl_token.specs.View.{tok, tokens_of}
use Rattle.vl_grammar.specs.Reading.{Fails, items}
use Rattle.vl_grammar.proofs.Loop.{fails, ends, goes_on, past}
use Rattle.vl_ddl.specs.Words.{is_comma}
use Rattle.vl_ddl.specs.Grammar.{column_names, has_key, is_primary}
use Rattle.vl_ddl.specs.Reading.{part_at}
use Rattle.vl_ddl.specs.Seen.{Holds}
use Rattle.vl_ddl.proofs.SeenLemmas.{holds_none}
use Rattle.vl_ddl.proofs.ReadingSteps.{names_push, key_push}
use Rattle.vl_ddl.proofs.parts.part_list.Goals as goal

pub returns-in-Err : goal.returns-in-Err
returns-in-Err c =
    fails is_comma (λ before rest. part_at c.args.wide (column_names before) (has_key before) rest) (length c.args.tokens.now) c.loop.counter c.loop.list.items (tokens_of c.loop.rest.now) _ c.in-Err.error
    c.loop.invariant.read c.loop-test.true
    (subst (λ (h : Bool). Fails c.in-Err.error (part_at c.args.wide (column_names c.loop.list.items) h (tokens_of c.loop.rest.now))) c.loop.invariant.keyed (c.in-Err.ensures.read (column_names c.loop.list.items) c.loop.invariant.seen))

pub returns-in-None : goal.returns-in-None
returns-in-None c =
    ends is_comma (λ before rest. part_at c.args.wide (column_names before) (has_key before) rest) (length c.args.tokens.now) c.loop.counter c.loop.list.items (tokens_of c.loop.rest.now) _ c.in-Ok.read.0 (tokens_of c.in-Ok.read.1.now)
    c.loop.invariant.read c.loop-test.true
    (ap (λ (h : Bool). part_at c.args.wide (column_names c.loop.list.items) h (tokens_of c.loop.rest.now)) (sym c.loop.invariant.keyed) ∙ c.in-Ok.ensures.read (column_names c.loop.list.items) c.loop.invariant.seen) c.in-None.ensures
    ∙ ap (λ xs. Ok (xs, tokens_of c.in-Ok.read.1.now)) (sym c.in_ok-push.ensures.items)

pub loop-init : goal.loop-init
loop-init c = record {
  read = rw (c.in-Some.ensures, c.new-list.ensures.items) (ap (λ (n : ℕ). items is_comma (λ before rest. part_at c.args.wide (column_names before) (has_key before) rest) n [] (tokens_of c.args.tokens.now)) (omega arith));
  seen = subst (λ xs. Holds c.new-seen.result (column_names xs)) (sym c.new-list.ensures.items) (holds_none c.new-seen.result c.new-seen.ensures.empty);
  keyed = ap has_key (sym c.new-list.ensures.items);
}

pub loop-preserved : goal.loop-preserved
loop-preserved c = record {
  read = rw c.in_ok-push.ensures.items (goes_on is_comma (λ before rest. part_at c.args.wide (column_names before) (has_key before) rest) (length c.args.tokens.now) c.loop.counter c.loop.list.items (tokens_of c.loop.rest.now) _
      c.in-Ok.read.0 (tokens_of c.in-Ok.read.1.now) (tokens_of c.in-Some-behind_comma.next.now)
      c.loop.invariant.read c.loop-test.true
      (ap (λ (h : Bool). part_at c.args.wide (column_names c.loop.list.items) h (tokens_of c.loop.rest.now)) (sym c.loop.invariant.keyed) ∙ c.in-Ok.ensures.read (column_names c.loop.list.items) c.loop.invariant.seen) c.in-Some-behind_comma.ensures);
  seen = subst (λ ns. Holds c.part.new.seen ns) (sym (ap (λ xs. column_names xs) c.in_ok-push.ensures.items ∙ names_push c.loop.list.items c.in-Ok.read.0))
      (c.in-Ok.ensures.seen (column_names c.loop.list.items) c.loop.invariant.seen);
  keyed = c.keyed-has_key.ensures ∙ ap (λ (h : Bool). h || is_primary c.in-Ok.read.0) c.loop.invariant.keyed ∙ sym (ap has_key c.in_ok-push.ensures.items ∙ key_push c.loop.list.items c.in-Ok.read.0);
}

pub returns : goal.returns
returns c =
    past is_comma (λ before rest. part_at c.args.wide (column_names before) (has_key before) rest) (length c.args.tokens.now) c.loop.counter c.loop.list.items (tokens_of c.loop.rest.now) _ c.loop.invariant.read (omega arith)
    ∙ ap (λ n. Err n) (length-map c.loop.rest.now tok)
