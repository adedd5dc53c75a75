use Rattle.std.proofs.Common.{[], ℕ, length, map, sym, ap, subst, ◌∙◌, Ok, Err, arith}
use Rattle.std.proofs.lemmas.List.{length-map, map_push}
use Rattle.vl_token.specs.View.{tok, tokens_of}
use Rattle.vl_grammar.specs.Reading.{items}
use Rattle.vl_grammar.proofs.Loop.{fails, ends, goes_on, past}
use Rattle.vl_sql.specs.Reading.{is_comma, named_at}
use Rattle.vl_sql.specs.Seen.{Holds}
use Rattle.vl_sql.proofs.SeenLemmas.{holds_none}
use Rattle.vl_sql.proofs.distinct.distinct.Goals as goal

pub returns-in-Err : goal.returns-in-Err
returns-in-Err g c =
    fails is_comma (λ before rest. named_at g.N.Named.behind_name_at (map g.N.Named.name_in before) rest) (length c.args.tokens.now) c.loop.counter c.loop.list.items (tokens_of c.loop.rest.now) _ c.in-Err.error
    c.loop.invariant.read c.loop-test.true (c.in-Err.ensures.read (map g.N.Named.name_in c.loop.list.items) c.loop.invariant.seen)

pub returns-in-None : goal.returns-in-None
returns-in-None g c =
    ends is_comma (λ before rest. named_at g.N.Named.behind_name_at (map g.N.Named.name_in before) rest) (length c.args.tokens.now) c.loop.counter c.loop.list.items (tokens_of c.loop.rest.now) _ c.in-Ok.read.0 (tokens_of c.in-Ok.read.1.now)
    c.loop.invariant.read c.loop-test.true (c.in-Ok.ensures.read (map g.N.Named.name_in c.loop.list.items) c.loop.invariant.seen) c.in-None.ensures
    ∙ ap (λ xs. Ok (xs, tokens_of c.in-Ok.read.1.now)) (sym c.in_ok-push.ensures.items)

pub loop-init : goal.loop-init
loop-init g c = record {
  read = rw (c.in-Some.ensures, c.new-list.ensures.items) (ap (λ (n : ℕ). items is_comma (λ before rest. named_at g.N.Named.behind_name_at (map g.N.Named.name_in before) rest) n [] (tokens_of c.args.tokens.now)) (omega arith));
  seen = subst (λ xs. Holds c.new-seen.result (map g.N.Named.name_in xs)) (sym c.new-list.ensures.items) (holds_none c.new-seen.result c.new-seen.ensures.empty);
}

pub loop-preserved : goal.loop-preserved
loop-preserved g c = record {
  read = rw c.in_ok-push.ensures.items (goes_on is_comma (λ before rest. named_at g.N.Named.behind_name_at (map g.N.Named.name_in before) rest) (length c.args.tokens.now) c.loop.counter c.loop.list.items (tokens_of c.loop.rest.now) _
      c.in-Ok.read.0 (tokens_of c.in-Ok.read.1.now) (tokens_of c.in-Some-behind_comma.next.now)
      c.loop.invariant.read c.loop-test.true (c.in-Ok.ensures.read (map g.N.Named.name_in c.loop.list.items) c.loop.invariant.seen) c.in-Some-behind_comma.ensures);
  seen = subst (λ ns. Holds c.fresh_member.new.seen ns) (sym (ap (λ xs. map g.N.Named.name_in xs) c.in_ok-push.ensures.items ∙ map_push g.N.Named.name_in c.loop.list.items c.in-Ok.read.0))
      (c.in-Ok.ensures.seen (map g.N.Named.name_in c.loop.list.items) c.loop.invariant.seen);
}

pub returns : goal.returns
returns g c =
    past is_comma (λ before rest. named_at g.N.Named.behind_name_at (map g.N.Named.name_in before) rest) (length c.args.tokens.now) c.loop.counter c.loop.list.items (tokens_of c.loop.rest.now) _ c.loop.invariant.read (omega arith)
    ∙ ap (λ n. Err n) (length-map c.loop.rest.now tok)
