use Rattle.std.proofs.Common.{◌-◌, ℕ, List, length, ap, sym, ◌∙◌}
use Rattle.std.specs.Prelude.{slice_get}
use Rattle.vl_shard.specs.Banks.{count_of, seen_of}
use Rattle.vl_exec.proofs.Staged.{client_ended, close_ends, foreign_ended, last_within, struck_number}
use Rattle.vl_exec.proofs.test_stage.close.Goals as goal

pub close-requires : goal.close-requires
close-requires c =
    last_within c.args.bank.now.catalog (count_of c.args.bank.now) (seen_of c.args.bank.now) c.args.client.now c.args.group c.in_ok-shard.field-0.now c.requires.client c.requires.serves
    (sym (c.in_ok-shard.ensures.value ∙ ap (λ (xs : List ℕ). slice_get xs (length xs - 1)) (c.as_slice.ensures ∙ c.listed.ensures)))

pub returns-clause-client : goal.returns-clause-client
returns-clause-client c =
    client_ended c.args.bank.now.catalog (seen_of c.args.bank.now) (seen_of c.close.new.self) c.args.client.now c.args.group c.strike.new.self c.who.result c.in_ok-shard.field-0.now c.requires.client
    (sym (c.in_ok-shard.ensures.value ∙ ap (λ (xs : List ℕ). slice_get xs (length xs - 1)) (c.as_slice.ensures ∙ c.listed.ensures))) c.strike.ensures.struck c.who.ensures (close_ends c.close.ensures.closes)

pub returns-clause-number : goal.returns-clause-number
returns-clause-number c =
    struck_number c.args.client.now.0 c.strike.new.self c.args.group c.in_ok-shard.field-0.now (sym (c.in_ok-shard.ensures.value ∙ ap (λ (xs : List ℕ). slice_get xs (length xs - 1)) (c.as_slice.ensures ∙ c.listed.ensures))) c.strike.ensures.struck

pub returns-clause-foreign : goal.returns-clause-foreign
returns-clause-foreign c =
    foreign_ended (seen_of c.args.bank.now) (seen_of c.close.new.self) c.args.client.now.0 c.args.group c.who.result c.in_ok-shard.field-0.now c.who.ensures (close_ends c.close.ensures.closes)
