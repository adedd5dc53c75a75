use Rattle.std.proofs.Common.{sym, subst, ℕ, List}
use Rattle.vl_script.proofs.Cuts.{one_rest}
use Rattle.vl_script.proofs.Names.{not_word}
use Rattle.vl_script.specs.Script.{IsWord}
use Rattle.vl_script.proofs.shard_line.shard_behind.Goals as goal

pub returns-then-not-is_word-clause-none : goal.returns-then-not-is_word-clause-none
returns-then-not-is_word-clause-none c shard is =
    not_word c.in-Some.shard.now c.is_word.result c.if-not-is_word.true c.is_word.ensures
    (subst (λ (v : List ℕ). IsWord v) (sym (one_rest c.args.text.now c.args.keyword.now c.in-Some.shard.now shard c.in-Some.ensures.some is.0)) is.1)
