use Rattle.std.proofs.Common.{◌++◌, ◌∷◌}
use Rattle.std.specs.Fmt.{decimal}
use Rattle.vl_script.proofs.Names.{count_word}
use Rattle.vl_script.specs.Script.{pick_name}
use Rattle.vl_script.proofs.shard_line.crash_of.Goals as goal

pub returns-in_default-first_word-clause-none : goal.returns-in_default-first_word-clause-none
returns-in_default-first_word-clause-none c shard n pick is =
    let same = c.in-Some.ensures.only shard (decimal n ++ 32 ∷ pick_name pick) is.1 is.0 in
    c.in_default-first_word.ensures.only (decimal n) (pick_name pick) (count_word n is.2) same.1

pub returns-in_default-count_of-clause-none : goal.returns-in_default-count_of-clause-none
returns-in_default-count_of-clause-none c shard n pick is =
    let same = c.in-Some.ensures.only shard (decimal n ++ 32 ∷ pick_name pick) is.1 is.0 in
    let behind = c.in-Some-first_word.ensures.only (decimal n) (pick_name pick) (count_word n is.2) same.1 in
    c.in_default-count_of.ensures.none n is.2 behind.0

pub returns-in_default-pick_of-clause-none : goal.returns-in_default-pick_of-clause-none
returns-in_default-pick_of-clause-none c shard n pick is =
    let same = c.in-Some.ensures.only shard (decimal n ++ 32 ∷ pick_name pick) is.1 is.0 in
    let behind = c.in-Some-first_word.ensures.only (decimal n) (pick_name pick) (count_word n is.2) same.1 in
    c.in_default-pick_of.ensures.none pick behind.1
