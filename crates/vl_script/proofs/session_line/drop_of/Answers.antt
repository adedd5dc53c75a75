use Rattle.std.proofs.Common.{◌++◌, ◌∷◌, sym, subst, ℕ, List}
use Rattle.vl_script.proofs.Names.{session_word, group_word, not_word}
use Rattle.vl_script.specs.Script.{session_name, IsWord}
use Rattle.vl_values.specs.Group.{group_name}
use Rattle.vl_script.proofs.session_line.drop_of.Goals as goal

pub returns-in_default-clause-none : goal.returns-in_default-clause-none
returns-in_default-clause-none c n group shard is =
    c.in_default.ensures.only (session_name n) (group_name group ++ 32 ∷ shard) (session_word n is.1) is.0

pub returns-in_default-session_of-clause-none : goal.returns-in_default-session_of-clause-none
returns-in_default-session_of-clause-none c n group shard is =
    let same = c.in-Some.ensures.only (session_name n) (group_name group ++ 32 ∷ shard) (session_word n is.1) is.0 in
    c.in_default-session_of.ensures.none n is.1 same.0

pub returns-in_default-first_word-clause-none : goal.returns-in_default-first_word-clause-none
returns-in_default-first_word-clause-none c n group shard is =
    let same = c.in-Some.ensures.only (session_name n) (group_name group ++ 32 ∷ shard) (session_word n is.1) is.0 in
    c.in_default-first_word.ensures.only (group_name group) shard (group_word group) same.1

pub returns-in_default-group_of-clause-none : goal.returns-in_default-group_of-clause-none
returns-in_default-group_of-clause-none c n group shard is =
    let same = c.in-Some.ensures.only (session_name n) (group_name group ++ 32 ∷ shard) (session_word n is.1) is.0 in
    let behind = c.in-Some-first_word.ensures.only (group_name group) shard (group_word group) same.1 in
    c.in_default-group_of.ensures.none group behind.0

pub returns-then-not-is_word-clause-none : goal.returns-then-not-is_word-clause-none
returns-then-not-is_word-clause-none c n group shard is =
    let same = c.in-Some.ensures.only (session_name n) (group_name group ++ 32 ∷ shard) (session_word n is.1) is.0 in
    let behind = c.in-Some-first_word.ensures.only (group_name group) shard (group_word group) same.1 in
    not_word c.in-Some-first_word.shard.now c.is_word.result c.if-not-is_word.true c.is_word.ensures (subst (λ (v : List ℕ). IsWord v) (sym behind.1) is.2)
