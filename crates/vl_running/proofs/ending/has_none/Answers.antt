use Rattle.std.proofs.Common.{◌≡◌, ◌∙◌, Bool, true, false, sym}
use Rattle.vl_values.specs.declared.group.Group.TheVariants.{Main, Pre}
use Rattle.vl_running.proofs.Replies.{none_listed}
use Rattle.vl_running.proofs.ending.has_none.Goals as goal
use Rattle.vl_running.proofs.ending.has_none.Goals.{else-is_empty, then-is_empty}

both : (b : Bool) → b ≡ false → b ≡ true → ⊥
both b off on = cc

pub returns-else-is_empty-2 : goal.returns-else-is_empty-2
returns-else-is_empty-2 c = (
  λ on. absurd (both c.if-is_empty.value c.if-is_empty-2.false on),
  λ none.
      absurd (elim c.if-is_empty.branch [
        | then-is_empty w ↦ both w.is_empty-then-is_empty.result (sym w.value-is ∙ c.if-is_empty-2.false) (w.is_empty-then-is_empty.ensures.1 (none_listed c.args.tx.now none Main))
        | else-is_empty w ↦ both c.is_empty.result w.if-is_empty.false (c.is_empty.ensures.1 (none_listed c.args.tx.now none Pre))
      ]),
)
