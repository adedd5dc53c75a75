use Rattle.std.proofs.Common.{◌≡◌, subst, List, ℕ, Option, None, IfNone}
use Rattle.vl_sql.specs.declared.stmt.Stmt.{Stmt}
use Rattle.vl_model.specs.ScriptLine.{Asks}
use Rattle.vtgate_cl.specs.declared.script_line.ScriptLine.TheVariants.{Skipped, Run}
use Rattle.vtgate_cl.proofs.reading.line_of.Goals as goal

none_asked : (text : List ℕ) (found : Option Stmt) → found ≡ None → IfNone found ((stmt : Stmt) → Asks text stmt → ⊥) → (stmt : Stmt) → Asks text stmt → ⊥
none_asked text found is h = subst (λ (f : Option Stmt). IfNone f ((stmt : Stmt) → Asks text stmt → ⊥)) is h

pub returns-in-Ok-None-clause-none : goal.returns-in-Ok-None-clause-none
returns-in-Ok-None-clause-none c Skipped skipped = absurd (cc (c.if-is_skipped.ensures.1 skipped))
returns-in-Ok-None-clause-none c (Run stmt) asks =
    none_asked c.args.text.now c.in-Ok-None.field-0 c.in-Ok-None.field-0-is c.in-Ok-None.ensures.none stmt asks
