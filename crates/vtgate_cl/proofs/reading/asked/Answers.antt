use Rattle.std.specs.declared.result.Result.{Result}
use Rattle.std.proofs.Common.{◌≡◌, Some, None, Option, Ok, Err, IfOk, IfSome, IfNone, List, ℕ, ◌++◌}
use Rattle.std.specs.Prelude.{codes}
use Rattle.vl_insert_text.specs.Insert.{Says}
use Rattle.vl_model.specs.ScriptLine.{Asks}
use Rattle.vl_sql.specs.declared.stmt.Stmt.{Stmt}
use Rattle.vtgate_cl.proofs.Grammar.{asks_said, asks_begins, said_asks}
use Rattle.vtgate_cl.proofs.reading.asked.Goals as goal

-- the statement that the text behind `run s1 ` says
said_so : {E : Type 0} (text said : List ℕ) (r : Result (Option Stmt) E) → text ≡ codes "run s1 " ++ said → IfOk r (λ found. IfSome found (λ stmt. Says said stmt)) → IfOk r (λ found. IfSome found (λ stmt. Asks text stmt))
said_so text said (Ok None) front says = says
said_so text said (Ok (Some stmt)) front says = asks_said text said stmt front says
said_so text said (Err error) front says = says

none_so : {E : Type 0} (text said : List ℕ) (r : Result (Option Stmt) E) → text ≡ codes "run s1 " ++ said → IfOk r (λ found. IfNone found ((stmt : Stmt) → Says said stmt → ⊥))
    → IfOk r (λ found. IfNone found ((stmt : Stmt) → Asks text stmt → ⊥))
none_so text said (Ok None) front none = λ stmt asks. none stmt (said_asks text said stmt front asks)
none_so text said (Ok (Some stmt)) front none = none
none_so text said (Err error) front none = none

pub returns-clause-some : goal.returns-clause-some
returns-clause-some c = said_so c.args.text.now c.in-Some.said.now c.statement_of.result c.in-Some.ensures.some c.statement_of.ensures.some

pub returns-clause-none : goal.returns-clause-none
returns-clause-none c = none_so c.args.text.now c.in-Some.said.now c.statement_of.result c.in-Some.ensures.some c.statement_of.ensures.none

pub returns-in_default-clause-none : goal.returns-in_default-clause-none
returns-in_default-clause-none c stmt asks =
    let cut = asks_begins c.args.text.now stmt asks in
    c.in_default.ensures.none cut.0 cut.1
