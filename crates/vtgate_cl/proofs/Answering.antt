-- What a line's answer makes of the statement's.
use Rattle.std.specs.declared.result.Result.{Result}
use Rattle.std.specs.declared.option.Option.{Option}
use Rattle.std.proofs.Common.{◌≡◌, subst, IfSome, IfNone, ℕ, ◌<◌, ◌≤◌, List, length, Ok, Err, None, Some, refl, OnOk, IfErr}
use Rattle.std.specs.Prelude.{codes}
use Rattle.std.specs.Io.KnownBytes.{Appends}
use Rattle.vl_sql.specs.declared.stmt.Stmt.{Stmt}
use Rattle.vl_model.specs.ReplyLine.{reply_line}
use Rattle.vl_model.specs.ScriptLine.{Asks}
use Rattle.vl_model.specs.Steps.{Rows, Step}
use Rattle.vl_values.specs.declared.reply.Reply.{Reply}
use Rattle.vtgate_cl.specs.declared.stop.Stop.{Stop}
use Rattle.vtgate_cl.specs.declared.stop.Stop.TheVariants.{NotScript, Read, Write, Memory}
use Rattle.vtgate_cl.specs.Playing.{Halts}
use Rattle.vtgate_cl.specs.Playing.Halts.{InAnswer, ForMemory}
use Rattle.vtgate_cl.specs.declared.script_line.ScriptLine.{ScriptLine}
use Rattle.vtgate_cl.specs.declared.script_line.ScriptLine.TheVariants.{Skipped, Run}
use Rattle.vtgate_cl.specs.Line.{IsLine}
use Rattle.vtgate_cl.specs.Script.{Answers, IsFault, line_limit, count_limit}
use Rattle.vtgate_cl.specs.Script.IsFault.{Outside}
use Rattle.vtgate_cl.specs.Script.Answers.{Said}
use Rattle.vtgate_cl.specs.Talk.{BreaksOff}

-- memory lacked for the line's statement
pub lacks_memory : (n : ℕ) (old : Rows) (line : List ℕ) (held : Option (List ℕ)) → Halts n old line held held Memory
lacks_memory n old line None = ForMemory tt
lacks_memory n old line (Some bytes) = ForMemory refl

-- the reply was printed
pub said_whole : (r : Result (Unit {0}) Stop) (old new : Rows) (line : List ℕ) (stmt : Stmt) (held holds : Option (List ℕ)) → Asks line stmt → OnOk r ((reply : Reply) × Step old stmt reply new × Appends held holds (reply_line (codes "s1") reply))
    → OnOk r ((more : List ℕ) × Answers old line new more × Appends held holds more)
said_whole (Ok x) old new line stmt held holds asks said = (reply_line (codes "s1") said.0, Said stmt said.0 asks said.1, said.2)
said_whole (Err stop) old new line stmt held holds asks said = tt

halts_so : (stop : Stop) (n : ℕ) (old : Rows) (line : List ℕ) (stmt : Stmt) (held holds : Option (List ℕ)) → n < count_limit → length line ≤ line_limit → Asks line stmt → BreaksOff old stmt held holds stop → Halts n old line held holds stop
halts_so NotScript n old line stmt held holds early short asks broken = absurd broken
halts_so Read n old line stmt held holds early short asks broken = absurd broken
halts_so Write n old line stmt held holds early short asks broken =
    InAnswer (reply_line (codes "s1") broken.0) broken.1 short early (Said stmt broken.0 asks broken.2) broken.3
halts_so Memory n old line stmt held holds early short asks broken = ForMemory broken

-- it wasn't, or not whole
pub said_part : (r : Result (Unit {0}) Stop) (n : ℕ) (old : Rows) (line : List ℕ) (stmt : Stmt) (held holds : Option (List ℕ)) → n < count_limit → length line ≤ line_limit → Asks line stmt → IfErr r (BreaksOff old stmt held holds)
    → IfErr r (Halts n old line held holds)
said_part (Ok x) n old line stmt held holds early short asks broken = tt
said_part (Err stop) n old line stmt held holds early short asks broken =
    halts_so stop n old line stmt held holds early short asks broken

-- what was found of a line
pub line_found : (text : List ℕ) (found : Option ScriptLine) (line : ScriptLine) → IfSome found (λ said. IsLine text said) → found ≡ Some line → IsLine text line
line_found text found line h is = subst (λ (f : Option ScriptLine). IfSome f (λ said. IsLine text said)) is h

pub none_found : (text : List ℕ) (found : Option ScriptLine) → IfNone found ((line : ScriptLine) → IsLine text line → ⊥) → found ≡ None → (line : ScriptLine) → IsLine text line → ⊥
none_found text found h is = subst (λ (f : Option ScriptLine). IfNone f ((line : ScriptLine) → IsLine text line → ⊥)) is h

-- a line that says nothing
pub outside : (n : ℕ) (line : List ℕ) → ((said : ScriptLine) → IsLine line said → ⊥) → IsFault n line
outside n line none = Outside (λ skipped. none Skipped skipped) (λ stmt asks. none (Run stmt) asks)
