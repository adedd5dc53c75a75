-- What a text says as a line of a script.
use Rattle.std.specs.Prelude.{ℕ, List}
use Rattle.vl_model.specs.ScriptLine.{Asks, IsSkipped}
use Rattle.vtgate_cl.specs.declared.script_line.ScriptLine.{ScriptLine}
use Rattle.vtgate_cl.specs.declared.script_line.ScriptLine.TheVariants.{Skipped, Run}

abbrev pub IsLine : List ℕ → ScriptLine → Type 0
IsLine text Skipped = IsSkipped text
IsLine text (Run stmt) = Asks text stmt
