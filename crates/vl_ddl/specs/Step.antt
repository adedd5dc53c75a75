-- What a step over a table's options says of reading on.
use Rattle.std.specs.Prelude.{◌≡◌, ℕ, ◌+◌, ◌<◌, ◌≤◌, Bool, true, List, length, Ok, Err}
use Rattle.vl_token.specs.Tok.{Tok}
use Rattle.vl_token.specs.View.{tokens_of}
use Rattle.vl_ddl.specs.declared.step.Step.{Step}
use Rattle.vl_ddl.specs.declared.step.Step.TheVariants.{Goes, Ends, Wrong}
use Rattle.vl_ddl.specs.Reading.{trailer_at}

abbrev pub IsStep : ℕ → List Tok → Step → Type 0
IsStep depth ts (Goes next rest) = ((some : Bool) → trailer_at depth some ts ≡ trailer_at next true (tokens_of rest.now)) × (length rest.now < length ts) × (next + length rest.now ≤ depth + length ts)
IsStep depth ts (Ends rest) = (some : Bool) → trailer_at depth some ts ≡ Ok (some, tokens_of rest.now)
IsStep depth ts Wrong = (some : Bool) → trailer_at depth some ts ≡ Err (length ts)
