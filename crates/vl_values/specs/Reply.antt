-- The replies that most statements get.
use Rattle.std.specs.Prelude.{ℕ, Bool}
use Rattle.vl_values.specs.declared.cause.Cause.{Cause}
use Rattle.vl_values.specs.declared.reply.Reply.{Reply}
use Rattle.vl_values.specs.declared.reply.Reply.TheVariants.{Ok, Err}
use Rattle.vl_values.specs.Cause.{error_code}

-- a refusal carries the code of its cause
abbrev pub refusal : Cause → Bool → Reply
refusal why tx = Err (error_code why) why tx

-- a statement that changed this many rows, found no more and left no warning
abbrev pub done : ℕ → Bool → Bool → Reply
done affected tx auto = Ok affected affected 0 tx auto
