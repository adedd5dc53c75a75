-- What the core told of a statement.
use Rattle.std.specs.Prelude.{ℕ, List, codes, Option}
use Rattle.std.specs.Io.KnownBytes.{Keeps}
use Rattle.vl_base.specs.Sink.{WrotePart}
use Rattle.vl_cluster.specs.declared.what.What.{What}
use Rattle.vl_cluster.specs.declared.what.What.TheVariants.{Reply, Stray}
use Rattle.vl_model.specs.ReplyLine.{reply_line}
use Rattle.vl_sql.specs.declared.stmt.Stmt.{Stmt}
use Rattle.vl_model.specs.Steps.{Rows, Step}
use Rattle.vl_values.specs.declared.reply.Reply.{Reply as AReply}
use Rattle.vtgate_cl.specs.declared.stop.Stop.{Stop}
use Rattle.vtgate_cl.specs.declared.stop.Stop.TheVariants.{NotScript, Read, Write, Memory}

-- a reply, which the statement's step gives
abbrev pub IsSaid : Rows → Stmt → What → Rows → Type 0
IsSaid old stmt (Reply reply) new = Step old stmt reply new
IsSaid old stmt Stray new = ⊥

-- what was told is this reply
abbrev pub IsReply : What → Type 0
IsReply (Reply reply) = Unit {0}
IsReply Stray = ⊥

-- a statement's reply is printed in part, or nothing is for want of memory
abbrev pub BreaksOff : Rows → Stmt → Option (List ℕ) → Option (List ℕ) → Stop → Type 0
BreaksOff old stmt held holds NotScript = ⊥
BreaksOff old stmt held holds Read = ⊥
BreaksOff old stmt held holds Write = (reply : AReply) × (new : Rows) × Step old stmt reply new × WrotePart held holds (reply_line (codes "s1") reply)
BreaksOff old stmt held holds Memory = Keeps held holds
