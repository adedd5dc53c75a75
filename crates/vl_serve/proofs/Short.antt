-- The replies of statements that are taken are one packet each.
use Rattle.std.proofs.Common.{ℕ}
use Rattle.my_reply.specs.Reply.{IsShort}
use Rattle.vl_cluster.specs.View.{View, Acted}
use Rattle.vl_cluster.specs.declared.session.Session.{Session}
use Rattle.vl_cluster.specs.declared.what.What.{What}
use Rattle.vl_cluster.specs.declared.what.What.TheVariants.{Reply, Stray}
use Rattle.vl_model.specs.Steps.{Rows, Inserts}
use Rattle.vl_model.specs.Steps.Inserts.{Done, HasU, HasId, NoRoom}
use Rattle.vl_serve.specs.History.{IsShortTold}
use Rattle.vl_sql.specs.declared.stmt.Stmt.{Stmt}
use Rattle.vl_values.specs.declared.reply.Reply.{Reply as AReply}

inserts_short : (old new : Rows) (id u : ℕ) (reply : AReply) → Inserts old id u new reply → IsShort reply
inserts_short old new id u _ (Done free_u free_id gains) = tt
inserts_short old new id u _ (HasU other has same) = tt
inserts_short old new id u _ (HasId other free has same) = tt
inserts_short old new id u _ (NoRoom same) = tt

pub acted_short : (old : View) (by : Session) (stmt : Stmt) (next : Session) (what : What) (new : View) → Acted old by stmt next what new → IsShortTold what
acted_short old by stmt next Stray new acted = tt
acted_short old by stmt next (Reply reply) new acted = inserts_short _ _ acted.step.0 acted.step.1 reply acted.step.3
