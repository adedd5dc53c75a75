-- What a packet asks, and how it is answered.
use Rattle.std.specs.Prelude.{◌≡◌, ◌≢◌, ℕ, false, List, [], ◌∷◌, ◌++◌}
use Rattle.my_packet.specs.declared.packet.Packet.{Packet}
use Rattle.my_reply.specs.Reply.{reply_bytes}
use Rattle.vl_insert_text.specs.Insert.{Says}
use Rattle.vl_sql.specs.declared.stmt.Stmt.{Stmt}
use Rattle.vl_values.specs.declared.cause.Cause.TheVariants.{Syntax, UnknownCommand}
use Rattle.vl_values.specs.declared.reply.Reply.{Reply as AReply}
use Rattle.vl_values.specs.Reply.{refusal}
use Rattle.vl_cluster.specs.declared.session.Session.{Session}
use Rattle.vl_cluster.specs.declared.what.What.TheVariants.{Reply}
use Rattle.vl_serve.specs.History.{Deed}
use Rattle.vl_serve.specs.History.Deed.{Say}
use Rattle.vl_serve.specs.declared.request.Request.{Request}
use Rattle.vl_serve.specs.declared.request.Request.TheVariants.{Quit, Run, NoStatement, Unknown}

-- the payload asks this: QUIT is 1, and QUERY is 3 with its text
abbrev pub Means : List ℕ → Request → Type 0
Means payload Quit = (more : List ℕ) × (payload ≡ 1 ∷ more)
Means payload (Run stmt) = (text : List ℕ) × (payload ≡ 3 ∷ text) × Says text stmt
Means payload NoStatement = (text : List ℕ) × (payload ≡ 3 ∷ text) × ((stmt : Stmt) → Says text stmt → ⊥)
Means payload Unknown = (command : ℕ) → (more : List ℕ) → payload ≡ command ∷ more → (command ≢ 1) × (command ≢ 3)

-- the capability PROTOCOL_41 alone
abbrev pub capabilities : ℕ
capabilities = 512

-- a reply as a packet: a command has number 0, and its reply goes on from there
abbrev pub reply_packet : AReply → List ℕ
reply_packet reply = reply_bytes reply capabilities 1

-- the answer to a payload: a statement is asked and its reply written, a text that is none has its syntax error
-- at byte 0, and a command that isn't served is unknown
pub data IsAnswered (payload : List ℕ) : List Deed → List ℕ → Type 0 where
  Replied : (pass next : Session) (stmt : Stmt) (reply : AReply) → Means payload (Run stmt) → IsAnswered payload (Say pass stmt (Reply reply) next ∷ []) (reply_packet reply)
  Refused : Means payload NoStatement → IsAnswered payload [] (reply_packet (refusal (Syntax 0) false))
  NotServed : Means payload Unknown → IsAnswered payload [] (reply_packet (refusal UnknownCommand false))

-- packets are answered in order: what is said, and what is written
abbrev pub AreAnswered : List Packet → List Deed → List ℕ → Type 0
AreAnswered [] says bytes = (says ≡ []) × (bytes ≡ [])
AreAnswered (packet ∷ packets) says bytes = (first : List Deed) × (later : List Deed) × (front : List ℕ) × (back : List ℕ)
    × (says ≡ first ++ later) × (bytes ≡ front ++ back) × IsAnswered packet.payload first front × AreAnswered packets later back
