-- What an event leaves of the client sessions that it isn't of.
use Rattle.std.specs.Prelude.{◌≡◌, ◌∷◌, [], ℕ, Bool, Option, Some, None}
use Rattle.vl_values.specs.declared.reply.Reply.TheVariants as replies
use Rattle.vl_catalog.specs.declared.catalog.Catalog.{Catalog}
use Rattle.vl_sql.specs.declared.stmt.Stmt.{Stmt}
use Rattle.vl_port.specs.Serving.{Shards}
use Rattle.vl_run.specs.declared.deed.Deed.TheVariants as deeds
use Rattle.vl_run.specs.declared.event.Event.{Event}
use Rattle.vl_run.specs.declared.request.Request.{Request}
use Rattle.vl_run.specs.declared.request.Request.TheVariants as requests
use Rattle.vl_run.specs.declared.what.What.{What}
use Rattle.vl_run.specs.declared.what.What.TheVariants as whats
use Rattle.vl_run.specs.Allowed.{IsDone, now_of}
use Rattle.vl_run.specs.Gathered.{shown}
use Rattle.vl_run.specs.Progress.{session}
use Rattle.vl_run.specs.Run.{Run}
use Rattle.vl_run.specs.Run.Point.{Began, Happened}
use Rattle.vl_session.specs.Turning.{IsClear}
use Rattle.vl_session.specs.declared.work.Work.{Work}
use Rattle.vl_session.specs.declared.work.Work.TheVariants as works

-- no row that an event wrote clashed with one
abbrev pub AreClear : Catalog → Run → Type 0
AreClear catalog [] = Unit {0}
AreClear catalog (Began opening ∷ past) = AreClear catalog past
AreClear catalog (Happened e ∷ past) = IsClear catalog past e.deed × AreClear catalog past

-- no shard went down or came up
abbrev pub IsSteady : Shards → Shards → Type 0
IsSteady old new = (shard : ℕ) → (new shard).incarnation ≡ (old shard).incarnation

-- the session stays joined
abbrev pub IsSitting : Request → Type 0
IsSitting requests.Join = ⊥
IsSitting (requests.Say stmt) = Unit {0}
IsSitting requests.Reset = Unit {0}
IsSitting requests.Step = Unit {0}
IsSitting requests.Leave = ⊥
IsSitting (requests.Kill who shard) = ⊥

-- what was done is nothing, or what a statement of the session names next
abbrev pub MayHaveDone : Catalog → Run → Event → Type 0
MayHaveDone catalog past e = (stmt : Stmt) × IsDone catalog (shown catalog past) (now_of e past) e.session stmt (session (now_of e past) e.session).owned e.deed

-- the transaction that the work has
abbrev pub tx_in : Work → Option ℕ
tx_in (works.Idle None) = None
tx_in (works.Idle (Some tx)) = Some tx.number
tx_in (works.Running tx program) = Some tx.number
tx_in (works.Committing commit reply purpose) = Some commit.tx.number

-- the transaction for which an event acts: the one that is in hand, or the one that it opens
abbrev pub acting_in : Option ℕ → Option ℕ → Option ℕ
acting_in None opens = opens
acting_in (Some tx) opens = Some tx

-- autocommit behind an answer: a reply that isn't a refusal tells it
abbrev pub auto_behind : What → Bool → Bool
auto_behind (whats.Reply (replies.Ok affected found warnings tx auto)) before = auto
auto_behind (whats.Reply (replies.Rows columns rows tx auto)) before = auto
auto_behind (whats.Reply (replies.Err code why tx)) before = before
auto_behind whats.More before = before
auto_behind (whats.Held by key tries) before = before
auto_behind whats.Stray before = before
