-- Of a transaction whose sessions have ended no lock and no pending version is left: a lock is a live
-- session's, and a pending version's key is locked by the session that made it.
use Rattle.std.proofs.Common.{◌≡◌, ◌<◌, ℕ, true, Option, Some, None, ap, ◌∙◌}
use Rattle.std.proofs.lemmas.Bool.{and_parts}
use Rattle.vl_catalog.specs.declared.catalog.Catalog.{Catalog}
use Rattle.vl_values.specs.declared.group.Group.{Group}
use Rattle.vl_values.specs.declared.key.Key.{Key}
use Rattle.vl_port.specs.declared.opened.Opened.{Opened}
use Rattle.vl_port.specs.declared.tx_state.TxState.{TxState}
use Rattle.vl_port.specs.declared.who.Who.{Who}
use Rattle.vl_port.specs.Life.{lives_in}
use Rattle.vl_port.specs.Serving.{Serves, Shards}
use Rattle.vl_port.specs.Transaction.{session_of}
use Rattle.vl_commit.specs.Sessions.{HasEnded, HasNothingLeft}

none_lives : (incarnation : ℕ) (session : Option Opened) → session ≡ None → lives_in incarnation session ≡ true → ⊥
none_lives incarnation None is lives = cc lives
none_lives incarnation (Some session) is lives = cc is

no_lock : (catalog : Catalog) (tx : TxState) (count : ℕ) (seen : Shards) (group : Group) (shard : ℕ) (key : Key) → Serves catalog count seen → HasEnded tx count seen → shard < count
    → (seen shard).holder key ≡ Some (session_of tx group) → ⊥
no_lock catalog tx count seen group shard key serves ended within held =
    let live = (serves.each shard within).kept.live key (session_of tx group) held in
    let lives = (and_parts (seen shard).up (lives_in (seen shard).incarnation ((seen shard).sessions (session_of tx group))) live).1 in
    none_lives (seen shard).incarnation ((seen shard).sessions (session_of tx group)) (ended group shard within) lives

pub nothing_left : (catalog : Catalog) (tx : TxState) (count : ℕ) (seen : Shards) → Serves catalog count seen → HasEnded tx count seen → HasNothingLeft tx count seen
nothing_left catalog tx count seen serves ended = record {
  ended = ended;
  locks = λ group shard key within held. no_lock catalog tx count seen group shard key serves ended within held;
  versions = λ group shard key change within is own.
      no_lock catalog tx count seen group shard key serves ended within ((serves.each shard within).kept.held key change is ∙ ap (λ (w : Who). Some w) own);
}
