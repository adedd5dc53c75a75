-- What it means for a statement that a key which its action must obtain is held by another session.
use Rattle.std.specs.Prelude.{◌≡◌, ℕ, ◌+◌, nat_lt, Bool, true, false}
use Rattle.vl_values.specs.declared.key.Key.{Key}
use Rattle.vl_catalog.specs.declared.catalog.Catalog.{Catalog}
use Rattle.vl_port.specs.declared.tx_state.TxState.{TxState}
use Rattle.vl_statement.specs.declared.program_told.ProgramTold.{ProgramTold}
use Rattle.vl_statement.specs.declared.program_told.ProgramTold.TheVariants as told
use Rattle.vl_statement.specs.Refusing.{IsRefusedFor, lock_wait}

-- the same action is done again, by the program with one try more, or the statement is refused. Here it has
-- written or not and made so many tries before this one, and the session's number and the key are the shard's
abbrev pub WaitsOn : {P : Type 0} → Catalog → TxState → Bool → Bool → ℕ → ℕ → Key → ProgramTold → P → P → Type 0
WaitsOn catalog tx true wrote tries by key tells again new = (tells ≡ told.Held by key (tries + 1)) × (new ≡ again)
WaitsOn catalog tx false wrote tries by key tells again new = IsRefusedFor tx wrote tells (lock_wait catalog tx.limits.tries by key)

-- it is done again until it was tried as often as the limit says
abbrev pub Waits : {P : Type 0} → Catalog → TxState → Bool → ℕ → ℕ → Key → ProgramTold → P → P → Type 0
Waits catalog tx wrote tries by key tells again new = WaitsOn catalog tx (nat_lt (tries + 1) tx.limits.tries) wrote tries by key tells again new
