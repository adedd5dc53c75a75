-- What the answer to the action of a claim means: what the claim tells, how far it has come then, and what
-- becomes of the transaction's list of claimed keys.
use Rattle.std.specs.Prelude.{◌≡◌, ℕ, Bool, true, if◌then◌else◌, List, [], ◌∷◌, ◌++◌, map, is_none, Option, Some, None}
use Rattle.std.specs.Str.{bytes_eq}
use Rattle.vl_values.specs.declared.key.Key.{Key}
use Rattle.vl_values.specs.Keyed.{is_key}
use Rattle.vl_catalog.specs.declared.catalog.Catalog.{Catalog}
use Rattle.vl_port.specs.declared.answer.Answer.{Answer}
use Rattle.vl_port.specs.declared.answer.Answer.TheVariants.{Done, Unchanged, Rows, Found, Held, Lost, Device, Limit, Memory}
use Rattle.vl_port.specs.declared.claimed.Claimed.{Claimed}
use Rattle.vl_port.specs.View.{Values}
use Rattle.vl_lookup.specs.declared.claim_told.ClaimTold.{ClaimTold}
use Rattle.vl_lookup.specs.declared.claim_told.ClaimTold.TheVariants as told
use Rattle.vl_lookup.specs.declared.stage.Stage.{Stage}
use Rattle.vl_lookup.specs.declared.stage.Stage.TheVariants as stages
use Rattle.vl_model.specs.Entries.{named_by}
use Rattle.vl_lookup.specs.Progress.{Progress, stage_for}

-- ---- the list of claimed keys

-- the key stands behind the others, with whether its claim has passed
abbrev pub with_claim : Key → Bool → List Claimed → List Claimed
with_claim key passed claimed = claimed ++ record { key = key; passed = passed } ∷ []

abbrev pub passed_at : Key → Claimed → Claimed
passed_at key claim = if is_key claim.key key then record { key = claim.key; passed = true } else claim

-- the claim of the key has passed
abbrev pub with_passed : Key → List Claimed → List Claimed
with_passed key claimed = map (passed_at key) claimed

-- ---- what is told

-- an answer that does nothing for the claim is told, and the same action stays due
abbrev pub IsRefusal : ℕ → Answer → ClaimTold → Type 0
IsRefusal shard Done tells = ⊥
IsRefusal shard Unchanged tells = ⊥
IsRefusal shard (Rows rows) tells = ⊥
IsRefusal shard (Found key row) tells = ⊥
IsRefusal shard (Held by key) tells = tells ≡ told.Held by key
IsRefusal shard (Lost why) tells = tells ≡ told.Lost shard why
IsRefusal shard Device tells = tells ≡ told.Device shard
IsRefusal shard (Limit what count) tells = tells ≡ told.Limit what count
IsRefusal shard Memory tells = tells ≡ told.Memory

-- the answers that are told so
abbrev pub IsRefusing : Answer → Type 0
IsRefusing Done = ⊥
IsRefusing Unchanged = ⊥
IsRefusing (Rows rows) = ⊥
IsRefusing (Found key row) = ⊥
IsRefusing (Held by key) = Unit {0}
IsRefusing (Lost why) = Unit {0}
IsRefusing Device = Unit {0}
IsRefusing (Limit what count) = Unit {0}
IsRefusing Memory = Unit {0}

pub record Refuses (shard : ℕ) (old : Progress) (claimed : List Claimed) (answer : Answer) (tells : ClaimTold) (new : Progress) (claimed_new : List Claimed) : Type 0 where
  pub says : IsRefusal shard answer tells
  pub claim : new ≡ old
  pub list : claimed_new ≡ claimed

-- what a step tells, the claim after it and the list after it
pub record Becomes (tells : ClaimTold) (new : Progress) (claimed_new : List Claimed) (tells_is : ClaimTold) (new_is : Progress) (claimed_is : List Claimed) : Type 0 where
  pub says : tells ≡ tells_is
  pub claim : new ≡ new_is
  pub list : claimed_new ≡ claimed_is

abbrev pub at_stage : Stage → Progress → Progress
at_stage stage claim = record claim { stage = stage }

-- ---- by stage

-- the answers that an Insert, a locking read and a Put may get
abbrev pub IsFirstAnswer : Answer → Type 0
IsFirstAnswer Done = Unit {0}
IsFirstAnswer (Found key row) = Unit {0}
IsFirstAnswer answer = IsRefusing answer

abbrev pub IsCheckAnswer : Answer → Type 0
IsCheckAnswer (Rows rows) = Unit {0}
IsCheckAnswer answer = IsRefusing answer

abbrev pub IsPutAnswer : Answer → Type 0
IsPutAnswer Done = Unit {0}
IsPutAnswer answer = IsRefusing answer

-- an entry that was inserted is the claim's; one that was found is looked at, with its lock obtained
abbrev pub FirstAnswered : Catalog → Progress → List Claimed → Answer → ClaimTold → Progress → List Claimed → Type 0
FirstAnswered catalog old claimed Done tells new list = Becomes tells new list told.Done old (with_claim old.key true claimed)
FirstAnswered catalog old claimed (Found key row) tells new list =
    Becomes tells new list told.More (at_stage (stage_for catalog old (named_by old.to row)) old) (with_claim old.key (is_none (named_by old.to row)) claimed)
FirstAnswered catalog old claimed answer tells new list = Refuses old.shard old claimed answer tells new list

-- no row has the entry: the claim has passed, and the entry is kept where it names the row's keyspace id
abbrev pub is_kept : List ℕ → Progress → Bool
is_kept ksid claim = bytes_eq ksid claim.ksid

abbrev pub told_free : Bool → ClaimTold
told_free kept = if kept then told.Done else told.More

abbrev pub claim_free : Bool → Progress → Progress
claim_free kept claim = if kept then claim else at_stage stages.Put claim

abbrev pub first_key : List (Key × Values) → Option Key
first_key [] = None
first_key (row ∷ rows) = Some row.0

abbrev pub CheckRead : List ℕ → ℕ → Progress → List Claimed → List (Key × Values) → ClaimTold → Progress → List Claimed → Type 0
CheckRead ksid shard old claimed [] tells new list =
    Becomes tells new list (told_free (is_kept ksid old)) (claim_free (is_kept ksid old) old) (with_passed old.key claimed)
CheckRead ksid shard old claimed (row ∷ rows) tells new list = Becomes tells new list (told.Duplicate old.lookup shard row.0) old claimed

abbrev pub CheckAnswered : List ℕ → ℕ → Progress → List Claimed → Answer → ClaimTold → Progress → List Claimed → Type 0
CheckAnswered ksid shard old claimed (Rows rows) tells new list = CheckRead ksid shard old claimed rows tells new list
CheckAnswered ksid shard old claimed answer tells new list = Refuses shard old claimed answer tells new list

abbrev pub PutAnswered : Progress → List Claimed → Answer → ClaimTold → Progress → List Claimed → Type 0
PutAnswered old claimed Done tells new list = Becomes tells new list told.Done old claimed
PutAnswered old claimed answer tells new list = Refuses old.shard old claimed answer tells new list

abbrev pub AnsweredAt : Stage → Catalog → Progress → List Claimed → Answer → ClaimTold → Progress → List Claimed → Type 0
AnsweredAt stages.First catalog old claimed answer tells new list = FirstAnswered catalog old claimed answer tells new list
AnsweredAt (stages.Check ksid shard) catalog old claimed answer tells new list = CheckAnswered ksid shard old claimed answer tells new list
AnsweredAt stages.Put catalog old claimed answer tells new list = PutAnswered old claimed answer tells new list

-- what the answer to the action that was due means
abbrev pub ClaimAnswered : Catalog → Progress → List Claimed → Answer → ClaimTold → Progress → List Claimed → Type 0
ClaimAnswered catalog old claimed answer tells new list = AnsweredAt old.stage catalog old claimed answer tells new list
