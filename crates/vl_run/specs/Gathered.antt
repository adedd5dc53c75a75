-- What the reads of a statement gave, and what its claims met.
use Rattle.std.specs.Prelude.{◌≡◌, ◌==◌, if◌then◌else◌, ℕ, Bool, true, false, List, [], ◌∷◌, ◌++◌, Contains, Option, Some}
use Rattle.vl_values.specs.declared.group.Group.{Group}
use Rattle.vl_values.specs.declared.group.Group.TheVariants.{Pre}
use Rattle.vl_values.specs.declared.key.Key.{Key}
use Rattle.vl_values.specs.declared.pred.Pred.{Pred}
use Rattle.vl_values.specs.Keyed.{InKeyOrder}
use Rattle.vl_catalog.specs.declared.catalog.Catalog.{Catalog}
use Rattle.vl_port.specs.declared.act.Act.{Act}
use Rattle.vl_port.specs.declared.act.Act.TheVariants.{Insert, Put, Remove, RemoveIf, Find}
use Rattle.vl_port.specs.declared.who.Who.{Who}
use Rattle.vl_port.specs.Reading.{is_match}
use Rattle.vl_port.specs.View.{Values}
use Rattle.vl_run.specs.declared.deed.Deed.{Deed}
use Rattle.vl_run.specs.declared.deed.Deed.TheVariants as deeds
use Rattle.vl_run.specs.declared.mark.Mark.{Mark}
use Rattle.vl_run.specs.declared.mark.Mark.TheVariants as marks
use Rattle.vl_run.specs.declared.request.Request.{Request}
use Rattle.vl_run.specs.declared.request.Request.TheVariants as requests
use Rattle.vl_run.specs.Machine.{Machine, is_entry, is_on, view}
use Rattle.vl_run.specs.Progress.{is_look, is_read}
use Rattle.vl_run.specs.Run.{Run, cells, state}
use Rattle.vl_run.specs.Run.Point.{Began, Happened}

-- rows as the one table has them, entries as the shards have them
abbrev pub shown : Catalog → Run → Machine
shown catalog past k = if is_entry catalog k then cells catalog past k else state catalog past k

-- the read of a shard: the rows there that match, as the reader sees them, all of them, in the order of their keys
pub record Reads (catalog : Catalog) (u : Machine) (who : Who) (shard : ℕ) (pred : Pred) (rows : List (Key × Values)) : Type 0 where
  pub ordered : InKeyOrder rows
  pub sound : (row : Key × Values) → Contains rows row → (view u who row.0 ≡ Some row.1) × (is_match pred row.0 (Some row.1) ≡ true) × (is_on catalog shard row.0 ≡ true)
  pub complete : (key : Key) (values : Values) → view u who key ≡ Some values → is_match pred key (Some values) ≡ true → is_on catalog shard key ≡ true → Contains rows (key, values)

abbrev pub ReadsBy : Catalog → Machine → Who → ℕ → Act → List (Key × Values) → Type 0
ReadsBy catalog u who shard (Find pred locking) rows = Reads catalog u who shard pred rows
ReadsBy catalog u who shard (Insert key row) rows = ⊥
ReadsBy catalog u who shard (Put key row) rows = ⊥
ReadsBy catalog u who shard (Remove key) rows = ⊥
ReadsBy catalog u who shard (RemoveIf key column value) rows = ⊥

abbrev pub Rows : Type 0
Rows = List (Key × Values)

-- more rows stand behind those before
pub record Extends (Before : Rows → Type 0) (More : Rows → Type 0) (rows : Rows) : Type 0 where
  pub front : Rows
  pub back : Rows
  pub joined : rows ≡ front ++ back
  pub before : Before front
  pub more : More back

abbrev pub ExtendsIf : Bool → (Rows → Type 0) → (Rows → Type 0) → Rows → Type 0
ExtendsIf true Before More rows = Extends Before More rows
ExtendsIf false Before More rows = Before rows

abbrev pub GivenBy : Catalog → (Mark → Bool) → Machine → Deed → (Rows → Type 0) → Rows → Type 0
GivenBy catalog is u deeds.Nothing Before rows = Before rows
GivenBy catalog is u (deeds.Acts who shard act mark) Before rows = ExtendsIf (is mark) Before (ReadsBy catalog u who shard act) rows
GivenBy catalog is u (deeds.Commits who shard) Before rows = Before rows
GivenBy catalog is u (deeds.Fails who shard) Before rows = Before rows

abbrev pub SinceIf : Request → (Rows → Type 0) → Rows → Type 0
SinceIf requests.Join Before rows = rows ≡ []
SinceIf (requests.Say stmt) Before rows = rows ≡ []
SinceIf requests.Reset Before rows = rows ≡ []
SinceIf requests.Step Before rows = Before rows
SinceIf requests.Leave Before rows = rows ≡ []
SinceIf (requests.Kill who shard) Before rows = Before rows

abbrev pub OwnOr : Bool → Type 0 → Type 0 → Type 0
OwnOr true own other = own
OwnOr false own other = other

-- what the statement's reads of a kind gave so far, in order: each at the state before its event
abbrev pub Given : Catalog → (Mark → Bool) → Run → ℕ → Rows → Type 0
Given catalog is [] n rows = rows ≡ []
Given catalog is (Began opening ∷ past) n rows = rows ≡ []
Given catalog is (Happened e ∷ past) n rows = OwnOr (e.session == n) (GivenBy catalog is (shown catalog past) e.deed (SinceIf e.request (Given catalog is past n)) rows) (Given catalog is past n rows)

-- the rows of its table
abbrev pub Gathered : Catalog → Run → ℕ → Rows → Type 0
Gathered catalog past n rows = Given catalog is_read past n rows

-- the entries by which its route goes
abbrev pub Looked : Catalog → Run → ℕ → Rows → Type 0
Looked catalog past n rows = Given catalog is_look past n rows

-- ---- what a claim met

-- an Insert in pre that took its key and wrote nothing met what stood there. A write of the statement ends that
abbrev pub MetAct : Machine → Who → Mark → Option Group → Act → (Key × Values → Type 0) → Key × Values → Type 0
MetAct u who marks.Writes group act Before entry = ⊥
MetAct u who marks.Takes (Some Pre) (Insert key row) Before entry = (entry.0 ≡ key) × (view u who key ≡ Some entry.1)
MetAct u who mark group act Before entry = Before entry

abbrev pub MetBy : Machine → Deed → (Key × Values → Type 0) → Key × Values → Type 0
MetBy u deeds.Nothing Before entry = Before entry
MetBy u (deeds.Acts who shard act mark) Before entry = MetAct u who mark who.group act Before entry
MetBy u (deeds.Commits who shard) Before entry = Before entry
MetBy u (deeds.Fails who shard) Before entry = Before entry

abbrev pub MetSince : Request → (Key × Values → Type 0) → Key × Values → Type 0
MetSince requests.Join Before entry = ⊥
MetSince (requests.Say stmt) Before entry = ⊥
MetSince requests.Reset Before entry = ⊥
MetSince requests.Step Before entry = Before entry
MetSince requests.Leave Before entry = ⊥
MetSince (requests.Kill who shard) Before entry = Before entry

-- the entry that the statement's claim in progress met, or the one before, which kept it: as it stood before the event in which its
-- key was taken, whatever became of that session since
abbrev pub Met : Catalog → Run → ℕ → Key × Values → Type 0
Met catalog [] n entry = ⊥
Met catalog (Began opening ∷ past) n entry = ⊥
Met catalog (Happened e ∷ past) n entry = OwnOr (e.session == n) (MetBy (shown catalog past) e.deed (MetSince e.request (Met catalog past n)) entry) (Met catalog past n entry)
