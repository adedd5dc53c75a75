-- Which act or commit a statement names next. `now` is the run with the event's ask behind it, before its deed; `u` is what
-- rows and entries are then.
use Rattle.std.specs.Prelude.{◌≡◌, ◌↔◌, ◌==◌, ◌-◌, not, filter, if◌then◌else◌, ℕ, Bool, true, false, List, [], ◌++◌, map, length, slice_get, slice_index_or, slice_set, fold, Option, Some, None}
use Rattle.std.specs.List.{filter_map, list_any}
use Rattle.std.specs.Option.{option_map_or}
use Rattle.std.specs.Ordering.{is_eq}
use Rattle.vl_values.specs.declared.group.Group.{Group}
use Rattle.vl_values.specs.declared.group.Group.TheVariants.{Pre, Main, Post}
use Rattle.vl_values.specs.declared.key.Key.{Key}
use Rattle.vl_values.specs.declared.pred.Pred.{Pred}
use Rattle.vl_values.specs.Pred.{matches}
use Rattle.vl_values.specs.Row.{row_cmp}
use Rattle.vl_values.specs.Value.{is_null}
use Rattle.vl_values.specs.declared.value.Value.TheVariants.{Null}
use Rattle.vl_catalog.specs.declared.catalog.Catalog.{Catalog}
use Rattle.vl_catalog.specs.declared.lookup.Lookup.{Lookup}
use Rattle.vl_catalog.specs.declared.table.Table.{Table}
use Rattle.vl_catalog.specs.Fitting.{key_of}
use Rattle.vl_catalog.specs.Place.{ksid_of, shard_in}
use Rattle.vl_port.specs.declared.act.Act.{Act}
use Rattle.vl_port.specs.declared.act.Act.TheVariants.{Insert, Put, Remove, Find}
use Rattle.vl_port.specs.declared.who.Who.{Who}
use Rattle.vl_port.specs.View.{Values}
use Rattle.vl_model.specs.declared.route.Route.{Route}
use Rattle.vl_model.specs.declared.route.Route.TheVariants as routes
use Rattle.vl_model.specs.Entries.{IsIndexed, Needs, from_values, is_lookup_table, named_by}
use Rattle.vl_model.specs.Tables.{Pair}
use Rattle.vl_model.specs.Visiting.{entry_reads, ksid_named, visited}
use Rattle.vl_plan.specs.declared.delete_plan.DeletePlan.{DeletePlan}
use Rattle.vl_plan.specs.declared.insert_plan.InsertPlan.{InsertPlan}
use Rattle.vl_sql.specs.declared.stmt.Stmt.{Stmt}
use Rattle.vl_plan.specs.Planned.{IsPlanned}
use Rattle.vl_run.specs.Session.{Owned}
use Rattle.vl_plan.specs.declared.plan.Plan.{Plan}
use Rattle.vl_plan.specs.declared.plan.Plan.TheVariants as plans
use Rattle.vl_plan.specs.declared.select_plan.SelectPlan.{SelectPlan}
use Rattle.vl_plan.specs.declared.setting.Setting.{Setting}
use Rattle.vl_plan.specs.declared.update_plan.UpdatePlan.{UpdatePlan}
use Rattle.vl_run.specs.declared.deed.Deed.TheVariants as deeds
use Rattle.vl_run.specs.declared.mark.Mark.{Mark}
use Rattle.vl_run.specs.declared.mark.Mark.TheVariants as marks
use Rattle.vl_run.specs.Gathered.{Gathered, Looked, Met}
use Rattle.vl_run.specs.Machine.{Machine, key_place, of_tx, view}
use Rattle.vl_run.specs.Progress.{claimed_now, commits, last_deed, looked_on, read_on, wrote}
use Rattle.vl_run.specs.Run.{Run, used}

-- ---- what an act is for, and what it may come to

pub data Purpose : Type 0 where
  -- entries by which the route goes, and rows of the statement's table
  Looking : Purpose
  Reading : Purpose
  -- the rows that have a claimed value
  Checking : Purpose
  -- a row or an entry that is inserted, and one that is written or removed
  Inserting : Purpose
  Changing : Purpose

abbrev pub ComesTo : Purpose → Mark → Type 0
ComesTo purpose marks.Opens = Unit {0}
ComesTo Looking marks.Looks = Unit {0}
ComesTo Reading marks.Reads = Unit {0}
ComesTo Checking marks.Takes = Unit {0}
ComesTo Inserting marks.Takes = Unit {0}
ComesTo Inserting marks.Writes = Unit {0}
ComesTo Changing marks.Writes = Unit {0}
ComesTo _ _ = ⊥

-- an Insert writes where its key has no version for the transaction, and else writes nothing
abbrev pub IsMarked : Machine → Who → Act → Mark → Type 0
IsMarked u who (Insert key row) marks.Writes = view u who key ≡ None
IsMarked u who (Insert key row) marks.Takes = (found : Values) × (view u who key ≡ Some found)
IsMarked u who act mark = Unit {0}

-- ---- reads by a route

-- a read without locks goes by the transaction's session, where it has one there
abbrev pub reader : Run → ℕ → ℕ → Group → ℕ → Who
reader now n tx group shard = if list_any (λ other. other == shard) (used now tx group) then of_tx n tx group else record { session = n; tx = tx; group = None }

abbrev pub ksid_on : Catalog → Route → Key × Values → Option (List ℕ)
ksid_on catalog (routes.Primary values) entry = None
ksid_on catalog (routes.Lookup l values) entry = ksid_named catalog l entry.1
ksid_on catalog routes.All entry = None

-- all entries were read, and these are the shards that the route visits
pub record IsRouted (catalog : Catalog) (now : Run) (n : ℕ) (table : ℕ) (route : Route) (shards : List ℕ) : Type 0 where
  pub entries : List (Key × Values)
  pub looked : Looked catalog now n entries
  pub all : length (looked_on now n) ≡ length (entry_reads catalog route)
  pub visits : shards ≡ visited catalog table route (filter_map (ksid_on catalog route) entries)

-- the next entries of the route
pub record IsLookDue (catalog : Catalog) (now : Run) (n tx : ℕ) (route : Route) (who : Who) (shard : ℕ) (act : Act) : Type 0 where
  pub pred : Pred
  pub due : slice_get (entry_reads catalog route) (length (looked_on now n)) ≡ Some (shard, pred)
  pub by : who ≡ reader now n tx Pre shard
  pub finds : act ≡ Find pred false

abbrev pub read_by : Run → ℕ → ℕ → Group → Bool → ℕ → Who
read_by now n tx group true shard = of_tx n tx group
read_by now n tx group false shard = reader now n tx group shard

-- tables of entries are read in pre
abbrev pub read_group : Catalog → ℕ → Group
read_group catalog table = if is_lookup_table catalog table then Pre else Main

-- the next shard of the route
pub record IsReadDue (catalog : Catalog) (now : Run) (n tx : ℕ) (pred : Pred) (route : Route) (locking : Bool) (who : Who) (shard : ℕ) (act : Act) : Type 0 where
  pub shards : List ℕ
  pub routed : IsRouted catalog now n pred.table route shards
  pub due : slice_get shards (length (read_on now n)) ≡ Some shard
  pub by : who ≡ read_by now n tx (read_group catalog pred.table) locking shard
  pub finds : act ≡ Find pred locking

-- all shards of the route were read, and gave these rows
pub record HasRead (catalog : Catalog) (now : Run) (n : ℕ) (pred : Pred) (route : Route) (rows : List (Key × Values)) : Type 0 where
  pub shards : List ℕ
  pub routed : IsRouted catalog now n pred.table route shards
  pub all : length (read_on now n) ≡ length shards
  pub gathered : Gathered catalog now n rows

-- ---- UPDATE and DELETE

abbrev pub with_settings : List Setting → Values → Values
with_settings settings row = fold (λ before (setting : Setting). slice_set before setting.column setting.value) row settings

-- a row that stays equal isn't written
abbrev pub set_in : List Setting → Key × Values → Option (Key × Option Values)
set_in settings row = if is_eq (row_cmp (with_settings settings row.1) row.1) then None else Some (row.0, Some (with_settings settings row.1))

abbrev pub updates : List Setting → List (Key × Values) → List (Key × Option Values)
updates settings rows = filter_map (set_in settings) rows

abbrev pub removals : List (Key × Values) → List (Key × Option Values)
removals rows = map (λ row. (row.0, None)) rows

abbrev pub change_act : Key × Option Values → Act
change_act (key, None) = Remove key
change_act (key, Some row) = Put key row

-- the next of these changes
pub record IsChangeDue (catalog : Catalog) (now : Run) (n tx : ℕ) (changes : List (Key × Option Values)) (who : Who) (shard : ℕ) (act : Act) : Type 0 where
  pub change : Key × Option Values
  pub due : slice_get changes (length (wrote now n)) ≡ Some change
  pub by : who ≡ of_tx n tx Main
  pub placed : shard ≡ key_place catalog change.0
  pub writes : act ≡ change_act change

-- ---- INSERT

abbrev pub key_in : Catalog → ℕ → Values → Key
key_in catalog number row = option_map_or (λ (table : Table). key_of number table row) (slice_get catalog.tables number) (record { table = number; pk = [] })

-- the rows of INSERT as changes
abbrev pub insertions : Catalog → ℕ → List Values → List (Key × Option Values)
insertions catalog number rows = map (λ row. (key_in catalog number row, Some row)) rows

abbrev pub is_indexed_by : Catalog → Values → ℕ → Bool
is_indexed_by catalog row l = option_map_or (λ (lookup : Lookup). option_map_or (λ c. not (is_null (slice_index_or row c Null))) lookup.column false) (slice_get catalog.lookups l) false

-- the lookups in which a row needs an entry, in the order of the table's column vindexes
abbrev pub needed : Catalog → ℕ → Values → List ℕ
needed catalog number row = filter (is_indexed_by catalog row) (option_map_or (λ (table : Table). table.lookups) (slice_get catalog.tables number) [])

-- the row at hand, which is the next to be written, and the lookup of this place among those in which it needs an entry
pub record IsAt (catalog : Catalog) (now : Run) (n number : ℕ) (rows : List Values) (place : ℕ) (lookup : Lookup) (row : Values) : Type 0 where
  pub is_row : slice_get rows (length (wrote now n)) ≡ Some row
  pub l : ℕ
  pub is_next : slice_get (needed catalog number row) place ≡ Some l
  pub is_lookup : slice_get catalog.lookups l ≡ Some lookup

-- an entry that the row needs in the lookup
abbrev pub NeedsThere : Catalog → ℕ → Lookup → Values → Pair → Type 0
NeedsThere catalog number lookup row entry = Needs catalog lookup (key_in catalog number row, row) entry

-- what the entry that the claim met names: a keyspace id, or none where it is NULL
pub record Names (catalog : Catalog) (now : Run) (n : ℕ) (lookup : Lookup) (key : Key) (named : Option (List ℕ)) : Type 0 where
  pub found : Values
  pub met : Met catalog now n (key, found)
  pub to : ℕ
  pub has_to : lookup.to ≡ Some to
  pub names : named ≡ named_by to found

-- the claim before this one is over, so that the next one or the row may come
pub data IsClaimOver (catalog : Catalog) (u : Machine) (now : Run) (n tx number : ℕ) (rows : List Values) : Type 0 where
  None_ : claimed_now now n ≡ [] → IsClaimOver catalog u now n tx number rows
  -- the entry was inserted, or redirected
  Written : (who : Who) (shard : ℕ) (act : Act) → last_deed now n ≡ deeds.Acts who shard act marks.Writes → IsClaimOver catalog u now n tx number rows
  -- the check gave no row, and the entry is kept: it names the row's own keyspace id
  Kept : (who : Who) (shard : ℕ) (pred : Pred) (lookup : Lookup) (row : Values) (key : Key) (ksid : List ℕ) → last_deed now n ≡ deeds.Acts who shard (Find pred true) marks.Takes
      → IsAt catalog now n number rows (length (claimed_now now n) - 1) lookup row → slice_get (claimed_now now n) (length (claimed_now now n) - 1) ≡ Some key
      → Names catalog now n lookup key (Some ksid) → ksid_of catalog number row ≡ Some ksid → IsClaimOver catalog u now n tx number rows

-- the first action of the next claim: the entry's Insert
pub record IsClaimDue (catalog : Catalog) (u : Machine) (now : Run) (n tx number : ℕ) (rows : List Values) (who : Who) (shard : ℕ) (act : Act) : Type 0 where
  pub lookup : Lookup
  pub row : Values
  pub entry : Pair
  pub next : IsAt catalog now n number rows (length (claimed_now now n)) lookup row
  pub over : IsClaimOver catalog u now n tx number rows
  pub needs : NeedsThere catalog number lookup row entry
  pub by : who ≡ of_tx n tx Pre
  pub placed : shard ≡ key_place catalog entry.0
  pub inserts : act ≡ Insert entry.0 entry.1

-- its owner check: the found entry names a keyspace id, and the rows of the owner that have its values are looked for there
pub record IsCheckDue (catalog : Catalog) (u : Machine) (now : Run) (n tx number : ℕ) (rows : List Values) (who : Who) (shard : ℕ) (act : Act) : Type 0 where
  pub lookup : Lookup
  pub row : Values
  pub entry : Pair
  pub pred : Pred
  pub ksid : List ℕ
  pub owner : Table
  pub at : IsAt catalog now n number rows (length (claimed_now now n) - 1) lookup row
  pub met : last_deed now n ≡ deeds.Acts (of_tx n tx Pre) (key_place catalog entry.0) (Insert entry.0 entry.1) marks.Takes
  pub names : Names catalog now n lookup entry.0 (Some ksid)
  pub is_owner : slice_get catalog.tables number ≡ Some owner
  pub by : who ≡ of_tx n tx Main
  pub placed : shard ≡ shard_in catalog.rings owner.keyspace ksid
  pub finds : act ≡ Find pred true
  pub of_owner : pred.table ≡ number
  -- a row matches exactly where it is indexed and has the values of this row
  pub matched : (other : Values) → (matches pred other ≡ true) ↔ (IsIndexed lookup (key_in catalog number other, other) × (from_values lookup owner (key_in catalog number other, other) ≡ from_values lookup owner (key_in catalog number row, row)))

-- its last action: the entry is redirected to the row's keyspace id, where what stands names none, or where the check gave no
-- row and it names another
pub data IsRedirected (catalog : Catalog) (u : Machine) (now : Run) (n tx number : ℕ) (lookup : Lookup) (row : Values) (entry : Pair) : Type 0 where
  NamesNone : last_deed now n ≡ deeds.Acts (of_tx n tx Pre) (key_place catalog entry.0) (Insert entry.0 entry.1) marks.Takes → Names catalog now n lookup entry.0 None
      → IsRedirected catalog u now n tx number lookup row entry
  NamesOther : (who : Who) (shard : ℕ) (pred : Pred) (ksid : List ℕ) → last_deed now n ≡ deeds.Acts who shard (Find pred true) marks.Takes
      → slice_get (claimed_now now n) (length (claimed_now now n) - 1) ≡ Some entry.0 → Names catalog now n lookup entry.0 (Some ksid) → (ksid_of catalog number row ≡ Some ksid → ⊥)
      → IsRedirected catalog u now n tx number lookup row entry

pub record IsRedirectDue (catalog : Catalog) (u : Machine) (now : Run) (n tx number : ℕ) (rows : List Values) (who : Who) (shard : ℕ) (act : Act) : Type 0 where
  pub lookup : Lookup
  pub row : Values
  pub entry : Pair
  pub at : IsAt catalog now n number rows (length (claimed_now now n) - 1) lookup row
  pub redirected : IsRedirected catalog u now n tx number lookup row entry
  pub needs : NeedsThere catalog number lookup row entry
  pub by : who ≡ of_tx n tx Pre
  pub placed : shard ≡ key_place catalog entry.0
  pub puts : act ≡ Put entry.0 entry.1

-- the row itself, once it has all of its entries
pub record IsRowDue (catalog : Catalog) (u : Machine) (now : Run) (n tx number : ℕ) (rows : List Values) (who : Who) (shard : ℕ) (act : Act) : Type 0 where
  pub row : Values
  pub is_row : slice_get rows (length (wrote now n)) ≡ Some row
  pub claimed : length (claimed_now now n) ≡ length (needed catalog number row)
  pub over : IsClaimOver catalog u now n tx number rows
  pub by : who ≡ of_tx n tx Main
  pub placed : shard ≡ key_place catalog (key_in catalog number row)
  pub inserts : act ≡ Insert (key_in catalog number row) row

-- ---- the act that is due

pub data IsDue (catalog : Catalog) (u : Machine) (now : Run) (n tx : ℕ) : Plan → Purpose → Who → ℕ → Act → Type 0 where
  Claims : (plan : InsertPlan) (who : Who) (shard : ℕ) (act : Act) → IsClaimDue catalog u now n tx plan.table plan.rows who shard act → IsDue catalog u now n tx (plans.Insert plan) Inserting who shard act
  Checks : (plan : InsertPlan) (who : Who) (shard : ℕ) (act : Act) → IsCheckDue catalog u now n tx plan.table plan.rows who shard act → IsDue catalog u now n tx (plans.Insert plan) Checking who shard act
  Redirects : (plan : InsertPlan) (who : Who) (shard : ℕ) (act : Act) → IsRedirectDue catalog u now n tx plan.table plan.rows who shard act → IsDue catalog u now n tx (plans.Insert plan) Changing who shard act
  Inserts : (plan : InsertPlan) (who : Who) (shard : ℕ) (act : Act) → IsRowDue catalog u now n tx plan.table plan.rows who shard act → IsDue catalog u now n tx (plans.Insert plan) Inserting who shard act
  Looks : (plan : SelectPlan) (who : Who) (shard : ℕ) (act : Act) → IsLookDue catalog now n tx plan.route who shard act → IsDue catalog u now n tx (plans.Select plan) Looking who shard act
  Selects : (plan : SelectPlan) (who : Who) (shard : ℕ) (act : Act) → IsReadDue catalog now n tx plan.pred plan.route plan.locking who shard act → IsDue catalog u now n tx (plans.Select plan) Reading who shard act
  LooksToSet : (plan : UpdatePlan) (who : Who) (shard : ℕ) (act : Act) → IsLookDue catalog now n tx plan.route who shard act → IsDue catalog u now n tx (plans.Update plan) Looking who shard act
  FindsToSet : (plan : UpdatePlan) (who : Who) (shard : ℕ) (act : Act) → IsReadDue catalog now n tx plan.pred plan.route true who shard act → IsDue catalog u now n tx (plans.Update plan) Reading who shard act
  Sets : (plan : UpdatePlan) (rows : List (Key × Values)) (who : Who) (shard : ℕ) (act : Act) → HasRead catalog now n plan.pred plan.route rows → IsChangeDue catalog now n tx (updates plan.settings rows) who shard act
      → IsDue catalog u now n tx (plans.Update plan) Changing who shard act
  LooksToRemove : (plan : DeletePlan) (who : Who) (shard : ℕ) (act : Act) → IsLookDue catalog now n tx plan.route who shard act → IsDue catalog u now n tx (plans.Delete plan) Looking who shard act
  FindsToRemove : (plan : DeletePlan) (who : Who) (shard : ℕ) (act : Act) → IsReadDue catalog now n tx plan.pred plan.route true who shard act → IsDue catalog u now n tx (plans.Delete plan) Reading who shard act
  Removes : (plan : DeletePlan) (rows : List (Key × Values)) (who : Who) (shard : ℕ) (act : Act) → HasRead catalog now n plan.pred plan.route rows → IsChangeDue catalog now n tx (removals rows) who shard act
      → IsDue catalog u now n tx (plans.Delete plan) Changing who shard act

-- the act that the statement names next, by its plan and in its transaction
pub record IsNext (catalog : Catalog) (u : Machine) (now : Run) (n : ℕ) (stmt : Stmt) (owned : Option Owned) (purpose : Purpose) (who : Who) (shard : ℕ) (act : Act) : Type 0 where
  pub own : Owned
  pub owns : owned ≡ Some own
  pub plan : Plan
  pub planned : IsPlanned catalog stmt plan
  pub due : IsDue catalog u now n own.number plan purpose who shard act

-- ---- the effect of a statement

-- all that it has to do on its tables is done, and nothing else was: its rows were written, in order, or all shards of its
-- route were read and the rows found there changed, in order
abbrev pub HasWorked : Catalog → Run → ℕ → Plan → Type 0
HasWorked catalog now n (plans.Insert plan) = wrote now n ≡ insertions catalog plan.table plan.rows
HasWorked catalog now n (plans.Select plan) = (rows : List (Key × Values)) × HasRead catalog now n plan.pred plan.route rows × (wrote now n ≡ [])
HasWorked catalog now n (plans.Update plan) = (rows : List (Key × Values)) × HasRead catalog now n plan.pred plan.route rows × (wrote now n ≡ updates plan.settings rows)
HasWorked catalog now n (plans.Delete plan) = (rows : List (Key × Values)) × HasRead catalog now n plan.pred plan.route rows × (wrote now n ≡ removals rows)
HasWorked catalog now n plan = wrote now n ≡ []

-- ---- commits

abbrev pub of_group : Group → ℕ → Group × ℕ
of_group group shard = (group, shard)

-- a transaction's shard sessions in the order of its commit: pre, main, then post, each by first use
abbrev pub sessions : Run → ℕ → List (Group × ℕ)
sessions now tx = map (of_group Pre) (used now tx Pre) ++ (map (of_group Main) (used now tx Main) ++ map (of_group Post) (used now tx Post))

-- the commit that is due
pub record IsCommitDue (now : Run) (n tx : ℕ) (who : Who) (shard : ℕ) : Type 0 where
  pub group : Group
  pub due : slice_get (sessions now tx) (commits now n) ≡ Some (group, shard)
  pub by : who ≡ of_tx n tx group
