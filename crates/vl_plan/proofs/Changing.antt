-- What UPDATE sets: columns that exist and aren't in the primary key, and values that they may hold.
use Rattle.std.proofs.Common.{◌≡◌, ℕ, zero, suc, ◌+◌, ◌<◌, ◌⊎◌, inl, inr, Bool, true, false, List, [], ◌∷◌, ◌++◌, length, get_or, Option, Some, None, Result, Ok, Err, map, refl, sym, ap, ◌∙◌, subst, arith}
use Rattle.std.specs.Prelude.{Contains, slice_get}
use Rattle.std.specs.List.{filter_map, list_any}
use Rattle.std.specs.Option.{option_map_or}
use Rattle.std.specs.Str.{bytes_eq}
use Rattle.std.proofs.lemmas.Slice.Eq.{bytes_eq-Decides}
use Rattle.std.proofs.lemmas.Option.{slice_get-get_or}
use Rattle.vl_values.specs.declared.cause.Cause.{Cause}
use Rattle.vl_values.specs.declared.value.Value.{Value}
use Rattle.vl_catalog.specs.declared.catalog.Catalog.{Catalog}
use Rattle.vl_catalog.specs.declared.column.Column.{Column}
use Rattle.vl_catalog.specs.declared.table.Table.{Table}
use Rattle.vl_sql.specs.declared.assignment.Assignment.{Assignment}
use Rattle.vl_model.specs.Columns.{assigned, set_stored, stored}
use Rattle.vl_model.specs.Refusals.{faults, is_key_column, sets_a_key_column}
use Rattle.vl_rules.proofs.Lists.{found_fails}
use Rattle.vl_rules.proofs.Passed.{none_passes}
use Rattle.vl_plan.specs.declared.setting.Setting.{Setting}
use Rattle.vl_plan.specs.Fits.{IsSettingOf}
use Rattle.vl_plan.specs.Planned.{setting_of}
use Rattle.vl_plan.proofs.Sorting.{found_in, no_member, split_member}
use Rattle.vl_plan.proofs.Storing.{passed_one, stored_held}

off_key : (table : Table) (assignments : List Assignment) (n : ℕ) (column : Column) (a : Assignment) → sets_a_key_column table assignments ≡ false → assigned assignments column.name ≡ Some a
    → slice_get table.columns n ≡ Some column → Contains table.pk n → ⊥
off_key table assignments n column a none found at among =
    let same : a.column ≡ column.name = (bytes_eq-Decides a.column column.name).0 (found_in (λ (it : Assignment). bytes_eq it.column column.name) assignments a found).0 in
    let kept : is_key_column table a.column ≡ false =
    subst (λ (o : Option Assignment). option_map_or (λ (it : Assignment). is_key_column table it.column) o false ≡ false) found
    (found_fails (λ (it : Assignment). is_key_column table it.column) (λ (it : Assignment). bytes_eq it.column column.name) assignments none) in
    let place : slice_get table.pk among.0 ≡ Some n = slice_get-get_or table.pk among.0 n among.1 ∙ ap (λ (m : ℕ). Some m) among.2 in
    let differs : option_map_or (λ (it : Column). bytes_eq it.name a.column) (slice_get table.columns n) false ≡ false =
    none_passes (λ (k : ℕ). option_map_or (λ (it : Column). bytes_eq it.name a.column) (slice_get table.columns k) false) table.pk among.0 n kept place in
    let apart : bytes_eq column.name a.column ≡ false = subst (λ (o : Option Column). option_map_or (λ (it : Column). bytes_eq it.name a.column) o false ≡ false) at differs in
    let alike : bytes_eq column.name a.column ≡ true = (bytes_eq-Decides column.name a.column).1 (sym same) in
    cc (apart, alike)

-- ---- what is set

-- a column that isn't in the primary key, and a value that is stored there
pub record IsStoredSetting (catalog : Catalog) (table : Table) (setting : Setting) : Type 0 where
  pub column : Column
  pub is_column : slice_get table.columns setting.column ≡ Some column
  pub off_key : Contains table.pk setting.column → ⊥
  pub given : Value
  pub is : stored catalog table setting.column column given ≡ Ok setting.value

pub setting_fits : (catalog : Catalog) (table : Table) (setting : Setting) → IsStoredSetting catalog table setting → IsSettingOf table setting
setting_fits catalog table setting it = record {
  column = it.column;
  is_column = it.is_column;
  held = stored_held catalog table setting.column it.column it.given setting.value it.is;
  off_key = it.off_key;
}

set_step : (catalog : Catalog) (table : Table) (one s : Setting) (rest : List Setting) → IsStoredSetting catalog table one → ((other : Setting) → Contains rest other → IsStoredSetting catalog table other)
    → (one ≡ s) ⊎ Contains rest s → IsStoredSetting catalog table s
set_step catalog table one s rest first others (inl same) = subst (λ (it : Setting). IsStoredSetting catalog table it) same first
set_step catalog table one s rest first others (inr h) = others s h

with_set : (catalog : Catalog) (table : Table) (n : ℕ) (r : Result Value Cause) (v : Value) (sets : List (ℕ × Result Value Cause)) (s : Setting) → r ≡ Ok v
    → IsStoredSetting catalog table (record { column = n; value = v }) → ((other : Setting) → Contains (filter_map setting_of sets) other → IsStoredSetting catalog table other)
    → Contains (filter_map setting_of ((n, r) ∷ sets)) s → IsStoredSetting catalog table s
with_set catalog table n r v sets s e first others h =
    let one : Setting = record { column = n; value = v } in
    set_step catalog table one s (filter_map setting_of sets) first others
    (split_member one (filter_map setting_of sets) s (subst (λ (it : Result Value Cause). Contains (filter_map setting_of ((n, it) ∷ sets)) s) e h))

column_set : (catalog : Catalog) (table : Table) (assignments : List Assignment) (n : ℕ) (column : Column) (sets : List (ℕ × Result Value Cause)) (o : Option Assignment)
    → sets_a_key_column table assignments ≡ false → slice_get table.columns n ≡ Some column → assigned assignments column.name ≡ o
    → faults (map (λ (set : ℕ × Result Value Cause). set.1) (option_map_or (λ (a : Assignment). (n, stored catalog table n column a.value) ∷ []) o [] ++ sets)) ≡ []
    → (faults (map (λ (set : ℕ × Result Value Cause). set.1) sets) ≡ [] → (other : Setting) → Contains (filter_map setting_of sets) other → IsStoredSetting catalog table other)
    → (s : Setting) → Contains (filter_map setting_of (option_map_or (λ (a : Assignment). (n, stored catalog table n column a.value) ∷ []) o [] ++ sets)) s → IsStoredSetting catalog table s
column_set catalog table assignments n column sets None none at found fit rest s h = rest fit s h
column_set catalog table assignments n column sets (Some a) none at found fit rest s h =
    let parts = passed_one (stored catalog table n column a.value) (map (λ (set : ℕ × Result Value Cause). set.1) sets) fit in
    with_set catalog table n (stored catalog table n column a.value) parts.0 sets s parts.1
    (record {
      column = column;
      is_column = at;
      off_key = off_key table assignments n column a none found at;
      given = a.value;
      is = parts.1;
    })
    (rest parts.2) h

pub settings_stored : (catalog : Catalog) (table : Table) (assignments : List Assignment) (n : ℕ) (columns : List Column) → sets_a_key_column table assignments ≡ false
    → ((k m : ℕ) (column : Column) → m ≡ n + k → slice_get columns k ≡ Some column → slice_get table.columns m ≡ Some column)
    → faults (map (λ (set : ℕ × Result Value Cause). set.1) (set_stored catalog table assignments n columns)) ≡ []
    → (s : Setting) → Contains (filter_map setting_of (set_stored catalog table assignments n columns)) s → IsStoredSetting catalog table s
settings_stored catalog table assignments n [] none at fit s h = absurd (no_member s h)
settings_stored catalog table assignments n (column ∷ columns) none at fit s h =
    column_set catalog table assignments n column (set_stored catalog table assignments (n + 1) columns) (assigned assignments column.name) none (at 0 n column (omega arith) refl) refl fit
    (settings_stored catalog table assignments (n + 1) columns none (λ k m it same here. at (suc k) m it (omega arith) here)) s h
