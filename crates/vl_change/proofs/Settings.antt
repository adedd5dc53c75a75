-- A row whose columns are set is still a row of its table, with its key and its place.
use Rattle.std.proofs.Common.{◌≡◌, ◌≢◌, ℕ, suc, ◌<◌, ◌⊎◌, inl, inr, Bool, true, false, List, [], ◌∷◌, length, get_or, map, Option, Some, None, refl, sym, ap, ◌∙◌, subst, arith}
use Rattle.std.specs.Prelude.{Contains, option_and_then, slice_get, slice_index_or}
use Rattle.std.specs.Option.{option_map}
use Rattle.std.proofs.lemmas.List.{get_or-set_other, get_or-set_same, length-set}
use Rattle.std.proofs.lemmas.Option.{get_or_from_slice_get, same_Some, slice_get-get_or, slice_get_within}
use Rattle.std.proofs.Math.ListN.{set}
use Rattle.vl_values.specs.declared.key.Key.{Key}
use Rattle.vl_values.specs.declared.value.Value.{Value}
use Rattle.vl_values.specs.declared.value.Value.TheVariants.{Null}
use Rattle.vl_values.specs.Fit.{is_held}
use Rattle.vl_vindex.specs.KeyRange.{Range}
use Rattle.vl_catalog.specs.declared.catalog.Catalog.{Catalog}
use Rattle.vl_catalog.specs.declared.column.Column.{Column}
use Rattle.vl_catalog.specs.declared.primary.Primary.{Primary}
use Rattle.vl_catalog.specs.declared.table.Table.{Table}
use Rattle.vl_catalog.specs.Fitting.{IsPlacedRow, IsRowOf}
use Rattle.vl_catalog.specs.Place.{place_by, place_in, shard_in}
use Rattle.vl_catalog.specs.Vindex.{ksid_of_value}
use Rattle.vl_rules.specs.ColumnVindexes.{is_sharded}
use Rattle.vl_rules.specs.Kept.{IsKeptTable}
use Rattle.vl_rules.specs.Order.{Checked}
use Rattle.vl_rules.proofs.TablesKept.{table_kept}
use Rattle.vl_plan.specs.declared.setting.Setting.{Setting}
use Rattle.vl_plan.specs.Fits.{IsSettingOf}
use Rattle.vl_change.specs.Changes.{with_setting, with_settings}
use Rattle.vl_change.proofs.Dues.{contains_at}

number_is : (n c : ℕ) → (n ≡ c) ⊎ (n ≢ c)
number_is n c = grind arith

held_at : (table : Table) (row : List Value) (setting : Setting) (n : ℕ) (column : Column) (value : Value) → IsRowOf table row → IsSettingOf table setting → slice_get table.columns n ≡ Some column
    → slice_get (set row setting.column setting.value) n ≡ Some value → (n ≡ setting.column) ⊎ (n ≢ setting.column) → is_held column.ty column.nullable value ≡ true
held_at table row setting n column value fits is at here (inl own) =
    let within : n < length row = omega (arith, slice_get_within (set row setting.column setting.value) n value here, length-set row setting.column setting.value) in
    let its : value ≡ setting.value =
    sym (get_or_from_slice_get (set row setting.column setting.value) n value Null here)
    ∙ ap (λ (k : ℕ). get_or (set row setting.column setting.value) k Null) own ∙ get_or-set_same row setting.column setting.value Null (subst (λ (k : ℕ). k < length row) own within) in
    let col : column ≡ is.column = same_Some column is.column (sym at ∙ ap (slice_get table.columns) own ∙ is.is_column) in
    subst (λ (v : Value). is_held column.ty column.nullable v ≡ true) (sym its) (subst (λ (c : Column). is_held c.ty c.nullable setting.value ≡ true) (sym col) is.held)
held_at table row setting n column value fits is at here (inr other) =
    let within : n < length row = omega (arith, slice_get_within (set row setting.column setting.value) n value here, length-set row setting.column setting.value) in
    let same : get_or row n Null ≡ value =
    sym (get_or-set_other row setting.column n setting.value Null other) ∙ get_or_from_slice_get (set row setting.column setting.value) n value Null here in
    fits.held n column value at (slice_get-get_or row n Null within ∙ ap (λ (v : Value). Some v) same)

row_set : (table : Table) (row : List Value) (setting : Setting) → IsRowOf table row → IsSettingOf table setting → IsRowOf table (with_setting row setting)
row_set table row setting fits is = record {
  whole = length-set row setting.column setting.value ∙ fits.whole;
  held = λ n column value at here. held_at table row setting n column value fits is at here (number_is n setting.column);
}

-- the columns of a list that doesn't have the one that is set keep their values
others_keep : (row : List Value) (c : ℕ) (v : Value) (columns : List ℕ) → (Contains columns c → ⊥) → map (λ k. slice_index_or (set row c v) k Null) columns ≡ map (λ k. slice_index_or row k Null) columns
others_keep row c v [] off = refl
others_keep row c v (k ∷ columns) off =
    let apart : k ≢ c = λ (e : k ≡ c). off (0, omega arith, e) in
    let first : get_or (set row c v) k Null ≡ get_or row k Null = get_or-set_other row c k v Null apart in
    let rest = others_keep row c v columns (λ (in_rest : Contains columns c). off (suc in_rest.0, omega (arith, in_rest.1), in_rest.2)) in
    ap (λ (it : Value). it ∷ map (λ k. slice_index_or (set row c v) k Null) columns) first ∙ ap (λ (its : List Value). get_or row k Null ∷ its) rest

-- ---- the place

placed_by : (rings : List (List Range)) (k : ℕ) (o : Option Primary) (row : List Value) (c : ℕ) (v : Value) → ((primary : Primary) → o ≡ Some primary → primary.column ≢ c)
    → place_by rings k o (set row c v) ≡ place_by rings k o row
placed_by rings k None row c v off = refl
placed_by rings k (Some primary) row c v off =
    ap (λ (it : Value). option_map (shard_in rings k) (ksid_of_value primary.vindex it)) (get_or-set_other row c primary.column v Null (off primary refl))

off_primary : (catalog : Catalog) (number : ℕ) (table : Table) (setting : Setting) (b : Bool) → is_sharded catalog table ≡ b → IsKeptTable catalog number table → IsSettingOf table setting
    → (primary : Primary) → table.primary ≡ Some primary → primary.column ≢ setting.column
off_primary catalog number table setting true kind kept is primary has same =
    let p = kept.sharded kind in
    let own : p.primary ≡ primary = same_Some p.primary primary (sym p.has ∙ has) in
    let at = p.in_key in
    is.off_key (contains_at table.pk at.0 setting.column (at.1 ∙ ap (λ (n : ℕ). Some n) (ap (λ (it : Primary). it.column) own ∙ same)))
off_primary catalog number table setting false kind kept is primary has same = absurd (cc (has, (kept.unsharded kind).primary))

-- ---- the whole

one_set : (catalog : Catalog) (shard : ℕ) (key : Key) (row : List Value) (setting : Setting) → Checked catalog → IsPlacedRow catalog shard key row
    → ((table : Table) → slice_get catalog.tables key.table ≡ Some table → IsSettingOf table setting) → IsPlacedRow catalog shard key (with_setting row setting)
one_set catalog shard key row setting checked placed sets =
    let table = placed.table in
    let is = sets table placed.is_table in
    let kept = table_kept catalog key.table table checked placed.is_table in
    record {
      table = table;
      is_table = placed.is_table;
      fits = row_set table row setting placed.fits is;
      keyed = placed.keyed ∙ sym (others_keep row setting.column setting.value table.pk is.off_key);
      placed = ap (option_and_then (λ (it : Table). place_in catalog it (with_setting row setting))) placed.is_table
          ∙ placed_by catalog.rings table.keyspace table.primary row setting.column setting.value (off_primary catalog key.table table setting (is_sharded catalog table) refl kept is)
          ∙ sym (ap (option_and_then (λ (it : Table). place_in catalog it row)) placed.is_table) ∙ placed.placed;
    }

pub all_set : (catalog : Catalog) (shard : ℕ) (key : Key) (settings : List Setting) (row : List Value) → Checked catalog → IsPlacedRow catalog shard key row
    → ((table : Table) (setting : Setting) → slice_get catalog.tables key.table ≡ Some table → Contains settings setting → IsSettingOf table setting) → IsPlacedRow catalog shard key (with_settings settings row)
all_set catalog shard key [] row checked placed sets = placed
all_set catalog shard key (setting ∷ settings) row checked placed sets =
    all_set catalog shard key settings (with_setting row setting) checked (one_set catalog shard key row setting checked placed (λ table at. sets table setting at (0, omega arith, refl)))
    (λ table other at in_rest. sets table other at (suc in_rest.0, omega (arith, in_rest.1), in_rest.2))
