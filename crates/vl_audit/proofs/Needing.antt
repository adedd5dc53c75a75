-- A row needs an entry exactly where it needs the mapping that the entry says.
use Rattle.std.proofs.Common.{◌≡◌, ℕ, true, false, List, slice_get, Option, None, Some, refl, sym, ap, ◌∙◌, ⊎_elim}
use Rattle.std.specs.Option.{is_some, option_and_then, option_map}
use Rattle.std.proofs.lemmas.Bool.{cases_Bool, cond-true, cond-false, eqb-true, eq-eqb, true≢false}
use Rattle.std.proofs.lemmas.Option.{none-some, same_Some}
use Rattle.vl_values.specs.declared.value.Value.{Value}
use Rattle.vl_values.specs.declared.value.Value.TheVariants.{Null, Int, Uint, Bytes}
use Rattle.vl_values.specs.Value.{is_null}
use Rattle.vl_catalog.specs.declared.catalog.Catalog.{Catalog}
use Rattle.vl_catalog.specs.declared.lookup.Lookup.{Lookup}
use Rattle.vl_catalog.specs.declared.table.Table.{Table}
use Rattle.vl_catalog.specs.Place.{ksid_of}
use Rattle.vl_model.specs.Tables.{Pair, column, table_of}
use Rattle.vl_model.specs.Entries.{IsEntry, IsIndexed, Needs, from_columns, is_served_by, named_by, named_in}
use Rattle.vl_audit.specs.declared.mapping.Mapping.{Mapping}
use Rattle.vl_audit.specs.Mapping.{entry_mapping, is_indexed, ksid_named, mapping_of, not_null, owner_mapping, row_mapping, value_of}

-- ---- whose table it is

pub served : (table : ℕ) (number : Option ℕ) → is_served_by table number ≡ true → number ≡ Some table
served table None h = absurd (true≢false (sym h))
served table (Some other) h = ap Some (eqb-true other table h)

pub serves : (table : ℕ) (number : Option ℕ) → number ≡ Some table → is_served_by table number ≡ true
serves table number h = ap (is_served_by table) h ∙ eq-eqb table table refl

-- ---- a row's value

module _ (lookup : Lookup) (row : Pair) where
  not_null_is : (value : Value) → is_null value ≡ false → not_null value ≡ Some value
  not_null_is value h = cond-false (is_null value) None (Some value) h

  from_not_null : (value v : Value) → not_null value ≡ Some v → (is_null value ≡ false) × (value ≡ v)
  from_not_null value v h =
      ⊎_elim
      (λ null. absurd (none-some v (sym (cond-true (is_null value) None (Some value) null) ∙ h)))
      (λ filled. (filled, same_Some value v (sym (cond-false (is_null value) None (Some value) filled) ∙ h)))
      (cases_Bool (is_null value))

  -- the value of an indexed row
  pub has_value : (n : ℕ) → lookup.column ≡ Some n → IsIndexed lookup row → value_of lookup row ≡ Some (column row n)
  has_value n is indexed =
      let same : indexed.value.0 ≡ n = same_Some indexed.value.0 n (sym indexed.value.1 ∙ is) in
      cond-true _ _ None (serves (table_of row) lookup.owner indexed.owner)
      ∙ ap (option_and_then (λ m. not_null (column row m))) is
      ∙ not_null_is (column row n) (ap (λ m. is_null (column row m)) (sym same) ∙ indexed.value.2)

  value_at : (number : Option ℕ) (v : Value) → lookup.column ≡ number → lookup.owner ≡ Some (table_of row) → option_and_then (λ m. not_null (column row m)) number ≡ Some v
      → (n : ℕ) × (lookup.column ≡ Some n) × IsIndexed lookup row × (column row n ≡ v)
  value_at None v is owner h = absurd (none-some v h)
  value_at (Some n) v is owner h =
      let value = from_not_null (column row n) v h in
      (n, is, record { owner = owner; value = (n, is, value.0) }, value.1)

  pub from_value : (v : Value) → value_of lookup row ≡ Some v → (n : ℕ) × (lookup.column ≡ Some n) × IsIndexed lookup row × (column row n ≡ v)
  from_value v h =
      ⊎_elim
      (λ is. value_at lookup.column v refl (served (table_of row) lookup.owner is) (sym (cond-true _ _ None is) ∙ h))
      (λ off. absurd (none-some v (sym (cond-false _ _ None off) ∙ h)))
      (cases_Bool (is_served_by (table_of row) lookup.owner))

  some_value : (o : Option Value) → value_of lookup row ≡ o → is_some o ≡ true → (v : Value) × (value_of lookup row ≡ Some v)
  some_value None is h = absurd (true≢false (sym h))
  some_value (Some v) is h = (v, is)

  pub indexed_from : is_indexed lookup row ≡ true → IsIndexed lookup row
  indexed_from h = (from_value (some_value (value_of lookup row) refl h).0 (some_value (value_of lookup row) refl h).1).2

  pub indexed_is : IsIndexed lookup row → is_indexed lookup row ≡ true
  indexed_is indexed = ap is_some (has_value indexed.value.0 indexed.value.1 indexed)

-- ---- mappings

abbrev some_mapping : Mapping → Option Mapping
some_mapping mapping = Some mapping

same_mapping : (m n : Mapping) → Some m ≡ Some n → m ≡ n
same_mapping m n h = cc

bytes_named : (v : Value) (ksid : List ℕ) → named_in v ≡ Some ksid → v ≡ Bytes ksid
bytes_named Null ksid h = absurd (none-some ksid h)
bytes_named (Int n) ksid h = absurd (none-some ksid h)
bytes_named (Uint n) ksid h = absurd (none-some ksid h)
bytes_named (Bytes s) ksid h = ap Bytes (same_Some s ksid h)

-- what an entry that says a mapping has
record Says (lookup : Lookup) (entry : Pair) (mapping : Mapping) : Type 0 where
  is_entry : IsEntry lookup entry
  to : ℕ
  ksid : List ℕ
  has_to : lookup.to ≡ Some to
  names : column entry to ≡ Bytes ksid
  is : mapping_of entry.1 lookup.from ksid ≡ mapping

module _ (lookup : Lookup) (entry : Pair) (mapping : Mapping) where
  says_ksid : (to : ℕ) → IsEntry lookup entry → lookup.to ≡ Some to → (o : Option (List ℕ)) → named_by to entry.1 ≡ o → option_map (mapping_of entry.1 lookup.from) o ≡ Some mapping → Says lookup entry mapping
  says_ksid to is_entry has None named h = absurd (none-some mapping h)
  says_ksid to is_entry has (Some ksid) named h = record {
    is_entry = is_entry;
    to = to;
    ksid = ksid;
    has_to = has;
    names = bytes_named (column entry to) ksid named;
    is = same_mapping (mapping_of entry.1 lookup.from ksid) mapping h;
  }

  says_to : IsEntry lookup entry → (number : Option ℕ) → lookup.to ≡ number → option_map (mapping_of entry.1 lookup.from) (ksid_named entry.1 number) ≡ Some mapping → Says lookup entry mapping
  says_to is_entry None is h = absurd (none-some mapping h)
  says_to is_entry (Some to) is h = says_ksid to is_entry is (named_by to entry.1) refl h

  says : entry_mapping lookup entry ≡ Some mapping → Says lookup entry mapping
  says h =
      ⊎_elim
      (λ is. says_to (served (table_of entry) lookup.table is) lookup.to refl (sym (cond-true _ _ None is) ∙ h))
      (λ off. absurd (none-some mapping (sym (cond-false _ _ None off) ∙ h)))
      (cases_Bool (is_served_by (table_of entry) lookup.table))

-- what a row that needs a mapping has
record Wants (catalog : Catalog) (lookup : Lookup) (row : Pair) (mapping : Mapping) : Type 0 where
  indexed : IsIndexed lookup row
  owner : Table
  is_owner : slice_get catalog.tables (table_of row) ≡ Some owner
  ksid : List ℕ
  has_ksid : ksid_of catalog (table_of row) row.1 ≡ Some ksid
  is : mapping_of row.1 (from_columns lookup owner) ksid ≡ mapping

module _ (catalog : Catalog) (lookup : Lookup) (row : Pair) (mapping : Mapping) where
  wants_ksid : IsIndexed lookup row → (owner : Table) → slice_get catalog.tables (table_of row) ≡ Some owner → (o : Option (List ℕ)) → ksid_of catalog (table_of row) row.1 ≡ o
      → owner_mapping lookup owner row.1 o ≡ Some mapping → Wants catalog lookup row mapping
  wants_ksid indexed owner at None is h = absurd (none-some mapping h)
  wants_ksid indexed owner at (Some ksid) is h = record {
    indexed = indexed;
    owner = owner;
    is_owner = at;
    ksid = ksid;
    has_ksid = is;
    is = same_mapping (mapping_of row.1 (from_columns lookup owner) ksid) mapping h;
  }

  wants_owner : IsIndexed lookup row → (o : Option Table) → slice_get catalog.tables (table_of row) ≡ o
      → option_and_then (λ (owner : Table). owner_mapping lookup owner row.1 (ksid_of catalog (table_of row) row.1)) o ≡ Some mapping → Wants catalog lookup row mapping
  wants_owner indexed None at h = absurd (none-some mapping h)
  wants_owner indexed (Some owner) at h = wants_ksid indexed owner at (ksid_of catalog (table_of row) row.1) refl h

  wants : row_mapping catalog lookup row ≡ Some mapping → Wants catalog lookup row mapping
  wants h =
      ⊎_elim
      (λ is. wants_owner (indexed_from lookup row is) (slice_get catalog.tables (table_of row)) refl (sym (cond-true _ _ None is) ∙ h))
      (λ off. absurd (none-some mapping (sym (cond-false _ _ None off) ∙ h)))
      (cases_Bool (is_indexed lookup row))

module _ (catalog : Catalog) (lookup : Lookup) (row entry : Pair) where
  -- both have one mapping
  abbrev pub Agree : Type 0
  Agree = (mapping : Mapping) × (row_mapping catalog lookup row ≡ Some mapping) × (entry_mapping lookup entry ≡ Some mapping)

  pub agree_from : Needs catalog lookup row entry → Agree
  agree_from needs =
      let owner = needs.values.0 in
      let ksid = needs.names.0 in
      let to = needs.names.1 in
      let said : entry_mapping lookup entry ≡ Some (mapping_of entry.1 lookup.from ksid) =
      cond-true _ _ None (serves (table_of entry) lookup.table needs.is_entry)
      ∙ ap (λ (n : Option ℕ). option_map (mapping_of entry.1 lookup.from) (ksid_named entry.1 n)) needs.names.3
      ∙ ap (λ (v : Value). option_map (mapping_of entry.1 lookup.from) (named_in v)) needs.names.4 in
      let needed : row_mapping catalog lookup row ≡ Some (mapping_of row.1 (from_columns lookup owner) ksid) =
      cond-true _ _ None (indexed_is lookup row needs.indexed)
      ∙ ap (option_and_then (λ (t : Table). owner_mapping lookup t row.1 (ksid_of catalog (table_of row) row.1))) needs.values.1
      ∙ ap (owner_mapping lookup owner row.1) needs.names.2 in
      let same : mapping_of row.1 (from_columns lookup owner) ksid ≡ mapping_of entry.1 lookup.from ksid =
      ap (λ (values : List Value). record { values = values; ksid = Bytes ksid }) (sym needs.values.2) in
      (mapping_of entry.1 lookup.from ksid, needed ∙ ap some_mapping same, said)

  pub needs_from : (mapping : Mapping) → row_mapping catalog lookup row ≡ Some mapping → entry_mapping lookup entry ≡ Some mapping → Needs catalog lookup row entry
  needs_from mapping needed said =
      let w = wants catalog lookup row mapping needed in
      let e = says lookup entry mapping said in
      record {
        indexed = w.indexed;
        is_entry = e.is_entry;
        values = (w.owner, w.is_owner, ap (λ (m : Mapping). m.values) (e.is ∙ sym w.is));
        names = (w.ksid, e.to, w.has_ksid, e.has_to, e.names ∙ ap (λ (m : Mapping). m.ksid) (e.is ∙ sym w.is));
      }
