-- The claim for a row: its entry is the one that the row needs, and its acts fit.
use Rattle.std.proofs.Common.{◌≡◌, ◌≢◌, ℕ, zero, suc, ◌+◌, ◌<◌, ◌≤◌, Bool, true, false, not, ◌&&◌, cond, List, [], ◌∷◌, ◌++◌, length, get_or, map, Option, Some, None, refl, sym, ap, ◌∙◌, subst, arith}
use Rattle.std.specs.Prelude.{All, Contains, position, slice_get, ◌==◌}
use Rattle.std.proofs.lemmas.Option.{same_Some, slice_get-get_or}
use Rattle.vl_values.specs.declared.key.Key.{Key}
use Rattle.vl_values.specs.declared.pred.Pred.{Pred}
use Rattle.vl_values.specs.declared.test.Test.{Test}
use Rattle.vl_values.specs.declared.value.Value.{Value}
use Rattle.vl_values.specs.declared.value.Value.TheVariants.{Null, Bytes}
use Rattle.vl_values.specs.Fit.{is_of_type}
use Rattle.vl_values.specs.Keyed.{is_key}
use Rattle.vl_values.specs.Pred.{matches}
use Rattle.vl_values.specs.Value.{is_null}
use Rattle.vl_vindex.specs.Ring.{CoversOnce}
use Rattle.vl_catalog.specs.declared.catalog.Catalog.{Catalog}
use Rattle.vl_catalog.specs.declared.column.Column.{Column}
use Rattle.vl_catalog.specs.declared.lookup.Lookup.{Lookup}
use Rattle.vl_catalog.specs.declared.table.Table.{Table}
use Rattle.vl_catalog.specs.Fitting.{FitsPred, IsPlacedRow, IsRowOf, IsTestOf, key_of}
use Rattle.vl_catalog.specs.Place.{ksid_of, place, shard_count}
use Rattle.vl_rules.specs.Kept.{HaveOneType, IsIn, IsKeptLookup}
use Rattle.vl_rules.specs.Lookups.{indexed_columns, is_wide_column}
use Rattle.vl_rules.specs.Order.{Checked}
use Rattle.vl_rules.proofs.LookupsKept.{lookup_kept}
use Rattle.vl_rules.proofs.TablesKept.{table_kept}
use Rattle.vl_model.specs.Entries.{first_column, from_columns, key_but, named_in}
use Rattle.vl_port.specs.View.{Values}
use Rattle.vl_lookup.specs.declared.stage.Stage.TheVariants as stages
use Rattle.vl_lookup.specs.Entry.{at, entry_row, test_of}
use Rattle.vl_lookup.specs.Making.{HasOwner, IsClaim, IsIndexedRow, IsMadeFor, entry_values}
use Rattle.vl_lookup.specs.Progress.{Progress}
use Rattle.vl_route.proofs.Homes.{placed_within}
use Rattle.vl_lookup.proofs.Matching.{AreWhole, matched}
use Rattle.vl_lookup.proofs.Rows.{Fitting, entry_fits, from_values, given_typed, named_to, to_within}

-- what is read of the catalog for a claim
pub record IsRead (catalog : Catalog) (number owner_number table_number column to : ℕ) (lookup : Lookup) (owner table : Table) : Type 0 where
  pub is_lookup : slice_get catalog.lookups number ≡ Some lookup
  pub has_owner : lookup.owner ≡ Some owner_number
  pub has_table : lookup.table ≡ Some table_number
  pub has_column : lookup.column ≡ Some column
  pub has_to : lookup.to ≡ Some to
  pub is_owner : slice_get catalog.tables owner_number ≡ Some owner
  pub is_table : slice_get catalog.tables table_number ≡ Some table

-- what the rules say of that
record Parts (lookup : Lookup) (owner table : Table) (column to : ℕ) : Type 0 where
  key_is_from : table.pk ≡ lookup.from
  wide : is_wide_column table.columns to ≡ true
  off : IsIn lookup.from to → ⊥
  nullable : (n : ℕ) (besides : Column) → slice_get table.columns n ≡ Some besides → (IsIn lookup.from n → ⊥) → (lookup.to ≡ Some n → ⊥) → besides.nullable ≡ true
  as_many : length lookup.from ≡ length (indexed_columns lookup.unique owner.pk column)
  types : (k m n : ℕ) → slice_get lookup.from k ≡ Some m → slice_get (indexed_columns lookup.unique owner.pk column) k ≡ Some n → HaveOneType table.columns owner.columns m n

parts : (catalog : Catalog) (number owner_number table_number column to : ℕ) (lookup : Lookup) (owner table : Table) → Checked catalog → IsRead catalog number owner_number table_number column to lookup owner table → Parts lookup owner table column to
parts catalog number owner_number table_number column to lookup owner table checked read =
    let kept = lookup_kept catalog number lookup checked read.is_lookup in
    let owner_is : kept.owner ≡ owner = same_Some kept.owner owner (sym kept.is_owner ∙ ap (slice_get catalog.tables) (same_Some kept.owner_number owner_number (sym kept.has_owner ∙ read.has_owner)) ∙ read.is_owner) in
    let table_is : kept.table ≡ table = same_Some kept.table table (sym kept.is_table ∙ ap (slice_get catalog.tables) (same_Some kept.table_number table_number (sym kept.has_table ∙ read.has_table)) ∙ read.is_table) in
    let column_is : kept.column ≡ column = same_Some kept.column column (sym kept.has_column ∙ read.has_column) in
    let to_is : kept.to ≡ to = same_Some kept.to to (sym kept.has_to ∙ read.has_to) in
    let with_kept : Parts lookup kept.owner kept.table kept.column kept.to = record {
      key_is_from = kept.key_is_from;
      wide = kept.wide;
      off = kept.to_off_from;
      nullable = kept.nullable;
      as_many = kept.as_many;
      types = kept.types;
    } in
    subst (λ (o : Table). Parts lookup o table column to) owner_is
    (subst (λ (t : Table). Parts lookup kept.owner t column to) table_is
    (subst (λ (c : ℕ). Parts lookup kept.owner kept.table c to) column_is
    (subst (λ (n : ℕ). Parts lookup kept.owner kept.table kept.column n) to_is with_kept)))

-- ---- the columns of the entry's values

columns_are : (lookup : Lookup) (owner : Table) (column : ℕ) → lookup.column ≡ Some column → from_columns lookup owner ≡ indexed_columns lookup.unique owner.pk column
columns_are lookup owner column is = ap (λ (o : Option ℕ). first_column o ++ cond lookup.unique [] (key_but o owner.pk)) is

whole_from : (row : Values) (columns : List ℕ) → All (λ (value : Value). is_null value ≡ false) (map (at row) columns) → AreWhole row columns
whole_from row [] all = tt
whole_from row (n ∷ columns) all = (all 0 Null (omega arith), whole_from row columns (λ k d within. all (suc k) d (omega (arith, within))))

record IsGiven (lookup : Lookup) (owner : Table) (row : Values) : Type 0 where
  fits : IsRowOf owner row
  whole : All (λ (value : Value). is_null value ≡ false) (entry_values lookup owner row)

given : (catalog : Catalog) (number owner_number : ℕ) (lookup : Lookup) (owner : Table) (row : Values) → IsIndexedRow catalog number row → slice_get catalog.lookups number ≡ Some lookup → lookup.owner ≡ Some owner_number
    → slice_get catalog.tables owner_number ≡ Some owner → IsGiven lookup owner row
given catalog number owner_number lookup owner row indexed is_lookup has_owner is_owner =
    let lookup_is : indexed.lookup ≡ lookup = same_Some indexed.lookup lookup (sym indexed.owned.is_lookup ∙ is_lookup) in
    let number_is : indexed.owner_number ≡ owner_number = same_Some indexed.owner_number owner_number (sym indexed.owned.has_owner ∙ ap (λ (l : Lookup). l.owner) lookup_is ∙ has_owner) in
    let owner_is : indexed.owner ≡ owner = same_Some indexed.owner owner (sym indexed.owned.is_owner ∙ ap (slice_get catalog.tables) number_is ∙ is_owner) in
    let it : IsGiven indexed.lookup indexed.owner row = record { fits = indexed.fits; whole = indexed.whole } in
    subst (λ (l : Lookup). IsGiven l owner row) lookup_is (subst (λ (o : Table). IsGiven indexed.lookup o row) owner_is it)

pub fitting : (catalog : Catalog) (number owner_number table_number column to : ℕ) (lookup : Lookup) (owner table : Table) (row : Values) (ksid : List ℕ) → Checked catalog → IsIndexedRow catalog number row
    → IsRead catalog number owner_number table_number column to lookup owner table → ((k : ℕ) → k < length lookup.from → position (λ m. m == get_or lookup.from k 0) lookup.from ≡ Some k) → length ksid ≤ 16
    → Fitting row owner table (from_columns lookup owner) lookup.from to ksid
fitting catalog number owner_number table_number column to lookup owner table row ksid checked indexed read each short =
    let p = parts catalog number owner_number table_number column to lookup owner table checked read in
    let it = given catalog number owner_number lookup owner row indexed read.is_lookup read.has_owner read.is_owner in
    let are = columns_are lookup owner column read.has_column in
    record {
      each = each;
      long = p.as_many ∙ ap length (sym are);
      types = λ k m n is_m is_n. p.types k m n is_m (ap (λ (xs : List ℕ). slice_get xs k) (sym are) ∙ is_n);
      off = p.off;
      wide = p.wide;
      besides = λ n besides is off_from off_to. p.nullable n besides is off_from (λ to_is. off_to (same_Some n to (sym to_is ∙ read.has_to)));
      fits = it.fits;
      whole = whole_from row (from_columns lookup owner) it.whole;
      short = short;
    }

-- ---- the claim

abbrev pub claim_of : ℕ → ℕ → ℕ → Key → Values → ℕ → List ℕ → Pred → Progress
claim_of number to keyspace key row shard ksid pred = record { lookup = number; to = to; keyspace = keyspace; key = key; row = row; shard = shard; ksid = ksid; pred = pred; stage = stages.First }

matched_in : (table owner column : ℕ) (rest columns : List ℕ) (other row : Values) (key : Key) → columns ≡ column ∷ rest → key ≡ record { table = table; pk = map (at row) columns } → AreWhole row columns
    → matches (record { table = owner; tests = map (test_of row) columns }) other ≡ (not (is_null (at other column)) && is_key (record { table = key.table; pk = map (at other) columns }) key)
matched_in table owner column rest columns other row key are key_is whole =
    subst (λ (k : Key). matches (record { table = owner; tests = map (test_of row) columns }) other ≡ (not (is_null (at other column)) && is_key (record { table = k.table; pk = map (at other) columns }) k)) (sym key_is)
    (subst (λ (xs : List ℕ). AreWhole row xs → matches (record { table = owner; tests = map (test_of row) xs }) other ≡ (not (is_null (at other column)) && is_key (record { table = table; pk = map (at other) xs }) (record { table = table; pk = map (at row) xs }))) (sym are)
    (matched table owner column rest other row) whole)

first_some : (row : Values) (column : ℕ) (rest columns : List ℕ) → columns ≡ column ∷ rest → AreWhole row columns → is_null (at row column) ≡ false
first_some row column rest columns are whole = (subst (AreWhole row) are whole).0

module _ (catalog : Catalog) (number owner_number table_number column to : ℕ) (lookup : Lookup) (owner table : Table) (row : Values) (ksid : List ℕ)
    (checked : Checked catalog) (read : IsRead catalog number owner_number table_number column to lookup owner table) (f : Fitting row owner table (from_columns lookup owner) lookup.from to ksid) where
  abbrev pub entry : Values
  entry = entry_row row (from_columns lookup owner) lookup.from to ksid (length table.columns)

  key_is : key_of table_number table entry ≡ record { table = table_number; pk = map (at row) (from_columns lookup owner) }
  key_is =
      ap (λ (pk : Values). record { table = table_number; pk = pk })
      (ap (map (at entry)) (parts catalog number owner_number table_number column to lookup owner table checked read).key_is_from ∙ from_values f)

  named : at entry to ≡ Bytes ksid
  named = named_to row (from_columns lookup owner) lookup.from to ksid (length table.columns) (to_within table.columns to f.wide)

  pub made : (shard : ℕ) → ksid_of catalog owner_number row ≡ Some ksid
      → IsMadeFor catalog number row (claim_of number to owner.keyspace (key_of table_number table entry) entry shard ksid (record { table = owner_number; tests = map (test_of row) (from_columns lookup owner) }))
  made shard is_ksid = record {
    lookup = lookup;
    owner_number = owner_number;
    owner = owner;
    column = column;
    owned = record { is_lookup = read.is_lookup; has_owner = read.has_owner; is_owner = read.is_owner };
    has_column = read.has_column;
    numbered = refl;
    keyspace = refl;
    needs = record {
      indexed = record { owner = read.has_owner; value = (column, read.has_column, first_some row column _ (from_columns lookup owner) (columns_are lookup owner column read.has_column) f.whole) };
      is_entry = read.has_table;
      values = (owner, read.is_owner, from_values f);
      names = (ksid, to, is_ksid, read.has_to, named);
    };
    ksid = is_ksid;
    to = read.has_to;
    names = ap named_in named;
    pred = refl;
    matched = λ other. matched_in table_number owner_number column _ (from_columns lookup owner) other row (key_of table_number table entry) (columns_are lookup owner column read.has_column) key_is f.whole;
    first = refl;
  }

  mapped_from : {A B : Type 0} (g : A → B) (xs : List A) (y : B) → Contains (map g xs) y → (x : A) × Contains xs x × (g x ≡ y)
  mapped_from g [] y among = absurd (omega (arith, among.1))
  mapped_from g (x ∷ xs) y (zero, within, at) = (x, (0, omega arith, refl), at)
  mapped_from g (x ∷ xs) y (suc k, within, at) =
      let it = mapped_from g xs y (k, omega (arith, within), at) in
      (it.0, (suc it.1.0, omega (arith, it.1.1), it.1.2), it.2)

  only : (x v : Value) → Contains (x ∷ []) v → x ≡ v
  only x v (zero, within, at) = at
  only x v (suc k, within, at) = absurd (omega (arith, within))

  test_fits : (test : Test) → Contains (map (test_of row) (from_columns lookup owner)) test → IsTestOf owner test
  test_fits test among =
      let from = mapped_from (test_of row) (from_columns lookup owner) test among in
      let n = from.0 in
      let k = from.1.0 in
      let below : k < length (from_columns lookup owner) = from.1.1 in
      let is_n : slice_get (from_columns lookup owner) k ≡ Some n = slice_get-get_or (from_columns lookup owner) k n below ∙ ap Some from.1.2 in
      let typed = given_typed f k (get_or lookup.from k 0) n (slice_get-get_or lookup.from k 0 (omega (arith, below, f.long))) is_n in
      subst (IsTestOf owner) from.2
      (record {
        column = typed.0;
        is_column = typed.1;
        typed = λ value with_it. subst (λ (v : Value). is_of_type typed.0.ty v ≡ true) (only (at row n) value with_it) typed.2;
        ascending = λ i j d below within. absurd (omega (arith, below, within));
      })

  pub ready : (shard : ℕ) → CoversOnce (get_or catalog.rings table.keyspace []) → place catalog table_number entry ≡ Some shard
      → IsClaim catalog (shard_count catalog.rings) (claim_of number to owner.keyspace (key_of table_number table entry) entry shard ksid (record { table = owner_number; tests = map (test_of row) (from_columns lookup owner) }))
  ready shard covers placed = record {
    entry = record { table = table; is_table = read.is_table; fits = entry_fits f; keyed = refl; placed = placed };
    shard = placed_within catalog table_number table entry shard covers read.is_table placed;
    pred = record { table = owner; is_table = read.is_owner; tests = test_fits };
    keyspace = (table_kept catalog owner_number owner checked read.is_owner).keyspace;
    stage = tt;
  }

-- ---- the same of what the calls gave

pub entry_is : (row entry : Values) (four columns cols from given : List ℕ) (five ksid : List ℕ) (to width wide : ℕ) → entry ≡ entry_row row four from to five width → four ≡ columns → columns ≡ cols → from ≡ given → five ≡ ksid → width ≡ wide
    → entry ≡ entry_row row cols given to ksid wide
entry_is row entry four columns cols from given five ksid to width wide is a b f k w =
    is
    ∙ ap (λ (xs : List ℕ). entry_row row xs from to five width) (a ∙ b)
    ∙ ap (λ (xs : List ℕ). entry_row row cols xs to five width) f
    ∙ ap (λ (xs : List ℕ). entry_row row cols given to xs width) k
    ∙ ap (entry_row row cols given to ksid) w

pub key_made : (number : ℕ) (table : Table) (six entry whole : Values) (key : Key) → key ≡ key_of number table six → six ≡ entry → entry ≡ whole → key ≡ key_of number table whole
key_made number table six entry whole key is a b = is ∙ ap (key_of number table) (a ∙ b)

pub placed_at : (catalog : Catalog) (number : ℕ) (seven entry whole : Values) (o : Option ℕ) (shard : ℕ) → o ≡ place catalog number seven → o ≡ Some shard → seven ≡ entry → entry ≡ whole → place catalog number whole ≡ Some shard
placed_at catalog number seven entry whole o shard is some a b = ap (place catalog number) (sym (a ∙ b)) ∙ sym is ∙ some

pub each_of : (from given : List ℕ) → from ≡ given → ((k : ℕ) → k < length from → position (λ m. m == get_or from k 0) from ≡ Some k) → (k : ℕ) → k < length given → position (λ m. m == get_or given k 0) given ≡ Some k
each_of from given is each = subst (λ (xs : List ℕ). (k : ℕ) → k < length xs → position (λ m. m == get_or xs k 0) xs ≡ Some k) is each

pub made_of : (catalog : Catalog) (number owner_number table_number column to : ℕ) (lookup : Lookup) (owner table : Table) (row : Values) (ksid : List ℕ) (key : Key) (given : Values) (tests : List Test) (shard : ℕ)
    → Checked catalog → IsRead catalog number owner_number table_number column to lookup owner table → Fitting row owner table (from_columns lookup owner) lookup.from to ksid
    → key ≡ key_of table_number table (entry_row row (from_columns lookup owner) lookup.from to ksid (length table.columns)) → given ≡ entry_row row (from_columns lookup owner) lookup.from to ksid (length table.columns)
    → tests ≡ map (test_of row) (from_columns lookup owner) → ksid_of catalog owner_number row ≡ Some ksid
    → IsMadeFor catalog number row (claim_of number to owner.keyspace key given shard ksid (record { table = owner_number; tests = tests }))
made_of catalog number owner_number table_number column to lookup owner table row ksid key given tests shard checked read f key_is given_is tests_are is_ksid =
    subst (λ (k : Key). IsMadeFor catalog number row (claim_of number to owner.keyspace k given shard ksid (record { table = owner_number; tests = tests }))) (sym key_is)
    (subst (λ (r : Values). IsMadeFor catalog number row (claim_of number to owner.keyspace (key_of table_number table (entry_row row (from_columns lookup owner) lookup.from to ksid (length table.columns))) r shard ksid (record { table = owner_number; tests = tests }))) (sym given_is)
    (subst (λ (t : List Test). IsMadeFor catalog number row (claim_of number to owner.keyspace (key_of table_number table (entry_row row (from_columns lookup owner) lookup.from to ksid (length table.columns))) (entry_row row (from_columns lookup owner) lookup.from to ksid (length table.columns)) shard ksid (record { table = owner_number; tests = t }))) (sym tests_are)
    (made catalog number owner_number table_number column to lookup owner table row ksid checked read f shard is_ksid)))

pub ready_of : (catalog : Catalog) (number owner_number table_number column to : ℕ) (lookup : Lookup) (owner table : Table) (row : Values) (ksid : List ℕ) (key : Key) (given : Values) (tests : List Test) (shard : ℕ)
    → Checked catalog → IsRead catalog number owner_number table_number column to lookup owner table → Fitting row owner table (from_columns lookup owner) lookup.from to ksid
    → key ≡ key_of table_number table (entry_row row (from_columns lookup owner) lookup.from to ksid (length table.columns)) → given ≡ entry_row row (from_columns lookup owner) lookup.from to ksid (length table.columns)
    → tests ≡ map (test_of row) (from_columns lookup owner) → CoversOnce (get_or catalog.rings table.keyspace []) → place catalog table_number (entry_row row (from_columns lookup owner) lookup.from to ksid (length table.columns)) ≡ Some shard
    → IsClaim catalog (shard_count catalog.rings) (claim_of number to owner.keyspace key given shard ksid (record { table = owner_number; tests = tests }))
ready_of catalog number owner_number table_number column to lookup owner table row ksid key given tests shard checked read f key_is given_is tests_are covers placed =
    subst (λ (k : Key). IsClaim catalog (shard_count catalog.rings) (claim_of number to owner.keyspace k given shard ksid (record { table = owner_number; tests = tests }))) (sym key_is)
    (subst (λ (r : Values). IsClaim catalog (shard_count catalog.rings) (claim_of number to owner.keyspace (key_of table_number table (entry_row row (from_columns lookup owner) lookup.from to ksid (length table.columns))) r shard ksid (record { table = owner_number; tests = tests }))) (sym given_is)
    (subst (λ (t : List Test). IsClaim catalog (shard_count catalog.rings) (claim_of number to owner.keyspace (key_of table_number table (entry_row row (from_columns lookup owner) lookup.from to ksid (length table.columns))) (entry_row row (from_columns lookup owner) lookup.from to ksid (length table.columns)) shard ksid (record { table = owner_number; tests = t }))) (sym tests_are)
    (ready catalog number owner_number table_number column to lookup owner table row ksid checked read f shard covers placed)))

pub keyspace_within : (catalog : Catalog) (number : ℕ) (table : Table) → Checked catalog → slice_get catalog.tables number ≡ Some table → table.keyspace < length catalog.rings
keyspace_within catalog number table checked is = (table_kept catalog number table checked is).keyspace

-- an element that was looked up
pub found_in : {X : Type 0} (xs ys : List X) (n : ℕ) (x : X) → xs ≡ ys → n < length xs → x ≡ get_or xs n x → slice_get ys n ≡ Some x
found_in {X} xs ys n x same within is = subst (λ (zs : List X). slice_get zs n ≡ Some x) same (slice_get-get_or xs n x within ∙ ap (λ (t : X). Some t) (sym is))
