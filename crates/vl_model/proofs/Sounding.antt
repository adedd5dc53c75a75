-- What soundness says of tables, and what a row needs of its entry.
use Rattle.std.proofs.Common.{◌≡◌, ℕ, zero, suc, Bool, true, false, cond, List, [], ◌∷◌, ◌++◌, map, replicate, sym, ◌∙◌, ap, arith, Option, Some, None}
use Rattle.vl_catalog.specs.declared.catalog.Catalog.{Catalog}
use Rattle.vl_catalog.specs.declared.lookup.Lookup.{Lookup}
use Rattle.vl_model.specs.Tables.{Tables, Pair, Stands, column}
use Rattle.vl_model.specs.Entries.{Needs, first_column, key_but}
use Rattle.vl_model.specs.Sound.{Placed, Sound}

some_is : {X : Type 0} (x y : X) → Some x ≡ Some y → x ≡ y
some_is x y h = cc

-- ---- shards that hold nothing are sound

nothing_stands : (shards shard : ℕ) (pair : Pair) → Stands (replicate shards []) shard pair → ⊥
nothing_stands zero zero pair (k, within, is) = omega arith
nothing_stands zero (suc shard) pair (k, within, is) = omega arith
nothing_stands (suc shards) zero pair (k, within, is) = omega arith
nothing_stands (suc shards) (suc shard) pair h = nothing_stands shards shard pair h

pub none_sound : (catalog : Catalog) (shards : ℕ) → Sound catalog (replicate shards [])
none_sound catalog shards = record {
  placed = λ shard pair h. absurd (nothing_stands shards shard pair h);
  covered = λ lookup shard row known h indexed. absurd (nothing_stands shards shard row h);
  unique = λ lookup n s t row other known unique column h k indexed also same. absurd (nothing_stands shards s row h);
}

-- ---- a row stands on one shard only

pub one_shard : (catalog : Catalog) (c : Tables) (s t : ℕ) (pair : Pair) → Placed catalog c → Stands c s pair → Stands c t pair → s ≡ t
one_shard catalog c s t pair placed here there = some_is s t (sym (placed s pair here) ∙ placed t pair there)

-- ---- the entry of a unique lookup has the row's value alone

value_alone : (unique : Bool) (by : Option ℕ) (n : ℕ) (key : List ℕ) (row : Pair) → unique ≡ true → by ≡ Some n
    → map (column row) (first_column by ++ cond unique [] (key_but by key)) ≡ column row n ∷ []
value_alone true None n key row is has = absurd (cc)
value_alone true (Some m) n key row is has = ap (λ (k : ℕ). column row k ∷ []) (some_is m n has)
value_alone false by n key row is has = absurd (cc)

pub unique_entry : (catalog : Catalog) (lookup : Lookup) (n : ℕ) (row entry : Pair) → lookup.unique ≡ true → lookup.column ≡ Some n → Needs catalog lookup row entry
    → map (column entry) lookup.from ≡ column row n ∷ []
unique_entry catalog lookup n row entry unique has needs =
    needs.values.2 ∙ value_alone lookup.unique lookup.column n needs.values.0.pk row unique has
