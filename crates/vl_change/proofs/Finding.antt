-- The writes of the rows that a read gave: they fit, and stand in the order of the rows.
use Rattle.std.proofs.Common.{◌≡◌, ℕ, zero, suc, ◌<◌, ◌≤◌, inl, inr, Bool, true, false, cond, List, [], ◌∷◌, ◌++◌, length, get_or, Option, Some, None, refl, sym, ap, ◌∙◌, subst, arith}
use Rattle.std.specs.Prelude.{Contains, slice_get}
use Rattle.std.specs.List.{AllPairs, AllByRecursion, cons_option}
use Rattle.std.specs.List.Sorted.{IsStrictlySortedBy}
use Rattle.std.specs.Map.{keys_of}
use Rattle.std.specs.declared.cmp.Ordering.TheVariants.{Less}
use Rattle.std.specs.Ordering.{is_eq, is_lt}
use Rattle.std.proofs.lemmas.List.Elements.{Contains-append_cases}
use Rattle.std.proofs.lemmas.Option.{same_Some}
use Rattle.vl_values.specs.declared.group.Group.TheVariants.{Main}
use Rattle.vl_values.specs.declared.key.Key.{Key}
use Rattle.vl_values.specs.declared.value.Value.{Value}
use Rattle.vl_values.specs.Key.{key_cmp}
use Rattle.vl_values.specs.Keyed.{comes_before}
use Rattle.vl_values.specs.Row.{row_cmp}
use Rattle.vl_catalog.specs.declared.catalog.Catalog.{Catalog}
use Rattle.vl_catalog.specs.Fitting.{IsPlacedRow}
use Rattle.vl_rules.specs.Order.{Checked}
use Rattle.vl_port.specs.declared.act.Act.TheVariants.{Put, Remove as RemoveAct}
use Rattle.vl_change.specs.declared.action.Action.{Action}
use Rattle.vl_change.specs.declared.row_change.RowChange.{RowChange}
use Rattle.vl_change.specs.declared.row_change.RowChange.TheVariants.{Remove, Set}
use Rattle.vl_change.specs.Changes.{with_settings, write_of, writes_of}
use Rattle.vl_change.specs.Making.{IsChangeOf, IsAction, IsWrite, Precedes, written_key}
use Rattle.vl_change.proofs.Settings.{all_set}

-- ---- lists

pub get_or_any : {X : Type 0} (xs : List X) (n : ℕ) (d e : X) → n < length xs → get_or xs n e ≡ get_or xs n d
get_or_any [] n d e within = absurd (omega (arith, within))
get_or_any (x ∷ xs) zero d e within = refl
get_or_any (x ∷ xs) (suc n) d e within = get_or_any xs n d e (omega (arith, within))

sorted_parts : (key : Key) (keys : List Key) → IsStrictlySortedBy key_cmp (key ∷ keys) → AllByRecursion (λ y. key_cmp key y ≡ Less) keys × IsStrictlySortedBy key_cmp keys
unfolding IsStrictlySortedBy
sorted_parts key keys sorted = sorted

-- the first element is before each other one
pair_first : (x : Action) (xs : List Action) (other : Action) → AllPairs Precedes (x ∷ xs) → Contains xs other → Precedes x other
pair_first x xs other pairs among = subst (λ (it : Action). Precedes x it) among.2 (pairs 0 (suc among.0) other (omega arith) (omega (arith, among.1)))

-- ---- one row

-- what a write of a found row is: on its shard, of its key
pub record IsWriteOf (shard : ℕ) (key : Key) (action : Action) : Type 0 where
  pub shard_is : action.shard ≡ shard
  pub key_is : written_key action.act ≡ Some key
  pub write : IsWrite action.act

along : {X : Type 0} (P : X → Type 0) (x y : X) → Some x ≡ Some y → P x → P y
along P x y e p = subst P (same_Some x y e) p

put_is : (shard : ℕ) (key : Key) (old new : List Value) (b : Bool) (action : Action) → cond b None (Some (record { group = Main; shard = shard; act = Put key new; old = Some old })) ≡ Some action
    → record { group = Main; shard = shard; act = Put key new; old = Some old } ≡ action
put_is shard key old new true action e = absurd (cc)
put_is shard key old new false action e = same_Some (record { group = Main; shard = shard; act = Put key new; old = Some old }) action e

pub write_is : (change : RowChange) (shard : ℕ) (found : Key × List Value) (action : Action) → write_of change shard found ≡ Some action → IsWriteOf shard found.0 action
write_is Remove shard found action e = along (IsWriteOf shard found.0) (record { group = Main; shard = shard; act = RemoveAct found.0; old = Some found.1 }) action e (record { shard_is = refl; key_is = refl; write = tt })
write_is (Set settings) shard found action e =
    subst (IsWriteOf shard found.0) (put_is shard found.0 found.1 (with_settings settings found.1) (is_eq (row_cmp (with_settings settings found.1) found.1)) action e)
    (record { shard_is = refl; key_is = refl; write = tt })

pub write_fits : (catalog : Catalog) (count number : ℕ) (change : RowChange) (shard : ℕ) (found : Key × List Value) (action : Action) → Checked catalog → shard < count → IsChangeOf catalog number change
    → found.0.table ≡ number → IsPlacedRow catalog shard found.0 found.1 → write_of change shard found ≡ Some action → IsAction catalog count action
write_fits catalog count number Remove shard found action checked within changes of_table placed e =
    along (IsAction catalog count) (record { group = Main; shard = shard; act = RemoveAct found.0; old = Some found.1 }) action e (record { group = refl; shard = within; write = tt; fits = (found.1, placed) })
write_fits catalog count number (Set settings) shard found action checked within changes of_table placed e =
    subst (IsAction catalog count) (put_is shard found.0 found.1 (with_settings settings found.1) (is_eq (row_cmp (with_settings settings found.1) found.1)) action e)
    (record {
      group = refl;
      shard = within;
      write = tt;
      fits = all_set catalog shard found.0 settings found.1 checked placed (λ table setting at among. changes table setting (subst (λ (n : ℕ). slice_get catalog.tables n ≡ Some table) of_table at) among);
    })

-- ---- all rows

-- the row that a write comes from
pub record IsFrom (change : RowChange) (shard : ℕ) (rows : List (Key × List Value)) (action : Action) : Type 0 where
  pub found : Key × List Value
  pub among : Contains rows found
  pub gives : write_of change shard found ≡ Some action

later : (change : RowChange) (shard : ℕ) (first : Key × List Value) (rows : List (Key × List Value)) (action : Action) → IsFrom change shard rows action → IsFrom change shard (first ∷ rows) action
later change shard first rows action is = record { found = is.found; among = (suc is.among.0, omega (arith, is.among.1), is.among.2); gives = is.gives }

from_head : (change : RowChange) (shard : ℕ) (first : Key × List Value) (rows : List (Key × List Value)) (action : Action) (o : Option Action) → write_of change shard first ≡ o
    → ((d : Action) → Contains (writes_of change shard rows) d → IsFrom change shard rows d) → Contains (cons_option o (writes_of change shard rows)) action → IsFrom change shard (first ∷ rows) action
from_head change shard first rows action None is rest among = later change shard first rows action (rest action among)
from_head change shard first rows action (Some d) is rest (zero, within, at) = record { found = first; among = (0, omega arith, refl); gives = is ∙ ap (λ (it : Action). Some it) at }
from_head change shard first rows action (Some d) is rest (suc k, within, at) = later change shard first rows action (rest action (k, omega (arith, within), at))

pub write_from : (change : RowChange) (shard : ℕ) (rows : List (Key × List Value)) (action : Action) → Contains (writes_of change shard rows) action → IsFrom change shard rows action
write_from change shard [] action among = absurd (omega (arith, among.1))
write_from change shard (first ∷ rows) action among = from_head change shard first rows action (write_of change shard first) refl (write_from change shard rows) among

few_head : (o : Option Action) (ds : List Action) (n : ℕ) → length ds ≤ n → length (cons_option o ds) ≤ suc n
few_head None ds n few = omega (arith, few)
few_head (Some d) ds n few = omega (arith, few)

-- a row has one write at most
pub writes_few : (change : RowChange) (shard : ℕ) (rows : List (Key × List Value)) → length (writes_of change shard rows) ≤ length rows
writes_few change shard [] = omega arith
writes_few change shard (first ∷ rows) = few_head (write_of change shard first) (writes_of change shard rows) (length rows) (writes_few change shard rows)

-- ---- their order

-- each key of these rows stands behind this one
abbrev pub AreBehind : Key → List (Key × List Value) → Type 0
AreBehind key rows = (found : Key × List Value) → Contains rows found → comes_before key found.0 ≡ true

less_before : (a b : Key) → key_cmp a b ≡ Less → comes_before a b ≡ true
less_before a b e = ap is_lt e

all_behind : (key : Key) (rows : List (Key × List Value)) → AllByRecursion (λ y. key_cmp key y ≡ Less) (keys_of rows) → AreBehind key rows
all_behind key [] all found among = absurd (omega (arith, among.1))
all_behind key (first ∷ rows) all found (zero, within, at) = subst (λ (it : Key × List Value). comes_before key it.0 ≡ true) at (less_before key first.0 all.0)
all_behind key (first ∷ rows) all found (suc k, within, at) = all_behind key rows all.1 found (k, omega (arith, within), at)

-- a write of a row that stands before those of the others precedes them
first_precedes : (change : RowChange) (shard : ℕ) (first : Key × List Value) (rows : List (Key × List Value)) (one other : Action) → AreBehind first.0 rows → write_of change shard first ≡ Some one
    → Contains (writes_of change shard rows) other → Precedes one other
first_precedes change shard first rows one other behind gives among =
    let from = write_from change shard rows other among in
    let a = write_is change shard first one gives in
    let b = write_is change shard from.found other from.gives in
    inr (
      a.shard_is ∙ sym b.shard_is,
      λ k l ka lb.
          let same_k : first.0 ≡ k = same_Some first.0 k (sym a.key_is ∙ ka) in
          let same_l : from.found.0 ≡ l = same_Some from.found.0 l (sym b.key_is ∙ lb) in
          subst (λ (x : Key). comes_before x l ≡ true) same_k (subst (λ (y : Key). comes_before first.0 y ≡ true) same_l (behind from.found from.among)),
    )

pairs_cons : (one : Action) (rest : List Action) → ((other : Action) → Contains rest other → Precedes one other) → AllPairs Precedes rest → AllPairs Precedes (one ∷ rest)
pairs_cons one rest first pairs zero zero d below within = absurd (omega (arith, below))
pairs_cons one rest first pairs zero (suc j) d below within = first (get_or rest j d) (j, omega (arith, within), get_or_any rest j d (get_or rest j d) (omega (arith, within)))
pairs_cons one rest first pairs (suc i) zero d below within = absurd (omega (arith, below))
pairs_cons one rest first pairs (suc i) (suc j) d below within = pairs i j d (omega (arith, below)) (omega (arith, within))

ordered_head : (change : RowChange) (shard : ℕ) (first : Key × List Value) (rows : List (Key × List Value)) (o : Option Action) → write_of change shard first ≡ o → AreBehind first.0 rows
    → AllPairs Precedes (writes_of change shard rows) → AllPairs Precedes (cons_option o (writes_of change shard rows))
ordered_head change shard first rows None is behind rest = rest
ordered_head change shard first rows (Some one) is behind rest = pairs_cons one (writes_of change shard rows) (λ other among. first_precedes change shard first rows one other behind is among) rest

pub writes_ordered : (change : RowChange) (shard : ℕ) (rows : List (Key × List Value)) → IsStrictlySortedBy key_cmp (keys_of rows) → AllPairs Precedes (writes_of change shard rows)
writes_ordered change shard [] sorted = λ i j d below within. absurd (omega (arith, within))
writes_ordered change shard (first ∷ rows) sorted =
    let parts = sorted_parts first.0 (keys_of rows) sorted in
    ordered_head change shard first rows (write_of change shard first) refl (all_behind first.0 rows parts.0) (writes_ordered change shard rows parts.1)

-- two ordered lists, of which the first stands before the second
pub pairs_append : (xs ys : List Action) → AllPairs Precedes xs → AllPairs Precedes ys → ((x y : Action) → Contains xs x → Contains ys y → Precedes x y) → AllPairs Precedes (xs ++ ys)
pairs_append [] ys front back across = back
pairs_append (x ∷ xs) ys front back across =
    pairs_cons x (xs ++ ys)
    (λ other among. elim (Contains-append_cases xs ys other among) [
      | inl it ↦ pair_first x xs other front it
      | inr it ↦ across x other (0, omega arith, refl) it
    ])
    (pairs_append xs ys (λ i j d below within. front (suc i) (suc j) d (omega (arith, below)) (omega (arith, within))) back (λ a b ina inb. across a b (suc ina.0, omega (arith, ina.1), ina.2) inb))
