-- The order of ORDER BY is one in which any two rows compare.
use Rattle.std.proofs.Common.{◌≡◌, ℕ, ◌+◌, ◌<◌, ◌≤◌, Bool, true, false, List, [], ◌∷◌, length, get_or, drop, refl, sym, ap, ◌∙◌, Equal}
use Rattle.std.specs.Cmp.{IsTotalOrder}
use Rattle.std.specs.Ordering.{ordering_then}
use Rattle.std.proofs.lemmas.Cmp.{back_total, on_total, then_total}
use Rattle.std.proofs.lemmas.List.{at_drop_all, drop_more}
use Rattle.vl_values.specs.declared.key.Key.{Key}
use Rattle.vl_values.specs.Order.{value_cmp_total}
use Rattle.vl_values.proofs.KeyOrder.{key_cmp_total}
use Rattle.vl_plan.specs.declared.sort.Sort.{Sort}
use Rattle.vl_port.specs.View.{Values}
use Rattle.vl_select.specs.Sorting.{directed, rows_cmp, sort_cmp, sorts_cmp, value_in}

directed_total : (descending : Bool) → IsTotalOrder (directed descending)
directed_total false = value_cmp_total
directed_total true = back_total value_cmp_total

sorts_total : (sorts : List Sort) → IsTotalOrder (sorts_cmp sorts)
sorts_total [] = record { antisymm = λ x y. refl; trans = λ x y z p q. p; congr = λ x y z e. refl }
sorts_total (sort ∷ sorts) = then_total (on_total (value_in sort.column) (directed_total sort.descending)) (sorts_total sorts)

pub rows_total : (sorts : List Sort) → IsTotalOrder (rows_cmp sorts)
rows_total sorts = then_total (on_total (λ (row : Key × Values). row.1) (sorts_total sorts)) (on_total (λ (row : Key × Values). row.0) key_cmp_total)

-- ---- column by column

pub sorts_more : (sorts : List Sort) (a b : Values) (i : ℕ) (sort : Sort) → i < length sorts → sort ≡ get_or sorts i sort → sorts_cmp (drop i sorts) a b ≡ ordering_then (sort_cmp sort a b) (sorts_cmp (drop (i + 1) sorts) a b)
sorts_more sorts a b i sort within is =
    ap (λ (rest : List Sort). sorts_cmp rest a b) (drop_more sorts i sort within ∙ ap (λ (s : Sort). s ∷ drop (i + 1) sorts) (sym is))

pub sorts_end : (sorts : List Sort) (a b : Values) (i : ℕ) → length sorts ≤ i → sorts_cmp (drop i sorts) a b ≡ Equal
sorts_end sorts a b i past = at_drop_all (λ (rest : List Sort). sorts_cmp rest a b) sorts i past
