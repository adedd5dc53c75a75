-- The order of keys.
use Rattle.std.specs.declared.cmp.Ordering.{Ordering}
use Rattle.std.specs.Ordering.{nat_cmp, on, then_cmp}
use Rattle.vl_values.specs.declared.key.Key.{Key}
use Rattle.vl_values.specs.Row.{row_cmp}

-- by table, then by the primary key's values
abbrev pub key_cmp : Key → Key → Ordering
key_cmp = then_cmp (on (λ k. k.table) nat_cmp) (on (λ k. k.pk) row_cmp)
