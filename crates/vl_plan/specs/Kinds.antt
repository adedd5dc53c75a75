-- The lookups of one kind.
use Rattle.std.specs.Prelude.{ℕ, Bool, true, false, not}
use Rattle.vl_catalog.specs.declared.catalog.Catalog.{Catalog}
use Rattle.vl_model.specs.Routes.{is_unique_lookup}

abbrev pub is_of_kind : Catalog → Bool → ℕ → Bool
is_of_kind catalog true l = is_unique_lookup catalog l
is_of_kind catalog false l = not (is_unique_lookup catalog l)
