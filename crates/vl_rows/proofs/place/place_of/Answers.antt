use Rattle.std.proofs.Common.{rules}
use Rattle.std.proofs.lemmas.Fn.{always_returns_same}
use Rattle.vl_values.specs.Key.{key_cmp}
use Rattle.vl_values.proofs.Keying.{place_found, gap_found}
use Rattle.vl_rows.proofs.place.place_of.Goals as goal

pub returns-clause-found : goal.returns-clause-found
returns-clause-found c =
    place_found c.args.slots.now c.args.key.now c.binary_search_by.result c.binary_search_by.ensures.bound
    (c.binary_search_by.ensures.position (λ e. key_cmp e.0 c.args.key.now) (always_returns_same _ _ _ (λ a r f' k. search rules)))

pub returns-clause-absent : goal.returns-clause-absent
returns-clause-absent c =
    gap_found c.args.slots.now c.args.key.now c.binary_search_by.result c.requires c.binary_search_by.ensures.bound
    (c.binary_search_by.ensures.position (λ e. key_cmp e.0 c.args.key.now) (always_returns_same _ _ _ (λ a r f' k. search rules)))
