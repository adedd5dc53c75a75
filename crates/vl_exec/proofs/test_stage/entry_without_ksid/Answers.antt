use Rattle.std.proofs.Common.{◌≡◌, ◌^◌, ◌<◌, rules, arith, true, [], ◌∷◌, Some, refl, subst, sym}
use Rattle.std.specs.Prelude.{slice_get}
use Rattle.vl_values.specs.declared.key.Key.{Key}
use Rattle.vl_values.specs.declared.value.Value.TheVariants as values
use Rattle.vl_catalog.specs.Fitting.{IsPlacedRow, key_of}
use Rattle.vl_catalog.specs.Place.{place}
use Rattle.vl_lookup.proofs.Made.{found_in}
use Rattle.vl_exec.proofs.test_stage.entry_without_ksid.Goals as goal

pub returns : goal.returns
returns c =
    let catalog = c.args.catalog.now in
    let table = c.in-Some.table.now in
    let row = c.from_vec-row.result in
    let below : c.args.number < 2 ^ 64 = omega arith in
    let is : row ≡ values.Uint c.args.number ∷ values.Null ∷ [] = search rules in
    let at : slice_get catalog.tables 1 ≡ Some table = found_in c.as_slice.result.now catalog.tables 1 table c.as_slice.ensures c.in-Some.ensures.lookup.3.0 c.in-Some.ensures.lookup.1 in
    let has : c.has_entries_of_numbers.result ≡ true = search rules in
    let here : place catalog 1 row ≡ Some 0 = search rules in
    let keyed : c.in_ok-key.key ≡ key_of 1 table row = search rules in
    subst (λ (key : Key). IsPlacedRow catalog 0 key row) (sym keyed)
    (record { table = table; is_table = at; fits = c.has_entries_of_numbers.ensures has row c.args.number below is; keyed = refl; placed = here })
