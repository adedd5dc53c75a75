-- The program of a plan that fits the catalog is made.
use Rattle.std.proofs.Common.{ℕ, ◌≤◌, [], refl, arith}
use Rattle.vl_values.specs.declared.pred.Pred.{Pred}
use Rattle.vl_catalog.specs.declared.catalog.Catalog.{Catalog}
use Rattle.vl_catalog.specs.Fitting.{FitsPred}
use Rattle.vl_catalog.specs.Place.{shard_count}
use Rattle.vl_model.specs.declared.route.Route.{Route}
use Rattle.vl_model.specs.Visiting.{visited}
use Rattle.vl_route.proofs.Visited.{visited_ascend, visited_below}
use Rattle.vl_change.specs.declared.row_change.RowChange.{RowChange}
use Rattle.vl_change.specs.Begun.{searching}
use Rattle.vl_change.specs.Making.{IsChangeOf, IsMade}

pub search_made : (catalog : Catalog) (pred : Pred) (route : Route) (change : RowChange) (limit : ℕ) → FitsPred catalog pred → IsChangeOf catalog pred.table change → 1 ≤ limit
    → IsMade catalog (shard_count catalog.rings) limit (searching pred change (visited catalog pred.table route []))
search_made catalog pred route change limit fits changes least =
    record {
      writes = λ action among. absurd (omega (arith, among.1));
      done = omega arith;
      search = record {
        pred = pred;
        find = refl;
        fits = fits;
        change = changes;
        within = λ shard among. visited_below catalog pred.table route [] shard among;
        ascending = visited_ascend catalog pred.table route [];
        read = omega arith;
        counted = omega arith;
        behind = λ action n shard among from at. absurd (omega (arith, among.1));
        ordered = λ i j d below within. absurd (omega (arith, within));
      };
      tries = omega (arith, least);
    }
