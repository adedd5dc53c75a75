use Rattle.vl_route.proofs.Homes.{shards_within}
use Rattle.vl_route.proofs.home.home_of.Goals as goal
