use Rattle.std.proofs.Common.{arith}
use Rattle.vl_lookup.proofs.Stepped.{first_is}
use Rattle.vl_lookup.proofs.claim.first_key.Goals as goal
