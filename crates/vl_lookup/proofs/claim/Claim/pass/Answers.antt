use Rattle.vl_lookup.proofs.Stepped.{claim_put}
use Rattle.vl_lookup.proofs.claim.Claim.pass.Goals as goal
