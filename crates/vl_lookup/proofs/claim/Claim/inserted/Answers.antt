use Rattle.vl_lookup.proofs.claim.Claim.inserted.Goals as goal
