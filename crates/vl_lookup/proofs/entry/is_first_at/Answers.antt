use Rattle.vl_lookup.proofs.Rows.{at_found}
use Rattle.vl_lookup.proofs.entry.is_first_at.Goals as goal
