use Rattle.std.specs.Prelude.{ℕ, List, ◌++◌, codes}
use Rattle.std.specs.Fmt.{decimal}
use Rattle.vl_values.specs.declared.lost_why.LostWhy.{LostWhy}
use Rattle.vl_values.specs.declared.lost_why.LostWhy.TheVariants.{Link, Restarted, Dropped}

-- how the loss of a shard session is told: the two incarnations are the session's and the shard's
abbrev pub why_text : LostWhy → List ℕ
why_text Link = codes "link"
why_text (Restarted had current) = codes "restarted " ++ (decimal had ++ (codes " " ++ decimal current))
why_text Dropped = codes "dropped"
