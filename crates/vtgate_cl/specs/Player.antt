-- What a player does with the bytes that it is given: whatever bytes came before them.
use Rattle.std.specs.Prelude.{ℕ, List, ◌++◌, Option}
use Rattle.std.specs.Io.KnownBytes.{Appends}
use Rattle.vtgate_cl.specs.declared.player.Player.{Player}
use Rattle.vtgate_cl.specs.declared.stop.Stop.{Stop}
use Rattle.vtgate_cl.specs.Playing.{PlayedAt, Ends}
use Rattle.vtgate_cl.specs.Script.{IsWhole}

abbrev pub Played : List ℕ → List ℕ → Player → Type 0
Played read text player = PlayedAt read text player.client.rows player.count player.line.items

-- it has played these bytes too, and printed what they say
abbrev pub GoesOn : Player → Player → Option (List ℕ) → Option (List ℕ) → List ℕ → Type 0
GoesOn old new held holds bytes = (read text : List ℕ) → Played read text old → (more : List ℕ) × Appends held holds more × Played (read ++ bytes) (text ++ more) new

-- it stops within these bytes, whatever comes behind them
abbrev pub StopsIn : Player → Option (List ℕ) → Option (List ℕ) → List ℕ → Stop → Type 0
StopsIn old held holds bytes stop = (read text : List ℕ) → Played read text old → (more : List ℕ) × Appends held holds more × ((behind : List ℕ) → Ends stop (read ++ bytes ++ behind) (text ++ more))

-- the bytes end here, and all of them are played
abbrev pub Finishes : Player → Option (List ℕ) → Option (List ℕ) → Type 0
Finishes old held holds = (read text : List ℕ) → Played read text old → (more : List ℕ) × Appends held holds more × IsWhole read (text ++ more)

-- the bytes end here, in a line at which it stops
abbrev pub StopsAtEnd : Player → Option (List ℕ) → Option (List ℕ) → Stop → Type 0
StopsAtEnd old held holds stop = (read text : List ℕ) → Played read text old → (more : List ℕ) × Appends held holds more × Ends stop read (text ++ more)
