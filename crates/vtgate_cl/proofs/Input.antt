-- A script that is read from a source to its end, or up to where it stops.
use Rattle.std.specs.declared.option.Option.{Option}
use Rattle.std.specs.declared.result.Result.{Result}
use Rattle.std.proofs.Common.{◌≡◌, ◌∙◌, ap, sym, refl, subst, inr, ℕ, List, [], ◌++◌, take, append-nil, Ok, Err, Some, OnOk, IfErr}
use Rattle.std.specs.Io.KnownBytes.{Appends, Consumes, Keeps, IsAtEnd}
use Rattle.std.specs.Str.Lines.{lines}
use Rattle.vl_base.proofs.Known.{appends_more, consumes_more, keeps_after_read, consumed, at_end}
use Rattle.vtgate_cl.specs.declared.player.Player.{Player}
use Rattle.vtgate_cl.specs.declared.stop.Stop.{Stop}
use Rattle.vtgate_cl.specs.declared.stop.Stop.TheVariants.{NotScript, Read, Write, Memory}
use Rattle.vtgate_cl.specs.Player.{Played, GoesOn, StopsIn, Finishes, StopsAtEnd}
use Rattle.vtgate_cl.specs.Playing.{Ends}
use Rattle.vtgate_cl.specs.Script.{IsWhole, IsRefused, Begins}
use Rattle.vtgate_cl.specs.declared.status.Status.TheVariants.{Done}
use Rattle.vtgate_cl.specs.Status.{IsPaused, IsDone, IsTold, Breaks, status_of}
use Rattle.vtgate_cl.proofs.Ending.{begins_first}

-- what a stop behind the last read says of the whole
ends_breaks : (stop : Stop) (bytes text : List ℕ) (left : Option (List ℕ)) → (stop ≡ Read → ⊥) → Ends stop bytes text → Breaks stop bytes left text
ends_breaks NotScript bytes text left other e = e
ends_breaks Read bytes text left other e = absurd (other refl)
ends_breaks Write bytes text left other e = e
ends_breaks Memory bytes text left other e = e

-- nothing is left of known bytes at their end
none_left : (old new : Option (List ℕ)) (xs bytes : List ℕ) → old ≡ Some bytes → Consumes old new xs → IsAtEnd new → new ≡ Some []
none_left old new xs bytes known c ended =
    let cut : (rest : List ℕ) × (new ≡ Some rest) × (bytes ≡ xs ++ rest) = consumed old new xs bytes known c in
    let none : IsAtEnd (Some cut.0) = subst IsAtEnd cut.1 ended in
    cut.1 ∙ ap (λ v. Some v) none

-- the source failed
pub source_breaks : (a b : Player) (held mid : Option (List ℕ)) (first left after : Option (List ℕ)) (read : List ℕ) → Consumes first left read → GoesOn a b held mid read → Keeps left after → Played [] [] a → (bytes : List ℕ) → first ≡ Some bytes
    → (text : List ℕ) × Appends held mid text × IsPaused bytes after text
source_breaks a b held mid first left after read consumes goes keeps played bytes known =
    let ran : (text : List ℕ) × Appends held mid text × Played read text b = goes [] [] played in
    let cut : (rest : List ℕ) × (after ≡ Some rest) × (bytes ≡ read ++ rest) =
    consumed first after read bytes known (keeps_after_read first left after read consumes keeps) in
    (ran.0, ran.1, (read, cut.0, b.client.rows, b.count, b.line.items, cut.2, cut.1, ran.2))

-- all that was read, where the last read gave nothing
all_read : (first left after : Option (List ℕ)) (read buf bytes : List ℕ) (n : ℕ) → n ≡ 0 → Consumes first left read → Consumes left after (take n buf) → IsAtEnd after → first ≡ Some bytes → (bytes ≡ read) × (after ≡ Some [])
all_read first left after read buf bytes n none consumes last ended known =
    let whole : Consumes first after (read ++ take n buf) = consumes_more first left after read (take n buf) consumes last in
    let rest : take n buf ≡ [] = ap (λ k. take k buf) none in
    (at_end first after (read ++ take n buf) bytes known whole ended ∙ ap (λ v. read ++ v) rest ∙ append-nil read, none_left first after (read ++ take n buf) bytes known whole ended)

-- the source is at its end, and the last line is answered
pub end_done : (r : Result (Unit {0}) Stop) (a b : Player) (held mid holds first left after : Option (List ℕ)) (read buf : List ℕ) (n : ℕ) → n ≡ 0 → Consumes first left read → GoesOn a b held mid read → Consumes left after (take n buf) → IsAtEnd after
    → OnOk r (Finishes b mid holds) → OnOk r (Played [] [] a → (bytes : List ℕ) → first ≡ Some bytes → (text : List ℕ) × Appends held holds text × IsDone bytes after text)
end_done (Ok x) a b held mid holds first left after read buf n none consumes goes last ended finishes = λ played bytes known.
    let ran : (text : List ℕ) × Appends held mid text × Played read text b = goes [] [] played in
    let told : (more : List ℕ) × Appends mid holds more × IsWhole read (ran.0 ++ more) = finishes read ran.0 ran.2 in
    let all : (bytes ≡ read) × (after ≡ Some []) = all_read first left after read buf bytes n none consumes last ended known in
    (ran.0 ++ told.0, appends_more held mid holds ran.0 told.0 ran.1 told.1, (subst (λ (v : List ℕ). IsWhole v (ran.0 ++ told.0)) (sym all.0) told.2, all.1))
end_done (Err stop) a b held mid holds first left after read buf n none consumes goes last ended finishes = tt

-- or the script stops in its last line
pub end_breaks : (r : Result (Unit {0}) Stop) (a b : Player) (held mid holds first left after : Option (List ℕ)) (read buf : List ℕ) (n : ℕ) → n ≡ 0 → Consumes first left read → GoesOn a b held mid read → Consumes left after (take n buf) → IsAtEnd after → (r ≡ Err Read → ⊥)
    → IfErr r (StopsAtEnd b mid holds) → IfErr r (λ stop. Played [] [] a → (bytes : List ℕ) → first ≡ Some bytes → (text : List ℕ) × Appends held holds text × Breaks stop bytes after text)
end_breaks (Ok x) a b held mid holds first left after read buf n none consumes goes last ended other stops = tt
end_breaks (Err stop) a b held mid holds first left after read buf n none consumes goes last ended other stops = λ played bytes known.
    let ran : (text : List ℕ) × Appends held mid text × Played read text b = goes [] [] played in
    let told : (more : List ℕ) × Appends mid holds more × Ends stop read (ran.0 ++ more) = stops read ran.0 ran.2 in
    let all : (bytes ≡ read) × (after ≡ Some []) = all_read first left after read buf bytes n none consumes last ended known in
    (ran.0 ++ told.0, appends_more held mid holds ran.0 told.0 ran.1 told.1, ends_breaks stop bytes (ran.0 ++ told.0) after (λ e. other (ap (λ v. Err v) e)) (subst (λ (v : List ℕ). Ends stop v (ran.0 ++ told.0)) (sym all.0) told.2))

-- the script stops in a piece
pub piece_breaks : (stop : Stop) (a b : Player) (held mid holds first left after : Option (List ℕ)) (read piece : List ℕ) → Consumes first left read → GoesOn a b held mid read → Consumes left after piece → (stop ≡ Read → ⊥) → StopsIn b mid holds piece stop → Played [] [] a → (bytes : List ℕ) → first ≡ Some bytes
    → (text : List ℕ) × Appends held holds text × Breaks stop bytes after text
piece_breaks stop a b held mid holds first left after read piece consumes goes last other stops played bytes known =
    let ran : (text : List ℕ) × Appends held mid text × Played read text b = goes [] [] played in
    let told : (more : List ℕ) × Appends mid holds more × ((behind : List ℕ) → Ends stop (read ++ piece ++ behind) (ran.0 ++ more)) = stops read ran.0 ran.2 in
    let cut : (rest : List ℕ) × (after ≡ Some rest) × (bytes ≡ (read ++ piece) ++ rest) =
    consumed first after (read ++ piece) bytes known (consumes_more first left after read piece consumes last) in
    (ran.0 ++ told.0, appends_more held mid holds ran.0 told.0 ran.1 told.1, ends_breaks stop bytes (ran.0 ++ told.0) after other (subst (λ (v : List ℕ). Ends stop v (ran.0 ++ told.0)) (sym cut.2) (told.2 cut.0)))

-- a script that is answered begins with what it is answered
whole_begins : (bytes text : List ℕ) → IsWhole bytes text → Begins bytes text
whole_begins bytes text w = begins_first bytes text (lines bytes) [] w.0 (sym (append-nil (lines bytes))) w.1

paused_begins : (bytes text : List ℕ) (left : Option (List ℕ)) → IsPaused bytes left text → Begins bytes text
paused_begins bytes text left p =
    begins_first bytes text p.7.ended (lines (p.4 ++ p.1)) p.2 (ap lines p.5 ∙ p.7.cut p.1) p.7.answered

refused_begins : (bytes text : List ℕ) → IsRefused bytes text → Begins bytes text
refused_begins bytes text r = ([], inr (subst (λ (v : List ℕ). IsRefused bytes v) (sym (append-nil text)) r))

-- what a status tells
pub told_done : (bytes text : List ℕ) (left : Option (List ℕ)) → IsDone bytes left text → IsTold Done bytes left text
told_done bytes text left d = record {
  done = λ e. d;
  refused = λ e. cc;
  paused = λ e. cc;
  begins = whole_begins bytes text d.0;
}

pub told_break : (stop : Stop) (bytes text : List ℕ) (left : Option (List ℕ)) → Breaks stop bytes left text → IsTold (status_of stop) bytes left text
told_break NotScript bytes text left b = record { done = λ e. cc; refused = λ e. b; paused = λ e. cc; begins = refused_begins bytes text b }
told_break Read bytes text left b = record { done = λ e. cc; refused = λ e. cc; paused = λ e. b; begins = paused_begins bytes text left b }
told_break Write bytes text left b = record { done = λ e. cc; refused = λ e. cc; paused = λ e. cc; begins = b }
told_break Memory bytes text left b = record { done = λ e. cc; refused = λ e. cc; paused = λ e. cc; begins = b }
