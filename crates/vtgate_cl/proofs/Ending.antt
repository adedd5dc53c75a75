-- Where a script stands after each step, and what it has printed where it stops.
use Rattle.std.proofs.Common.{◌≡◌, ◌∙◌, ◌+◌, ◌<◌, ◌≤◌, inl, inr, ap, sym, refl, subst, ℕ, false, List, [], ◌∷◌, ◌++◌, ◌==◌, arith, append_assoc, append-nil, length, length-append, Option}
use Rattle.std.proofs.lemmas.List.Elements.{All-nil, All-push}
use Rattle.std.specs.Io.KnownBytes.{Appends}
use Rattle.std.specs.Str.Lines.{lines, strip_carriage_return}
use Rattle.vl_base.proofs.Known.{keeps_appends, appends_none}
use Rattle.vl_model.specs.Steps.{Rows}
use Rattle.vtgate_cl.proofs.Cuts.{line_ended, line_last, too_long}
use Rattle.vtgate_cl.proofs.Telling.{plays_push}
use Rattle.vtgate_cl.specs.declared.stop.Stop.{Stop}
use Rattle.vtgate_cl.specs.declared.stop.Stop.TheVariants.{NotScript, Read, Write, Memory}
use Rattle.vtgate_cl.specs.Playing.{PlayedAt, Halts, Refuses, Ends}
use Rattle.vtgate_cl.specs.Playing.Halts.{AtFault, InAnswer, ForMemory}
use Rattle.vtgate_cl.specs.Script.IsFault.{TooLong}
use Rattle.vtgate_cl.specs.Script.{Plays, Answers, IsFault, IsWhole, Begins, fault_line, line_limit, count_limit}

-- before the first byte
pub nothing_played : PlayedAt [] [] [] 0 []
nothing_played = record {
  ended = [];
  long = refl;
  answered = (refl, refl);
  cut = λ more. refl;
  plain = All-nil (λ b. (b == 10) ≡ false);
}

-- a line ended and was answered
pub line_played : (read text more line : List ℕ) (rows new : Rows) (count : ℕ) → PlayedAt read text rows count line → length (strip_carriage_return line) ≤ line_limit → count < count_limit → Answers rows (strip_carriage_return line) new more
    → PlayedAt (read ++ 10 ∷ []) (text ++ more) new (count + 1) []
line_played read text more line rows new count p short early answered =
    let said : List ℕ = strip_carriage_return line in
    record {
      ended = p.ended ++ said ∷ [];
      long = length-append p.ended (said ∷ []) ∙ ap (λ n. n + 1) p.long;
      answered = plays_push p.ended 0 [] rows new text more said p.answered short (omega (arith, p.long)) answered;
      cut = λ behind. ap lines (append_assoc read (10 ∷ []) behind) ∙ p.cut (10 ∷ behind) ∙ ap (λ v. p.ended ++ v) (line_ended line behind p.plain) ∙ sym (append_assoc p.ended (said ∷ []) (lines behind));
      plain = All-nil (λ b. (b == 10) ≡ false);
    }

-- a byte was kept
pub byte_played : (read text line : List ℕ) (rows : Rows) (count b : ℕ) → PlayedAt read text rows count line → (b == 10) ≡ false → PlayedAt (read ++ b ∷ []) text rows count (line ++ b ∷ [])
byte_played read text line rows count b p other = record {
  ended = p.ended;
  long = p.long;
  answered = p.answered;
  cut = λ behind. ap lines (append_assoc read (b ∷ []) behind) ∙ p.cut (b ∷ behind) ∙ ap (λ v. p.ended ++ lines v) (sym (append_assoc line (b ∷ []) behind));
  plain = All-push (λ c. (c == 10) ≡ false) line b p.plain other;
}

-- the lines of bytes that end here
at_end : (read text line : List ℕ) (rows : Rows) (count : ℕ) → (p : PlayedAt read text rows count line) → lines read ≡ p.ended ++ lines line
at_end read text line rows count p =
    ap lines (sym (append-nil read)) ∙ p.cut [] ∙ ap (λ v. p.ended ++ lines v) (append-nil line)

-- the bytes end behind a line
pub whole_none : (read text : List ℕ) (rows : Rows) (count : ℕ) → PlayedAt read text rows count [] → IsWhole read text
whole_none read text rows count p =
    (rows, subst (λ (v : List (List ℕ)). Plays 0 [] v text rows) (sym (at_end read text [] rows count p ∙ append-nil p.ended)) p.answered)

-- the bytes end in a line that is answered
pub whole_last : (read text more line : List ℕ) (rows new : Rows) (count : ℕ) → PlayedAt read text rows count line → 0 < length line → length line ≤ line_limit → count < count_limit → Answers rows line new more → IsWhole read (text ++ more)
whole_last read text more line rows new count p some short early answered =
    let all : lines read ≡ p.ended ++ line ∷ [] =
    at_end read text line rows count p ∙ ap (λ v. p.ended ++ v) (line_last line p.plain some) in
    (new, subst (λ (v : List (List ℕ)). Plays 0 [] v (text ++ more) new) (sym all) (plays_push p.ended 0 [] rows new text more line p.answered short (omega (arith, p.long)) answered))

-- the first lines are answered, and no part of the next
pub begins_first : (bytes text : List ℕ) (first others : List (List ℕ)) (rows : Rows) → lines bytes ≡ first ++ others → Plays 0 [] first text rows → Begins bytes text
begins_first bytes text first others rows cut played =
    ([], inl (first, others, rows, cut, subst (λ (v : List ℕ). Plays 0 [] first v rows) (sym (append-nil text)) played))

-- the line of a fault is printed, or a part of it
pub refuses_ends : (stop : Stop) (old new : Option (List ℕ)) (first : List (List ℕ)) (rows : Rows) (text : List ℕ) → Plays 0 [] first text rows → Refuses stop old new (fault_line (length first + 1))
    → (more : List ℕ) × Appends old new more × ((bytes fault : List ℕ) (others : List (List ℕ)) → lines bytes ≡ first ++ fault ∷ others → IsFault (length first) fault → Ends stop bytes (text ++ more))
refuses_ends NotScript old new first rows text played r =
    (fault_line (length first + 1), r, λ bytes fault others cut f. (first, fault, others, text, rows, cut, played, f, refl))
refuses_ends Read old new first rows text played r = absurd r
refuses_ends Write old new first rows text played r =
    (r.0, r.3, λ bytes fault others cut f. (r.1, inr (first, fault, others, text, rows, cut, played, f, append_assoc text r.0 r.1 ∙ ap (λ v. text ++ v) (sym r.2))))
refuses_ends Memory old new first rows text played r =
    ([], keeps_appends old new r, λ bytes fault others cut f. begins_first bytes (text ++ []) first (fault ∷ others) rows cut (subst (λ (v : List ℕ). Plays 0 [] first v rows) (sym (append-nil text)) played))

-- the script stops at a line
pub halts_ends : (stop : Stop) (old new : Option (List ℕ)) (first : List (List ℕ)) (rows : Rows) (text line : List ℕ) → Plays 0 [] first text rows → Halts (length first) rows line old new stop
    → (more : List ℕ) × Appends old new more × ((bytes : List ℕ) (others : List (List ℕ)) → lines bytes ≡ first ++ line ∷ others → Ends stop bytes (text ++ more))
halts_ends _ old new first rows text line played (AtFault stop f r) =
    let told = refuses_ends stop old new first rows text played r in
    (told.0, told.1, λ bytes others cut. told.2 bytes line others cut f)
halts_ends _ old new first rows text line played (InAnswer answer after short early answered w) =
    (w.0, w.3, λ bytes others cut. (w.1, inl (first ++ line ∷ [], others, after, cut ∙ sym (append_assoc first (line ∷ []) others), subst (λ (v : List ℕ). Plays 0 [] (first ++ line ∷ []) v after) (ap (λ v. text ++ v) w.2 ∙ sym (append_assoc text w.0 w.1)) (plays_push first 0 [] rows after text answer line played short (omega arith) answered))))
halts_ends _ old new first rows text line played (ForMemory kept) =
    ([], keeps_appends old new kept, λ bytes others cut. begins_first bytes (text ++ []) first (line ∷ others) rows cut (subst (λ (v : List ℕ). Plays 0 [] first v rows) (sym (append-nil text)) played))

-- the script stops in a line that has ended
pub ended_stops : (stop : Stop) (old new : Option (List ℕ)) (read text line : List ℕ) (rows : Rows) (count : ℕ) → PlayedAt read text rows count line → Halts count rows (strip_carriage_return line) old new stop
    → (more : List ℕ) × Appends old new more × ((behind : List ℕ) → Ends stop (read ++ 10 ∷ [] ++ behind) (text ++ more))
ended_stops stop old new read text line rows count p halts =
    let said : List ℕ = strip_carriage_return line in
    let there : (more : List ℕ) × Appends old new more × ((bytes : List ℕ) (others : List (List ℕ)) → lines bytes ≡ p.ended ++ said ∷ others → Ends stop bytes (text ++ more)) =
    halts_ends stop old new p.ended rows text said p.answered (subst (λ (n : ℕ). Halts n rows said old new stop) (sym p.long) halts) in
    (there.0, there.1, λ behind. there.2 (read ++ 10 ∷ [] ++ behind) (lines behind) (ap lines (append_assoc read (10 ∷ []) behind) ∙ p.cut (10 ∷ behind) ∙ ap (λ v. p.ended ++ v) (line_ended line behind p.plain)))

-- the script stops in its last line, which no LF ends
pub last_stops : (stop : Stop) (old new : Option (List ℕ)) (read text line : List ℕ) (rows : Rows) (count : ℕ) → PlayedAt read text rows count line → 0 < length line → Halts count rows line old new stop
    → (more : List ℕ) × Appends old new more × Ends stop read (text ++ more)
last_stops stop old new read text line rows count p some halts =
    let there : (more : List ℕ) × Appends old new more × ((bytes : List ℕ) (others : List (List ℕ)) → lines bytes ≡ p.ended ++ line ∷ others → Ends stop bytes (text ++ more)) =
    halts_ends stop old new p.ended rows text line p.answered (subst (λ (n : ℕ). Halts n rows line old new stop) (sym p.long) halts) in
    (there.0, there.1, there.2 read [] (at_end read text line rows count p ∙ ap (λ v. p.ended ++ v) (line_last line p.plain some)))

-- the script stops at a line that is too long already
pub long_stops : (stop : Stop) (old new : Option (List ℕ)) (read text line : List ℕ) (rows : Rows) (count b : ℕ) → PlayedAt read text rows count line → (b == 10) ≡ false → line_limit < length (strip_carriage_return (line ++ b ∷ [])) → Refuses stop old new (fault_line (count + 1))
    → (more : List ℕ) × Appends old new more × ((behind : List ℕ) → Ends stop (read ++ b ∷ [] ++ behind) (text ++ more))
long_stops stop old new read text line rows count b p other long refused =
    let next : PlayedAt (read ++ b ∷ []) text rows count (line ++ b ∷ []) = byte_played read text line rows count b p other in
    let there : (more : List ℕ) × Appends old new more × ((bytes fault : List ℕ) (others : List (List ℕ)) → lines bytes ≡ next.ended ++ fault ∷ others → IsFault (length next.ended) fault → Ends stop bytes (text ++ more)) =
    refuses_ends stop old new next.ended rows text next.answered (subst (λ (n : ℕ). Refuses stop old new (fault_line (n + 1))) (sym next.long) refused) in
    (there.0, there.1, λ behind. at_fault stop (read ++ b ∷ []) (line ++ b ∷ []) text there.0 next.ended behind (next.cut behind) (too_long (line ++ b ∷ []) behind next.plain long) there.2)
  where
    at_fault : (halt : Stop) (seen kept said more : List ℕ) (ended : List (List ℕ)) (behind : List ℕ) → lines (seen ++ behind) ≡ ended ++ lines (kept ++ behind) → (fault : List ℕ) × (others : List (List ℕ)) × (lines (kept ++ behind) ≡ fault ∷ others) × (line_limit < length fault)
        → ((bytes fault : List ℕ) (others : List (List ℕ)) → lines bytes ≡ ended ++ fault ∷ others → IsFault (length ended) fault → Ends halt bytes (said ++ more)) → Ends halt (seen ++ behind) (said ++ more)
    at_fault halt seen kept said more ended behind cut fault ends =
        ends (seen ++ behind) fault.0 fault.1 (cut ∙ ap (λ v. ended ++ v) fault.2) (TooLong fault.3)

-- the script stops for want of memory, with nothing printed
pub memory_stops : (old : Option (List ℕ)) (read text line bytes : List ℕ) (rows : Rows) (count : ℕ) → PlayedAt read text rows count line
    → (more : List ℕ) × Appends old old more × ((behind : List ℕ) → Begins (read ++ bytes ++ behind) (text ++ more))
memory_stops old read text line bytes rows count p =
    ([], appends_none old, λ behind. begins_first (read ++ bytes ++ behind) (text ++ []) p.ended (lines (line ++ (bytes ++ behind))) rows (ap lines (append_assoc read bytes behind) ∙ p.cut (bytes ++ behind)) (subst (λ (v : List ℕ). Plays 0 [] p.ended v rows) (sym (append-nil text)) p.answered))

-- a byte was kept, with nothing printed
pub byte_goes : (old : Option (List ℕ)) (read text line : List ℕ) (rows : Rows) (count b : ℕ) → PlayedAt read text rows count line → (b == 10) ≡ false
    → (more : List ℕ) × Appends old old more × PlayedAt (read ++ b ∷ []) (text ++ more) rows count (line ++ b ∷ [])
byte_goes old read text line rows count b p other =
    ([], appends_none old, subst (λ (v : List ℕ). PlayedAt (read ++ b ∷ []) v rows count (line ++ b ∷ [])) (sym (append-nil text)) (byte_played read text line rows count b p other))

-- nothing is left to play
pub nothing_left : (old : Option (List ℕ)) (read text line : List ℕ) (rows : Rows) (count : ℕ) → PlayedAt read text rows count line → length line ≡ 0
    → (more : List ℕ) × Appends old old more × IsWhole read (text ++ more)
nothing_left old read text [] rows count p none =
    ([], appends_none old, subst (λ (v : List ℕ). IsWhole read v) (sym (append-nil text)) (whole_none read text rows count p))
nothing_left old read text (b ∷ line) rows count p none = absurd (omega arith)

-- a line that ended was answered
pub line_goes : (old new : Option (List ℕ)) (read text line said : List ℕ) (rows after : Rows) (count : ℕ) → PlayedAt read text rows count line → said ≡ strip_carriage_return line → length said ≤ line_limit → count < count_limit
    → (more : List ℕ) × Answers rows said after more × Appends old new more
    → (more : List ℕ) × Appends old new more × PlayedAt (read ++ 10 ∷ []) (text ++ more) after (count + 1) []
line_goes old new read text line said rows after count p same short early answered = (
  answered.0,
  answered.2,
  line_played read text answered.0 line rows after count p (subst (λ (v : List ℕ). length v ≤ line_limit) same short) early (subst (λ (v : List ℕ). Answers rows v after answered.0) same answered.1),
)
