-- The player over one piece of bytes after another.
use Rattle.std.specs.declared.option.Option.{Option}
use Rattle.std.specs.declared.result.Result.{Result}
use Rattle.std.proofs.Common.{◌≡◌, ◌∙◌, ◌+◌, ◌<◌, ◌≤◌, ap, sym, subst, ℕ, List, [], ◌∷◌, ◌++◌, take, drop, get_or, length, append_assoc, append-nil, Ok, Err, OnOk, IfErr}
use Rattle.std.proofs.lemmas.List.{take-append-drop, drop_more}
use Rattle.std.specs.Io.KnownBytes.{Appends}
use Rattle.vl_base.proofs.Known.{appends_more, appends_none}
use Rattle.vl_model.specs.Steps.{Rows}
use Rattle.vtgate_cl.specs.declared.player.Player.{Player}
use Rattle.vtgate_cl.specs.declared.stop.Stop.{Stop}
use Rattle.vtgate_cl.specs.Player.{Played, GoesOn, StopsIn, Finishes, StopsAtEnd}
use Rattle.vtgate_cl.specs.Playing.{PlayedAt, Halts, Ends}
use Rattle.vtgate_cl.specs.Script.{Answers, line_limit, count_limit}
use Rattle.vtgate_cl.proofs.Ending.{whole_last, last_stops}

-- over no bytes
pub goes_none : (a : Player) (held : Option (List ℕ)) → GoesOn a a held held []
goes_none a held read text p = (
  [],
  appends_none held,
  subst (λ (v : List ℕ). Played v (text ++ []) a) (sym (append-nil read)) (subst (λ (v : List ℕ). Played read v a) (sym (append-nil text)) p),
)

-- over some bytes and then others
pub goes_more : (a b c : Player) (held mid holds : Option (List ℕ)) (xs ys : List ℕ) → GoesOn a b held mid xs → GoesOn b c mid holds ys → GoesOn a c held holds (xs ++ ys)
goes_more a b c held mid holds xs ys first second read text p =
    let one : (more : List ℕ) × Appends held mid more × Played (read ++ xs) (text ++ more) b = first read text p in
    let two : (more : List ℕ) × Appends mid holds more × Played ((read ++ xs) ++ ys) ((text ++ one.0) ++ more) c = second (read ++ xs) (text ++ one.0) one.2 in
    (one.0 ++ two.0, appends_more held mid holds one.0 two.0 one.1 two.1, subst (λ (v : List ℕ). Played v (text ++ (one.0 ++ two.0)) c) (append_assoc read xs ys) (subst (λ (v : List ℕ). Played ((read ++ xs) ++ ys) v c) (append_assoc text one.0 two.0) two.2))

-- it stops behind some bytes, in others, with more behind those
pub stops_more : (a b : Player) (held mid holds : Option (List ℕ)) (xs ys zs : List ℕ) (stop : Stop) → GoesOn a b held mid xs → StopsIn b mid holds ys stop → StopsIn a held holds (xs ++ (ys ++ zs)) stop
stops_more a b held mid holds xs ys zs stop first second read text p =
    let one : (more : List ℕ) × Appends held mid more × Played (read ++ xs) (text ++ more) b = first read text p in
    let two : (more : List ℕ) × Appends mid holds more × ((behind : List ℕ) → Ends stop ((read ++ xs) ++ ys ++ behind) ((text ++ one.0) ++ more)) = second (read ++ xs) (text ++ one.0) one.2 in
    (one.0 ++ two.0, appends_more held mid holds one.0 two.0 one.1 two.1, λ behind. subst (λ (v : List ℕ). Ends stop v (text ++ (one.0 ++ two.0))) (regroup read xs ys zs behind) (subst (λ (v : List ℕ). Ends stop ((read ++ xs) ++ ys ++ (zs ++ behind)) v) (append_assoc text one.0 two.0) (two.2 (zs ++ behind))))
  where
    regroup : (r x y z e : List ℕ) → (r ++ x) ++ y ++ (z ++ e) ≡ r ++ (x ++ (y ++ z)) ++ e
    regroup r x y z e = simp append_assoc

-- a list around one of its elements
pub around : (xs : List ℕ) (i : ℕ) → i < length xs → take i xs ++ (get_or xs i 0 ∷ [] ++ drop (i + 1) xs) ≡ xs
around xs i below =
    ap (λ v. take i xs ++ v) (sym (drop_more xs i 0 below)) ∙ take-append-drop i xs

-- the last line was answered
pub last_finishes : (r : Result (Unit {0}) Stop) (old : Player) (held holds : Option (List ℕ)) (line : List ℕ) (rows : Rows) → line ≡ old.line.items → 0 < length line → OnOk r (length line ≤ line_limit) → OnOk r (old.count < count_limit)
    → OnOk r ((more : List ℕ) × Answers old.client.rows line rows more × Appends held holds more) → OnOk r (Finishes old held holds)
last_finishes (Ok x) old held holds line rows same some short early answered = λ read text p. (
  answered.0,
  answered.2,
  whole_last read text answered.0 line old.client.rows rows old.count (subst (λ (v : List ℕ). PlayedAt read text old.client.rows old.count v) (sym same) p) some short early answered.1,
)
last_finishes (Err stop) old held holds line rows same some short early answered = tt

-- or it wasn't
pub last_halts : (r : Result (Unit {0}) Stop) (old : Player) (held holds : Option (List ℕ)) (line : List ℕ) → line ≡ old.line.items → 0 < length line → IfErr r (Halts old.count old.client.rows line held holds) → IfErr r (StopsAtEnd old held holds)
last_halts (Ok x) old held holds line same some halts = tt
last_halts (Err stop) old held holds line same some halts = λ read text p. last_stops stop held holds read text line old.client.rows old.count (subst (λ (v : List ℕ). PlayedAt read text old.client.rows old.count v) (sym same) p) some halts
