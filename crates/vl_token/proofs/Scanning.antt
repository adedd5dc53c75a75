-- Scanning from the front on, and from a place on.
use Rattle.std.proofs.Common.{◌≡◌, ℕ, suc, ◌+◌, ◌-◌, ◌*◌, ◌<◌, ◌≤◌, true, List, [], ◌∷◌, ◌++◌, length, take, drop, get_or, Option, Some, None, refl, sym, ap, subst, ◌∙◌, arith}
use Rattle.std.proofs.lemmas.List.{take_rest, drop_more, drop-drop}
use Rattle.vl_token.specs.Tok.Tok.{Text}
use Rattle.vl_token.specs.Lexical.{begins, closing, later, comment_at, text_at, unescaped, number_after}
use Rattle.vl_token.specs.Lexical.Lexeme.{Gap, Piece}

pub later_none : (o : Option ℕ) → later 0 o ≡ o
later_none None = refl
later_none (Some i) = ap (λ (n : ℕ). Some n) (omega arith)

later_more : (m n : ℕ) (o : Option ℕ) → later m (later n o) ≡ later (m + n) o
later_more m n None = refl
later_more m n (Some i) = ap (λ (n : ℕ). Some n) (omega arith)

-- a step of a scan for the closing quote
pub closing_more : (q : ℕ) (bs : List ℕ) (i n : ℕ) → later i (closing q (drop i bs)) ≡ closing q bs
    → closing q (take (length bs - i) (drop i bs)) ≡ later n (closing q (drop n (take (length bs - i) (drop i bs)))) → later (i + n) (closing q (drop (i + n) bs)) ≡ closing q bs
closing_more q bs i n whole step =
    let here : closing q (drop i bs) ≡ later n (closing q (drop n (drop i bs))) = rw take_rest at step in
    let there : closing q (drop i bs) ≡ later n (closing q (drop (i + n) bs)) = rw drop-drop at here in
    sym (later_more i n (closing q (drop (i + n) bs))) ∙ sym (ap (λ (o : Option ℕ). later i o) there) ∙ whole

-- the end of a comment
comment_ends : (b : ℕ) (bs : List ℕ) → b ≡ 42 → begins 47 bs ≡ true → comment_at (b ∷ bs) ≡ Gap (drop 1 bs)
comment_ends b bs e s = rw (e, s) refl

pub comment_found : (bs : List ℕ) (i : ℕ) → comment_at (drop i bs) ≡ comment_at bs → i < length bs → get_or bs i 0 ≡ 42
    → true ≡ begins 47 (take (length bs - (i + 1)) (drop (i + 1) bs)) → comment_at bs ≡ Gap (take (length bs - (i + 2)) (drop (i + 2) bs))
comment_found bs i whole lt star slash =
    let slash' : true ≡ begins 47 (drop (i + 1) bs) = rw take_rest at slash in
    let two : drop 1 (drop (i + 1) bs) ≡ drop (i + 2) bs = drop-drop 1 (i + 1) bs ∙ ap (λ (n : ℕ). drop n bs) (omega arith) in
    sym whole ∙ ap comment_at (drop_more bs i 0 lt) ∙ comment_ends (get_or bs i 0) (drop (i + 1) bs) star (sym slash') ∙ ap (λ (r : List ℕ). Gap r) (two ∙ sym (take_rest bs (i + 2)))

-- a step of taking escapes out
pub unescaped_more : (q : ℕ) (raw : List ℕ) (i n : ℕ) (all old new : List ℕ) → old ++ unescaped q (drop i raw) ≡ all
    → new ++ unescaped q (drop n (take (length raw - i) (drop i raw))) ≡ old ++ unescaped q (take (length raw - i) (drop i raw)) → new ++ unescaped q (drop (i + n) raw) ≡ all
unescaped_more q raw i n all old new whole step =
    let here : new ++ unescaped q (drop n (drop i raw)) ≡ old ++ unescaped q (drop i raw) = rw take_rest at step in
    let there : new ++ unescaped q (drop (i + n) raw) ≡ old ++ unescaped q (drop i raw) = rw drop-drop at here in
    there ∙ whole

-- reading on makes a number no less
pub number_grows : (n : ℕ) (ds : List ℕ) → n ≤ number_after n ds
number_grows n [] = omega arith
number_grows n (c ∷ cs) = omega (arith, number_grows (10 * n + (c - 48)) cs)

pub number_more : (ds : List ℕ) (i n all : ℕ) → number_after n (drop i ds) ≡ all → i < length ds → number_after (10 * n + (get_or ds i 0 - 48)) (drop (i + 1) ds) ≡ all
number_more ds i n all whole lt = sym (ap (λ (r : List ℕ). number_after n r) (drop_more ds i 0 lt)) ∙ whole

pub number_passes : (ds : List ℕ) (i n all : ℕ) → number_after n (drop i ds) ≡ all → i < length ds → 10 * n + (get_or ds i 0 - 48) ≤ all
number_passes ds i n all whole lt = subst (λ (m : ℕ). 10 * n + (get_or ds i 0 - 48) ≤ m) (number_more ds i n all whole lt) (number_grows (10 * n + (get_or ds i 0 - 48)) (drop (i + 1) ds))

-- a text up to its closing quote
pub text_closed : (q : ℕ) (bs raw rest : List ℕ) (n : ℕ) → Some n ≡ closing q bs → raw ≡ take n bs → rest ≡ drop n bs
    → Piece (Text (unescaped q raw)) (take (length rest - 1) (drop 1 rest)) ≡ text_at q bs
text_closed q bs raw rest n e r s = rw (take_rest, r, s, ← e) refl

pub turns_left : (len i : ℕ) → i < len → len - i ≡ suc (len - (i + 1))
turns_left len i lt = omega arith
