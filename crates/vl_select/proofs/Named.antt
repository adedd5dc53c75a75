-- Values that are moved out of a row stay in it where their column is named again.
use Rattle.std.proofs.Common.{◌≡◌, ℕ, zero, suc, ◌+◌, ◌<◌, ◌≤◌, Bool, true, false, List, [], ◌∷◌, ◌++◌, length, get_or, map, take, drop, refl, sym, ap, ◌∙◌, subst, arith, true≢false}
use Rattle.std.specs.Prelude.{Contains, ◌==◌}
use Rattle.std.specs.List.{list_any}
use Rattle.std.proofs.lemmas.Bool.{eq-eqb}
use Rattle.std.proofs.lemmas.List.Folds.{list_any_at}
use Rattle.std.proofs.lemmas.List.{append_assoc, append-nil, drop_more, drop_all, map-append, take_more}
use Rattle.vl_values.specs.declared.value.Value.{Value}
use Rattle.vl_port.specs.View.{Values}
use Rattle.vl_select.specs.Picking.{named_again}
use Rattle.vl_select.specs.Sorting.{value_in}

-- one column more was looked at
pub again_more : (columns : List ℕ) (made new : List Bool) (n : ℕ) (is_again : Bool) → n < length columns → named_again columns ≡ made ++ named_again (drop n columns)
    → is_again ≡ list_any (λ other. other == get_or columns n 0) (drop (n + 1) columns) → new ≡ made ++ is_again ∷ [] → named_again columns ≡ new ++ named_again (drop (n + 1) columns)
again_more columns made new n is_again within far gives pushed =
    far ∙ ap (λ (rest : List ℕ). made ++ named_again rest) (drop_more columns n 0 within)
    ∙ ap (λ (b : Bool). made ++ b ∷ named_again (drop (n + 1) columns)) (sym gives)
    ∙ sym (append_assoc made (is_again ∷ []) (named_again (drop (n + 1) columns)))
    ∙ ap (λ (zs : List Bool). zs ++ named_again (drop (n + 1) columns)) (sym pushed)

pub again_all : (columns : List ℕ) (made : List Bool) (n : ℕ) → length columns ≤ n → named_again columns ≡ made ++ named_again (drop n columns) → made ≡ named_again columns
again_all columns made n past far = sym (far ∙ ap (λ (rest : List ℕ). made ++ named_again rest) (drop_all n columns past) ∙ append-nil made)

pub length_again : (columns : List ℕ) → length (named_again columns) ≡ length columns
length_again [] = refl
length_again (column ∷ columns) = ap suc (length_again columns)

-- what is said of the column at a place
pub again_at : (columns : List ℕ) (n column : ℕ) (d : Bool) → n < length columns → column ≡ get_or columns n column → get_or (named_again columns) n d ≡ list_any (λ other. other == column) (drop (n + 1) columns)
again_at [] n column d within is = absurd (omega (arith, within))
again_at (first ∷ columns) zero column d within is = ap (λ (c : ℕ). list_any (λ other. other == c) columns) (sym is)
again_at (first ∷ columns) (suc n) column d within is =
    let e : suc n + 1 ≡ suc (n + 1) = omega arith in
    again_at columns n column d (omega (arith, within)) is ∙ ap (λ (k : ℕ). list_any (λ other. other == column) (drop k (first ∷ columns))) (sym e)

-- no column behind is one that isn't named again
pub none_behind : (columns : List ℕ) (column other : ℕ) → list_any (λ it. it == column) columns ≡ false → Contains columns other → other ≡ column → ⊥
none_behind columns column other none among same =
    let here : (get_or columns among.0 other == column) ≡ true = eq-eqb (get_or columns among.0 other) column (among.2 ∙ same) in
    true≢false (sym (list_any_at (λ it. it == column) columns among.0 other among.1 here) ∙ none)

get_or_any : (columns : List ℕ) (n c d : ℕ) → n < length columns → get_or columns n c ≡ get_or columns n d
get_or_any [] n c d within = absurd (omega (arith, within))
get_or_any (x ∷ columns) zero c d within = refl
get_or_any (x ∷ columns) (suc n) c d within = get_or_any columns n c d (omega (arith, within))

behind_of : (columns : List ℕ) (n other : ℕ) → n < length columns → Contains (drop (n + 1) columns) other → Contains (drop n columns) other
behind_of columns n other within among =
    subst (λ (cs : List ℕ). Contains cs other) (sym (drop_more columns n 0 within)) (suc among.0, omega (arith, among.1), among.2)

here_of : (columns : List ℕ) (n : ℕ) → n < length columns → Contains (drop n columns) (get_or columns n 0)
here_of columns n within = subst (λ (cs : List ℕ). Contains cs (get_or columns n 0)) (sym (drop_more columns n 0 within)) (0, omega arith, refl)

abbrev pub Stays : List ℕ → Values → Values → ℕ → Type 0
Stays columns row left n = (column : ℕ) → Contains (drop n columns) column → value_in column left ≡ value_in column row

-- a value that is moved isn't wanted again
pub stays_more : (columns : List ℕ) (again : List Bool) (row left new : Values) (n : ℕ) → n < length columns → again ≡ named_again columns → Stays columns row left n
    → ((other : ℕ) → (get_or again n false ≡ false → other ≡ get_or columns n 0 → ⊥) → value_in other new ≡ value_in other left) → Stays columns row new (n + 1)
stays_more columns again row left new n within is stays others other among =
    others other (λ once same.
    none_behind (drop (n + 1) columns) (get_or columns n 0) other (sym (again_at columns n (get_or columns n 0) false within (get_or_any columns n 0 (get_or columns n 0) within)) ∙ ap (λ (bs : List Bool). get_or bs n false) (sym is) ∙ once) among same)
    ∙ stays other (behind_of columns n other within among)

pub picked_more : (columns : List ℕ) (row left values new : Values) (value : Value) (n : ℕ) → n < length columns → Stays columns row left n → values ≡ map (λ column. value_in column row) (take n columns)
    → value ≡ value_in (get_or columns n 0) left → new ≡ values ++ value ∷ [] → new ≡ map (λ column. value_in column row) (take (n + 1) columns)
picked_more columns row left values new value n within stays far gives pushed =
    pushed ∙ ap (λ (v : Value). values ++ v ∷ []) (gives ∙ stays (get_or columns n 0) (here_of columns n within)) ∙ ap (λ (vs : Values). vs ++ value_in (get_or columns n 0) row ∷ []) far
    ∙ sym (ap (map (λ column. value_in column row)) (take_more columns n 0 within) ∙ map-append (λ column. value_in column row) (take n columns) (get_or columns n 0 ∷ []))
