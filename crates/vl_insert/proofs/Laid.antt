-- Outlines that are laid one behind the other, and the tasks that come of them.
use Rattle.std.proofs.Common.{◌≡◌, ℕ, ◌+◌, ◌<◌, Bool, true, false, cond, List, [], ◌∷◌, ◌++◌, length, take, get_or, map, refl, sym, ap, ◌∙◌, subst, arith}
use Rattle.std.specs.Prelude.{Contains, filter}
use Rattle.std.proofs.lemmas.List.{append-nil, append_assoc, map-append, take_more}
use Rattle.std.proofs.lemmas.List.Elements.{filter-append, filter_more}
use Rattle.vl_catalog.specs.declared.catalog.Catalog.{Catalog}
use Rattle.vl_catalog.specs.Place.{shard_count}
use Rattle.vl_port.specs.View.{Values}
use Rattle.vl_lookup.specs.Making.{IsClaim, IsMadeFor}
use Rattle.vl_lookup.specs.Progress.{Progress as Claiming}
use Rattle.vl_insert.specs.declared.outline.Outline.{Outline}
use Rattle.vl_insert.specs.declared.outline.Outline.TheVariants as outlines
use Rattle.vl_insert.specs.declared.task.Task.{Task}
use Rattle.vl_insert.specs.declared.task.Task.TheVariants as tasks
use Rattle.vl_insert.specs.Begun.{AreClaimsFor, AreTasks, insertion_of, needed}
use Rattle.vl_insert.specs.Laying.{AreOutlines, LaysClaims, LaysRow, target_of, with_rows}

claims_both : (catalog : Catalog) (row : Values) (lookups : List ℕ) (claims : List Claiming) (more : List ℕ) (others : List Claiming) → AreClaimsFor catalog row lookups claims → AreClaimsFor catalog row more others
    → AreClaimsFor catalog row (lookups ++ more) (claims ++ others)
claims_both catalog row [] [] more others are rest = rest
claims_both catalog row [] (c ∷ claims) more others are rest = absurd are
claims_both catalog row (k ∷ lookups) [] more others are rest = absurd are
claims_both catalog row (k ∷ lookups) (c ∷ claims) more others are rest = (are.0, are.1, claims_both catalog row lookups claims more others are.2 rest)

-- ---- the lookups that pass, one after the other

alone : (test : ℕ → Bool) (n : ℕ) (b : Bool) → test n ≡ b → filter test (n ∷ []) ≡ cond b (n ∷ []) []
alone test n b is = filter_more test (n ∷ []) 0 n (omega arith) ∙ ap (λ (it : Bool). cond it (n ∷ []) []) is

passed_more : (test : ℕ → Bool) (numbers : List ℕ) (i d : ℕ) → i < length numbers → filter test (take (i + 1) numbers) ≡ filter test (take i numbers) ++ filter test (get_or numbers i d ∷ [])
passed_more test numbers i d within = ap (filter test) (take_more numbers i d within) ∙ filter-append test (take i numbers) (get_or numbers i d ∷ [])

-- no claim
pub none_laid : (catalog : Catalog) (row : Values) (test : ℕ → Bool) (n : ℕ) (old : List Outline) → test n ≡ false → LaysClaims catalog row (filter test (n ∷ [])) old old
none_laid catalog row test n old fails = ([], subst (λ (ls : List ℕ). AreClaimsFor catalog row ls []) (sym (alone test n false fails)) tt, sym (append-nil old))

-- one claim
pub one_laid : (catalog : Catalog) (row : Values) (test : ℕ → Bool) (n : ℕ) (claim : Claiming) (old new : List Outline) → test n ≡ true → IsMadeFor catalog n row claim → IsClaim catalog (shard_count catalog.rings) claim
    → new ≡ old ++ outlines.Claim claim ∷ [] → LaysClaims catalog row (filter test (n ∷ [])) old new
one_laid catalog row test n claim old new passes made ready is = (claim ∷ [], subst (λ (ls : List ℕ). AreClaimsFor catalog row ls (claim ∷ [])) (sym (alone test n true passes)) (made, ready, tt), is)

-- the claims of one lookup more
pub laid_more : (catalog : Catalog) (row : Values) (test : ℕ → Bool) (numbers : List ℕ) (i d : ℕ) (old now new : List Outline) → i < length numbers → LaysClaims catalog row (filter test (take i numbers)) old now
    → LaysClaims catalog row (filter test (get_or numbers i d ∷ [])) now new → LaysClaims catalog row (filter test (take (i + 1) numbers)) old new
laid_more catalog row test numbers i d old now new within (claims, are, is) (others, rest, new_is) = (
  claims ++ others,
  subst (λ (ls : List ℕ). AreClaimsFor catalog row ls (claims ++ others)) (sym (passed_more test numbers i d within)) (claims_both catalog row (filter test (take i numbers)) claims (filter test (get_or numbers i d ∷ [])) others are rest),
  new_is ∙ ap (λ (xs : List Outline). xs ++ map (λ (c : Claiming). outlines.Claim c) others) is ∙ append_assoc old (map (λ (c : Claiming). outlines.Claim c) claims) (map (λ (c : Claiming). outlines.Claim c) others)
      ∙ ap (λ (xs : List Outline). old ++ xs) (sym (map-append (λ (c : Claiming). outlines.Claim c) claims others)),
)

-- a row behind its claims
pub row_laid : (catalog : Catalog) (number : ℕ) (row : Values) (old now new : List Outline) → LaysClaims catalog row (needed catalog number row) old now → new ≡ now ++ outlines.Row (target_of catalog number row) ∷ []
    → LaysRow catalog number row old new
row_laid catalog number row old now new (claims, are, is) new_is = (
  claims,
  are,
  new_is ∙ ap (λ (xs : List Outline). xs ++ outlines.Row (target_of catalog number row) ∷ []) is
      ∙ append_assoc old (map (λ (c : Claiming). outlines.Claim c) claims) (outlines.Row (target_of catalog number row) ∷ []),
)

-- one row more
pub outlines_more : (catalog : Catalog) (number : ℕ) (rows : List Values) (row : Values) (list new : List Outline) → AreOutlines catalog number rows list → LaysRow catalog number row list new
    → AreOutlines catalog number (rows ++ row ∷ []) new
outlines_more catalog number [] row list new are (claims, of_row, is) = (
  claims,
  [],
  of_row,
  is ∙ ap (λ (xs : List Outline). xs ++ (map (λ (c : Claiming). outlines.Claim c) claims ++ outlines.Row (target_of catalog number row) ∷ [])) are,
  refl,
)
outlines_more catalog number (first ∷ rows) row list new (claims, rest, of_first, list_is, more) (added, of_row, is) =
    let tail = map (λ (c : Claiming). outlines.Claim c) added ++ outlines.Row (target_of catalog number row) ∷ [] in (
      claims,
      rest ++ tail,
      of_first,
      is ∙ ap (λ (xs : List Outline). xs ++ tail) list_is ∙ append_assoc (map (λ (c : Claiming). outlines.Claim c) claims) (outlines.Row (target_of catalog number first) ∷ rest) tail,
      outlines_more catalog number rows row rest (rest ++ tail) more (added, of_row, refl),
    )

-- ---- tasks

filled_row : (claims : List Claiming) (catalog : Catalog) (number : ℕ) (row : Values) (rows : List Values) (rest : List Outline)
    → with_rows (map (λ (c : Claiming). outlines.Claim c) claims ++ outlines.Row (target_of catalog number row) ∷ rest) (row ∷ rows)
    ≡ map (λ (c : Claiming). tasks.Claim c) claims ++ tasks.Row (insertion_of catalog number row) ∷ with_rows rest rows
filled_row [] catalog number row rows rest = refl
filled_row (claim ∷ claims) catalog number row rows rest = ap (λ (xs : List Task). tasks.Claim claim ∷ xs) (filled_row claims catalog number row rows rest)

-- the outlines of rows, with the rows, are their tasks
pub tasks_filled : (catalog : Catalog) (number : ℕ) (rows : List Values) (list : List Outline) → AreOutlines catalog number rows list → AreTasks catalog number rows (with_rows list rows)
tasks_filled catalog number [] list are = ap (λ (xs : List Outline). with_rows xs []) are
tasks_filled catalog number (row ∷ rows) list (claims, rest, of_row, is, more) =
    (claims, with_rows rest rows, of_row, ap (λ (xs : List Outline). with_rows xs (row ∷ rows)) is ∙ filled_row claims catalog number row rows rest, tasks_filled catalog number rows rest more)

-- ---- the rows of a plan, read one after the other

pub row_among : (read rows : List Values) (i : ℕ) (item row : Values) → read ≡ rows → i < length read → item ≡ get_or read i item → row ≡ item → Contains rows row
row_among read rows i item row same within at is =
    subst (λ (xs : List Values). Contains xs row) same (subst (λ (r : Values). Contains read r) (sym is) (i, within, sym at))

pub next_outlines : (catalog : Catalog) (number : ℕ) (read rows : List Values) (i : ℕ) (item row : Values) (list new : List Outline) → read ≡ rows → i < length read → item ≡ get_or read i item → row ≡ item
    → AreOutlines catalog number (take i rows) list → LaysRow catalog number row list new → AreOutlines catalog number (take (i + 1) rows) new
next_outlines catalog number read rows i item row list new same within at is are laid =
    subst (λ (xs : List Values). AreOutlines catalog number (take (i + 1) xs) new) same
    (subst (λ (xs : List Values). AreOutlines catalog number xs new) (sym (take_more read i item within ∙ ap (λ (r : Values). take i read ++ r ∷ []) (sym at ∙ sym is)))
    (outlines_more catalog number (take i read) row list new (subst (λ (xs : List Values). AreOutlines catalog number (take i xs) list) (sym same) are) laid))
