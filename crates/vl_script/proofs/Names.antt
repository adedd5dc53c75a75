-- What the names of sessions, groups and counts are made of, and that each has one meaning.
use Rattle.std.specs.declared.option.Option.{Option}
use Rattle.std.proofs.Common.{◌≡◌, ◌∙◌, ◌<◌, ◌≤◌, ◌^◌, ◌+◌, ◌%◌, ◌↔◌, sym, refl, ℕ, Bool, false, List, [], ◌∷◌, ◌++◌, ◌==◌, IsTrue, arith, rules, Some, None, IfNone, codes}
use Rattle.std.specs.Fmt.{decimal}
use Rattle.std.proofs.lemmas.Fmt.{decimal_by_steps, decimal_nonempty, decimal_injective}
use Rattle.std.proofs.lemmas.Bool.{ne_eqb, false≢true}
use Rattle.std.proofs.lemmas.List.Elements.{All-nil, All-cons, All-push}
use Rattle.vl_values.specs.Group.{group_name}
use Rattle.vl_values.specs.declared.group.Group.{Group}
use Rattle.vl_values.specs.declared.group.Group.TheVariants.{Pre, Main, Post}
use Rattle.vl_script.specs.Script.{HasNoSpace, IsCount, IsSession, IsWord, session_name}
use Rattle.vl_script.proofs.Cuts.{one_rest}

plain_digit : (n : ℕ) → n < 10 → HasNoSpace ((48 + n) ∷ [])
plain_digit n small =
    All-cons (λ b. (b == 32) ≡ false) (48 + n) [] (ne_eqb (48 + n) 32 (λ e. omega arith)) (All-nil (λ b. (b == 32) ≡ false))

plain_more : (n : ℕ) (digits : List ℕ) → 10 ≤ n → HasNoSpace digits → HasNoSpace (digits ++ ((48 + n % 10) ∷ []))
plain_more n digits big plain = All-push (λ b. (b == 32) ≡ false) digits (48 + n % 10) plain (ne_eqb (48 + n % 10) 32 (λ e. omega arith))

plain_decimal : (n : ℕ) → n < 2 ^ 64 → HasNoSpace (decimal n)
plain_decimal n fits = decimal_by_steps (λ _ digits. HasNoSpace digits) plain_digit plain_more n fits

-- a count is a word
pub count_word : (n : ℕ) → IsCount n → IsWord (decimal n)
count_word n count =
    let fits : n < 2 ^ 64 = omega (arith, count.most) in
    record { some = omega (arith, decimal_nonempty n fits); plain = plain_decimal n fits }

-- so is the name of a session
pub session_word : (n : ℕ) → IsSession n → IsWord (session_name n)
session_word n session =
    let fits : n < 2 ^ 64 = omega (arith, session.most) in
    record {
      some = omega arith;
      plain = All-cons (λ b. (b == 32) ≡ false) 115 (decimal n) refl (plain_decimal n fits);
    }

-- and that of a group
pub group_word : (group : Group) → IsWord (group_name group)
group_word Pre = record { some = omega arith; plain = search rules }
group_word Main = record { some = omega arith; plain = search rules }
group_word Post = record { some = omega arith; plain = search rules }

-- a name's digits write one number
pub one_number : (digits : List ℕ) (n m : ℕ) → IsCount n → IsCount m → digits ≡ decimal n → digits ≡ decimal m → n ≡ m
one_number digits n m one other e d =
    decimal_injective n m (omega (arith, one.most)) (omega (arith, other.most)) (sym e ∙ d)

-- a number above 9,999 is that of no session
pub too_high : (name digits : List ℕ) (n m : ℕ) → name ≡ codes "s" ++ digits → digits ≡ decimal n → IsCount n → 9999 < n → IsSession m → name ≡ session_name m → ⊥
too_high name digits n m front reads count high session is =
    let same : digits ≡ decimal m = one_rest name (codes "s") digits (decimal m) front is in
    let number : n ≡ m = decimal_injective n m (omega (arith, count.most)) (omega (arith, session.most)) (sym reads ∙ same) in
    omega (arith, session.most)

-- a text that fails the test is no word
pub not_word : (text : List ℕ) (b : Bool) → b ≡ false → (IsTrue b ↔ IsWord text) → IsWord text → ⊥
not_word text b is tests word = false≢true (sym is ∙ tests.1 word)

-- what an answer of none says, in other words
pub none_along : {X A B : Type 0} (r : Option X) → (A → B) → IfNone r A → IfNone r B
none_along None f h = f h
none_along (Some x) f h = tt
