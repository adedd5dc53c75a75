-- What the words begin with, and what a parse tells of them.
use Rattle.std.specs.declared.alloc.Global.{Global}
use Rattle.std.specs.declared.option.Option.{Option}
use Rattle.std.proofs.Common.{◌≡◌, ◌∙◌, ◌<◌, inl, inr, ap, sym, subst, refl, arith, ℕ, Bool, true, false, List, [], ◌∷◌, map, length, get_or, Some, None, IsTrue, codes}
use Rattle.std.specs.Prelude.{String, is_some}
use Rattle.std.specs.Str.{bytes_eq}
use Rattle.std.proofs.lemmas.Slice.Eq.{bytes_eq-Decides}
use Rattle.clap.specs.Matches.{found_of, first_value}
use Rattle.clap.specs.Words.{App, HasKind, HasMatchesOf, IsAmong, Text, fault_of, first_of, is_simple, is_simple_and_free, kind_of, matches_of, rows_of}
use Rattle.clap.specs.declared.error.Error.{Error}
use Rattle.clap.specs.declared.error.kind.ErrorKind.{ErrorKind}
use Rattle.clap.specs.declared.error.kind.ErrorKind.TheVariants.{DisplayHelp, OutOfMemory}
use Rattle.clap.specs.declared.parser.matches.ArgMatches.{ArgMatches}
use Rattle.clap.proofs.OnLiterals.{clap_on_literals}
use Rattle.clap.proofs.WalkLemmas.{first_value-rows}
use Rattle.vtgate_cl.specs.declared.words_fault.WordsFault.{WordsFault}
use Rattle.vtgate_cl.specs.declared.words_fault.WordsFault.TheVariants.{Refused, Help, Memory}
use Rattle.vtgate_cl.specs.Words.{AsksHelp, BeginsWith, Denies, GetsHelp, HasValue, IsAccepted, IsCheck, IsScript, IsTaken, Means, Rejects, check_options, script_options, texts_of}

-- ---- the first word

pub first_word : {X : Type 0} (f : X → List ℕ) (words : List X) (word : X) (text : List ℕ) (same : Bool) → 0 < length words → word ≡ get_or words 0 word → same ≡ bytes_eq (f word) text
    → (IsTrue same → (others : List (List ℕ)) × (map f words ≡ text ∷ others)) × (((others : List (List ℕ)) × (map f words ≡ text ∷ others)) → IsTrue same)
first_word f [] word text same some at tests = absurd (omega arith)
first_word f (w ∷ ws) word text same some at tests =
    let decides = bytes_eq-Decides (f word) text in (
      λ yes. (map f ws, ap (λ v. v ∷ map f ws) (ap f (sym at) ∙ decides.0 (sym tests ∙ yes))),
      λ is. let e : f w ∷ map f ws ≡ text ∷ is.0 = is.1 in tests ∙ decides.1 (ap f at ∙ cc),
    )

-- the first letter
abbrev letter : List (List ℕ) → ℕ
letter words = get_or (get_or words 0 []) 0 0

letters_differ : (n : ℕ) → n ≡ 115 → n ≡ 99 → ⊥
letters_differ n s c = omega (arith, s, c)

not_both : (words : List (List ℕ)) → BeginsWith (codes "script") words → BeginsWith (codes "check") words → ⊥
not_both words a b = letters_differ (letter words) (ap letter a.1) (ap letter b.1)

-- words ask for one thing only
pub script_not_check : (words : List (String Global)) → IsScript words → IsCheck words → ⊥
script_not_check words a b = not_both (texts_of words) a.0 b.0

-- ---- refusals

-- what clap takes it doesn't answer with help
taken_not_helped : (options : App) (words : List Text) → IsTaken options words → GetsHelp options words → ⊥
taken_not_helped options words taken helped = subst (IsAmong DisplayHelp) taken.faultless helped.among

-- words that ask for help aren't accepted
pub help_refused : (words : List (String Global)) → AsksHelp words → IsAccepted words → ⊥
help_refused words (inl script) (inl is) =
    taken_not_helped script_options (texts_of words) is.1 script.1
help_refused words (inl script) (inr is) = not_both (texts_of words) script.0 is.0
help_refused words (inr check) (inl is) = not_both (texts_of words) is.0 check.0
help_refused words (inr check) (inr is) =
    taken_not_helped check_options (texts_of words) is.1 check.1

script_refused : (words : List (String Global)) → BeginsWith (codes "script") (texts_of words) → (IsTaken script_options (texts_of words) → ⊥) → IsAccepted words → ⊥
script_refused words begins other (inl script) = other script.1
script_refused words begins other (inr check) = not_both (texts_of words) begins check.0

check_refused : (words : List (String Global)) → BeginsWith (codes "check") (texts_of words) → (IsTaken check_options (texts_of words) → ⊥) → IsAccepted words → ⊥
check_refused words begins other (inl script) = not_both (texts_of words) script.0 begins
check_refused words begins other (inr check) = other check.1

-- the options of `script` don't take the words
pub script_denied : (words : List (String Global)) (fault : WordsFault) → BeginsWith (codes "script") (texts_of words) → Rejects script_options (texts_of words) fault → Denies words fault
script_denied words Refused begins rejects = script_refused words begins rejects
script_denied words (Help text) begins rejects = inl (begins, rejects)
script_denied words Memory begins rejects = tt

-- those of `check` don't
pub check_denied : (words : List (String Global)) (fault : WordsFault) → BeginsWith (codes "check") (texts_of words) → Rejects check_options (texts_of words) fault → Denies words fault
check_denied words Refused begins rejects = check_refused words begins rejects
check_denied words (Help text) begins rejects = inr (begins, rejects)
check_denied words Memory begins rejects = tt

-- ---- a parse

-- the command is not beyond what clap tells exactly
pub check_free : is_simple_and_free check_options ≡ true
unfolding clap_on_literals
check_free = refl

pub check_simple : is_simple check_options ≡ true
unfolding clap_on_literals
check_simple = refl

-- the command took the words
pub parse_taken : (have want : App) (words : List Text) → have ≡ want → is_simple_and_free want ≡ true → (is_simple_and_free have ≡ true → fault_of have words ≡ []) → IsTaken want words
parse_taken have want words same free none = record {
  faultless = sym (ap (λ (a : App). fault_of a words) same) ∙ none (ap is_simple_and_free same ∙ free);
}

-- or it has an error of this kind
error_kind : (have want : App) (words : List Text) (e : Error) → have ≡ want → HasKind (fault_of have words) e → (kind_of e ≡ OutOfMemory → ⊥) → IsAmong (kind_of e) (fault_of want words)
error_kind have want words e same (inl memory) other = absurd (other memory)
error_kind have want words e same (inr among) other =
    subst (IsAmong (kind_of e)) (ap (λ (a : App). fault_of a words) same) among

help_kind : (kind : ErrorKind) → kind ≡ DisplayHelp → kind ≡ OutOfMemory → ⊥
help_kind kind help memory = let e : DisplayHelp ≡ OutOfMemory = sym help ∙ memory in cc

-- which says why it doesn't take them
pub parse_rejects : (have want : App) (words : List Text) (e : Error) (fault : WordsFault) → have ≡ want → is_simple_and_free want ≡ true → (is_simple_and_free have ≡ true → HasKind (fault_of have words) e) → Means (kind_of e) fault → Rejects want words fault
parse_rejects have want words e Refused same free kinds means = λ taken.
    subst (IsAmong (kind_of e)) taken.faultless (error_kind have want words e same (kinds (ap is_simple_and_free same ∙ free)) means)
parse_rejects have want words e (Help text) same free kinds means = record {
  among = subst
      (λ (kind : ErrorKind). IsAmong kind (fault_of want words))
      means
      (error_kind have want words e same (kinds (ap is_simple_and_free same ∙ free)) (help_kind (kind_of e) means));
}
parse_rejects have want words e Memory same free kinds means = tt

-- the value of an option
pub parse_value : (m : ArgMatches) (have want : App) (words : List Text) (option value : Text) → have ≡ want → is_simple want ≡ true → HasMatchesOf have words m → Some value ≡ first_value (found_of m) option → HasValue want option words value
parse_value m have want words option value same simple matches got =
    let rows : rows_of (found_of m) ≡ matches_of have words = (matches (ap is_simple same ∙ simple)).0 in
    record { first = sym (got ∙ first_value-rows (found_of m) option ∙ ap (first_of option) (rows ∙ ap (λ (a : App). matches_of a words) same)) }

-- an option that has to be there has a value
pub value_there : (m : ArgMatches) (id option : Text) → id ≡ option → None ≡ first_value (found_of m) option → is_some (first_value (found_of m) id) ≡ true → ⊥
value_there m id option same none has =
    let e : false ≡ true = ap (λ (o : Option Text). is_some o) (none ∙ ap (first_value (found_of m)) (sym same)) ∙ has in
    cc
