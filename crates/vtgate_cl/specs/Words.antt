-- The words behind the program's name, and what they ask for.
use Rattle.std.specs.Prelude.{◌≡◌, ◌⊎◌, List, [], ◌∷◌, codes, map, string_bytes, String, Some, true}
use Rattle.std.specs.declared.alloc.Global.{Global}
use Rattle.clap.specs.Words.{App, IsAmong, Rule, Text, fault_of, first_of, matches_of, new_app, new_rule, with_rule}
use Rattle.clap.specs.declared.builder.action.ArgAction.TheVariants.{Set}
use Rattle.clap.specs.declared.error.kind.ErrorKind.{ErrorKind}
use Rattle.clap.specs.declared.error.kind.ErrorKind.TheVariants.{DisplayHelp, OutOfMemory}
use Rattle.vtgate_cl.specs.declared.wanted.Wanted.{Wanted}
use Rattle.vtgate_cl.specs.declared.wanted.Wanted.TheVariants.{Script, Check}
use Rattle.vtgate_cl.specs.declared.words_fault.WordsFault.{WordsFault}
use Rattle.vtgate_cl.specs.declared.words_fault.WordsFault.TheVariants.{Refused, Help, Memory}

abbrev pub texts_of : List (String Global) → List Text
texts_of words = map (λ word. string_bytes word) words

-- ---- the options of each first word, as clap has them

-- `script` has none
abbrev pub script_options : App
script_options = new_app (codes "script")

-- `--catalog F`, which has to be there
abbrev pub catalog_option : Rule
catalog_option = record (new_rule (codes "catalog")) {
  long = Some (codes "catalog");
  action = Some Set;
  value_names = 1;
  required = true;
}

abbrev pub check_options : App
check_options = with_rule (new_app (codes "check")) catalog_option

-- ---- which words are accepted

-- the words begin with this one
abbrev pub BeginsWith : Text → List Text → Type 0
BeginsWith first words = (others : List Text) × (words ≡ first ∷ others)

-- clap takes the words behind the first: it finds no fault in them. Words that ask for help aren't taken.
pub record IsTaken (options : App) (words : List Text) : Type 0 where
  pub faultless : fault_of options words ≡ []

-- clap reads this value of an option
pub record HasValue (options : App) (option : Text) (words : List Text) (value : Text) : Type 0 where
  pub first : first_of option (matches_of options words) ≡ Some value

abbrev pub IsScript : List (String Global) → Type 0
IsScript words = BeginsWith (codes "script") (texts_of words) × IsTaken script_options (texts_of words)

abbrev pub IsCheck : List (String Global) → Type 0
IsCheck words = BeginsWith (codes "check") (texts_of words) × IsTaken check_options (texts_of words)

-- the words ask for a check of the catalog file of this name
abbrev pub IsCheckOf : List (String Global) → Text → Type 0
IsCheckOf words name = IsCheck words × HasValue check_options (codes "catalog") (texts_of words) name

abbrev pub IsAccepted : List (String Global) → Type 0
IsAccepted words = IsScript words ⊎ IsCheck words

-- what accepted words ask for
abbrev pub Asks : List (String Global) → Wanted → Type 0
Asks words Script = IsScript words
Asks words (Check catalog) = IsCheckOf words catalog.now

-- ---- why words aren't read

-- clap answers the words with the command's help
pub record GetsHelp (options : App) (words : List Text) : Type 0 where
  pub among : IsAmong DisplayHelp (fault_of options words)

-- the words ask for the help of their command
abbrev pub AsksHelp : List (String Global) → Type 0
AsksHelp words = (BeginsWith (codes "script") (texts_of words) × GetsHelp script_options (texts_of words))
    ⊎ (BeginsWith (codes "check") (texts_of words) × GetsHelp check_options (texts_of words))

-- why words aren't read; memory may be refused at any words
abbrev pub Denies : List (String Global) → WordsFault → Type 0
Denies words Refused = IsAccepted words → ⊥
Denies words (Help text) = AsksHelp words
Denies words Memory = Unit {0}

-- why clap doesn't take the words behind the first
abbrev pub Rejects : App → List Text → WordsFault → Type 0
Rejects options words Refused = IsTaken options words → ⊥
Rejects options words (Help text) = GetsHelp options words
Rejects options words Memory = Unit {0}

-- what clap's error of this kind says
abbrev pub Means : ErrorKind → WordsFault → Type 0
Means kind Refused = kind ≡ OutOfMemory → ⊥
Means kind (Help text) = kind ≡ DisplayHelp
Means kind Memory = Unit {0}
