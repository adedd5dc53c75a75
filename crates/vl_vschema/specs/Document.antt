-- A text in JSON, and why it is refused.
use Rattle.std.specs.Prelude.{◌≡◌, ℕ, ◌<◌, false, IsUtf8, List, [], All, Contains, Option, Some, None}
use Rattle.std.specs.Cmp.Lexicographic.{slice_cmp}
use Rattle.std.specs.Ordering.{nat_cmp, is_gt}
use Rattle.serde_json.specs.Data.{Data}
use Rattle.serde_json.specs.Read.{read}
use Rattle.vl_vschema.specs.declared.vschema_fault.VschemaFault.{VschemaFault}
use Rattle.vl_vschema.specs.declared.vschema_fault.VschemaFault.TheVariants.{NotJson, Broken, Memory}
use Rattle.vl_vschema.specs.declared.vschema_rule.VschemaRule.{VschemaRule}
use Rattle.vl_vschema.specs.RuleNumber.{number_of}

-- the value that the text says
abbrev pub IsJson : List ℕ → Data → Type 0
IsJson text d = IsUtf8 text × (read text ≡ Some d)

-- the paths that break each rule
abbrev pub Breaks : Type 0
Breaks = VschemaRule → List (List ℕ)

abbrev pub IsSound : Breaks → Type 0
IsSound breaks = (rule : VschemaRule) → breaks rule ≡ []

-- the path isn't above the other, by bytes
abbrev pub IsAtMost : List ℕ → List ℕ → Type 0
IsAtMost path other = is_gt (slice_cmp nat_cmp path other) ≡ false

-- the least of the paths, none where there are none
abbrev pub IsLeastOf : List (List ℕ) → Option (List ℕ) → Type 0
IsLeastOf paths None = paths ≡ []
IsLeastOf paths (Some path) = Contains paths path × All (IsAtMost path) paths

-- the least rule that is broken, and of it the least path
pub record IsLeast (breaks : Breaks) (rule : VschemaRule) (path : List ℕ) : Type 0 where
  pub broken : Contains (breaks rule) path
  pub first : (other : VschemaRule) → number_of other < number_of rule → breaks other ≡ []
  pub least : All (IsAtMost path) (breaks rule)

-- why a text isn't read at all; want of memory may come at any text
abbrev pub IsUnread : List ℕ → VschemaFault → Type 0
IsUnread text NotJson = (d : Data) → IsJson text d → ⊥
IsUnread text (Broken path rule) = ⊥
IsUnread text Memory = Unit {0}

-- why a text is refused, where what breaks the rules is given
abbrev pub IsRefusal : (Data → Breaks) → List ℕ → VschemaFault → Type 0
IsRefusal breaks text NotJson = IsUnread text NotJson
IsRefusal breaks text (Broken path rule) = (d : Data) × IsJson text d × IsLeast (breaks d) rule path
IsRefusal breaks text Memory = IsUnread text Memory
