-- The text of a value, or of several, that clash: their texts, with `-` between each two.
use Rattle.std.specs.Prelude.{ℕ, if◌then◌else◌, List, codes}
use Rattle.std.specs.List.{list_all}
use Rattle.vl_values.specs.declared.value.Value.{Value}
use Rattle.vl_values.specs.Value.{text_of_value}
use Rattle.vl_text.specs.Listed.{listed}
use Rattle.vl_text.specs.Shown.{in_hex, is_printable}

-- a text as it is where each byte is printable, else in hexadecimal
abbrev pub printable : List ℕ → List ℕ
printable text = if list_all is_printable text then text else in_hex text

abbrev pub joined_text : List Value → List ℕ
joined_text values = listed (codes "-") (λ n value. printable (text_of_value value)) values
