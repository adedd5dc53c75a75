-- Whether a value is among others.
use Rattle.std.specs.Prelude.{Bool, List, not, ◌&&◌}
use Rattle.std.specs.List.{list_any}
use Rattle.vl_values.specs.declared.value.Value.{Value}
use Rattle.vl_values.specs.Value.{is_null, is_same_value}

-- the value isn't NULL and is one of these
abbrev pub is_among : Value → List Value → Bool
is_among value values = not (is_null value) && list_any (is_same_value value) values
