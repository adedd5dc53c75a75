-- What fits is a value of the column, and a value of the column fits as it is.
use Rattle.std.proofs.Common.{rules, ◌≡◌, ℕ, Bool, true, false, ℤ, pos, negsuc, List, Option, Some, None, Ok}
use Rattle.vl_values.specs.declared.col_type.ColType.{ColType}
use Rattle.vl_values.specs.declared.col_type.ColType.TheVariants as types
use Rattle.vl_values.specs.declared.value.Value.{Value}
use Rattle.vl_values.specs.declared.value.Value.TheVariants.{Null, Int, Uint, Bytes}
use Rattle.vl_values.specs.Fit.{fit_integer, fit_spelled, fit_text, fitted, integer_in, is_held}

integer_held : (ty : ColType) (nullable : Bool) (z : ℤ) (w : Value) → fit_integer ty z ≡ Ok w → is_held ty nullable w ≡ true
integer_held types.BigInt nullable z w fits = search rules
integer_held types.BigUint nullable (pos n) w fits = search rules
integer_held types.BigUint nullable (negsuc n) w fits = search rules
integer_held types.Int nullable z w fits = search rules
integer_held types.Uint32 nullable (pos n) w fits = search rules
integer_held types.Uint32 nullable (negsuc n) w fits = search rules
integer_held (types.VarChar most) nullable z w fits = search rules
integer_held (types.VarBinary most) nullable z w fits = search rules

spelled_held : (ty : ColType) (nullable : Bool) (z : Option ℤ) (w : Value) → fit_spelled ty z ≡ Ok w → is_held ty nullable w ≡ true
spelled_held ty nullable (Some z) w fits = integer_held ty nullable z w fits
spelled_held ty nullable None w fits = search rules

text_held : (ty : ColType) (nullable : Bool) (text : List ℕ) (w : Value) → fit_text ty text ≡ Ok w → is_held ty nullable w ≡ true
text_held types.BigInt nullable text w fits = spelled_held types.BigInt nullable (integer_in text) w fits
text_held types.BigUint nullable text w fits = spelled_held types.BigUint nullable (integer_in text) w fits
text_held types.Int nullable text w fits = spelled_held types.Int nullable (integer_in text) w fits
text_held types.Uint32 nullable text w fits = spelled_held types.Uint32 nullable (integer_in text) w fits
text_held (types.VarChar most) nullable text w fits = search rules
text_held (types.VarBinary most) nullable text w fits = search rules

-- what fits, the column may hold
pub fitted_is_held : (ty : ColType) (nullable : Bool) (v w : Value) → fitted v ty nullable ≡ Ok w → is_held ty nullable w ≡ true
fitted_is_held ty true Null w fits = search rules
fitted_is_held ty false Null w fits = search rules
fitted_is_held ty nullable (Int z) w fits = integer_held ty nullable z w fits
fitted_is_held ty nullable (Uint n) w fits = integer_held ty nullable (pos n) w fits
fitted_is_held ty nullable (Bytes text) w fits = text_held ty nullable text w fits

-- what the column may hold fits, as it is
pub held_fits : (ty : ColType) (nullable : Bool) (w : Value) → is_held ty nullable w ≡ true → fitted w ty nullable ≡ Ok w
held_fits ty true Null held = search rules
held_fits ty false Null held = search rules
held_fits types.BigInt nullable (Int z) held = search rules
held_fits types.BigInt nullable (Uint n) held = search rules
held_fits types.BigInt nullable (Bytes b) held = search rules
held_fits types.BigUint nullable (Int z) held = search rules
held_fits types.BigUint nullable (Uint n) held = search rules
held_fits types.BigUint nullable (Bytes b) held = search rules
held_fits types.Int nullable (Int z) held = search rules
held_fits types.Int nullable (Uint n) held = search rules
held_fits types.Int nullable (Bytes b) held = search rules
held_fits types.Uint32 nullable (Int z) held = search rules
held_fits types.Uint32 nullable (Uint n) held = search rules
held_fits types.Uint32 nullable (Bytes b) held = search rules
held_fits (types.VarChar most) nullable (Int z) held = search rules
held_fits (types.VarChar most) nullable (Uint n) held = search rules
held_fits (types.VarChar most) nullable (Bytes b) held = search rules
held_fits (types.VarBinary most) nullable (Int z) held = search rules
held_fits (types.VarBinary most) nullable (Uint n) held = search rules
held_fits (types.VarBinary most) nullable (Bytes b) held = search rules
