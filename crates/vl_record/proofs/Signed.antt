-- A signed number that fits 64 bits is that of its bits.
use Rattle.std.proofs.Common.{FitsSigned, ◌≡◌, ℕ, ℤ, ◌^◌, ◌<◌}
use Rattle.std.specs.Int.{w64, cast_signed, cast_unsigned}
use Rattle.std.proofs.Math.Facts.{Fits-of_z, sfits_to_z}
use Rattle.std.proofs.lemmas.Int.{to_z-of_z}

pub signed_again : (z : ℤ) → FitsSigned w64 z → (cast_unsigned w64 z < 2 ^ 64) × (cast_signed w64 (cast_unsigned w64 z) ≡ z)
signed_again z fits = ((Fits-of_z {w = w64} {z = z} fits).fits, to_z-of_z w64 z fits)

pub signed_fits : (n : ℕ) → n < 2 ^ 64 → FitsSigned w64 (cast_signed w64 n)
signed_fits n lt = sfits_to_z {w = w64} {n = n} (record { fits = lt })
