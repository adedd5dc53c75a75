use Rattle.std.proofs.Common.{◌≡◌, ◌*◌, ◌∙◌, ℕ, length, sym, ap, subst, arith}
use Rattle.std.specs.Str.{IsUtf8}
use Rattle.std.proofs.lemmas.List.{length-take-le}
use Rattle.vl_vindex.proofs.Digits.{IsUtf8-encode_lower, where_ok}
use Rattle.vl_vindex.proofs.side.SideDisplay.fmt.Goals as goal

pub unreachable-requires : goal.unreachable-requires
unreachable-requires g c =
    let side_len = length-take-le c.self.inside.len c.self.inside.bytes (omega arith) in
    let fits = length-take-le (2 * c.self.inside.len) _ (omega arith) in
    let size : length c.as_slice.result.now ≡ c.self.inside.len =
    ap length (c.as_slice.ensures.value ∙ sym c.self.view_is) ∙ side_len in
    let written = where_ok _ c.encode_to_slice.result (c.encode_to_slice.ensures.fits.1 (fits ∙ ap (λ (n : ℕ). 2 * n) (sym size)))
    c.encode_to_slice.ensures.written in
    c.in-Err.ensures.cases.0 (subst IsUtf8 (sym written) (IsUtf8-encode_lower c.as_slice.result.now))
