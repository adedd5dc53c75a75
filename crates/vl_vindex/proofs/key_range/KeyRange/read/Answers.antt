use Rattle.std.proofs.Common.{◌≡◌, ◌+◌, Ok, false, sym, ap, ◌∙◌, inl}
use Rattle.std.proofs.lemmas.List.{take_rest}
use Rattle.hex.specs.Hex.{decode_of}
use Rattle.vl_vindex.specs.KeyRange.{is_above}
use Rattle.vl_vindex.proofs.Spelled.{spelled_once, fault_is_no_range, IsSpelled-at_dash, upside_down}
use Rattle.vl_vindex.proofs.key_range.KeyRange.read.Goals as goal

pub returns-in-Err-clause-only : goal.returns-in-Err-clause-only
returns-in-Err-clause-only c = λ range read. absurd (fault_is_no_range c.args.text.now _ range (inl c.in-Err.ensures.outside) read)

pub returns-then-is_above-clause-only : goal.returns-then-is_above-clause-only
returns-then-is_above-clause-only c = λ range read.
    let end_digits = ap decode_of (sym (take_rest c.args.text.now (c.in-Ok.dash + 1))) ∙ c.from_digits-end.ensures in
    let spelled = IsSpelled-at_dash c.args.text.now c.from_digits-start.result c.from_digits-end.result c.in-Ok.dash c.in-Ok.ensures.sides
    c.from_digits-start.ensures end_digits in
    ap Ok (spelled_once c.args.text.now _ range spelled read.0)

pub returns-else-is_above-clause-fault : goal.returns-else-is_above-clause-fault
returns-else-is_above-clause-fault c =
    let end_digits = ap decode_of (sym (take_rest c.args.text.now (c.in-Ok.dash + 1))) ∙ c.from_digits-end.ensures in
    let unordered : is_above c.from_digits-end.result c.from_digits-start.result ≡ false = cc in
    upside_down c.args.text.now c.from_digits-start.result c.from_digits-end.result c.in-Ok.dash c.in-Ok.ensures.sides
    c.from_digits-start.ensures end_digits unordered

pub returns-else-is_above-clause-only : goal.returns-else-is_above-clause-only
returns-else-is_above-clause-only c = λ range read.
    let end_digits = ap decode_of (sym (take_rest c.args.text.now (c.in-Ok.dash + 1))) ∙ c.from_digits-end.ensures in
    let unordered : is_above c.from_digits-end.result c.from_digits-start.result ≡ false = cc in
    absurd (fault_is_no_range c.args.text.now _ range
    (upside_down c.args.text.now c.from_digits-start.result c.from_digits-end.result c.in-Ok.dash c.in-Ok.ensures.sides
    c.from_digits-start.ensures end_digits unordered) read)
