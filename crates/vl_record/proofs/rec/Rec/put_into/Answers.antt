use Rattle.std.proofs.Common.{◌≡◌, ◌<◌, ◌+◌, ◌^◌, ◌++◌, ◌∷◌, [], ℕ, length, sym, ap, ◌∙◌, arith, length-append}
use Rattle.std.specs.Int.{w16, w32}
use Rattle.std.proofs.lemmas.Result.{on_err_weaker, on_ok_weaker}
use Rattle.vl_record.specs.Spelling.{number_bytes}
use Rattle.vl_record.specs.Collected.{Collected, changes_bytes, collected_bytes, record_len}
use Rattle.vl_record.proofs.Numbers.{wide16, wide32}
use Rattle.vl_record.proofs.Putting.{any_err, any_ok}
use Rattle.vl_record.proofs.Collecting.{collected_len, framed_is, record_allowed, record_is}
use Rattle.vl_record.proofs.rec.Rec.put_into.Goals as goal

pub returns-in_err-put_u32-clause-full : goal.returns-in_err-put_u32-clause-full
returns-in_err-put_u32-clause-full c =
    any_err c.from_residual.result (omega (arith, c.in_err-put_u32.ensures.full, wide32.len (15 + c.self.inside.size)))

pub returns-in_err-put_u16-clause-full : goal.returns-in_err-put_u16-clause-full
returns-in_err-put_u16-clause-full c =
    let one = ap length c.in_ok-put_u32.ensures.items in
    any_err c.from_residual-in_err-put_u16.result
    (omega (arith, c.in_err-put_u16.ensures.full, c.in_ok-put_u32.ensures.capacity, one, length-append c.args.out.now.items (number_bytes w32 (15 + c.self.inside.size)), wide32.len (15 + c.self.inside.size), wide16.len 1, c.args.out.now.ok.0, c.put_u32.new.out.ok.0))

pub returns-in_err-put_part-clause-full : goal.returns-in_err-put_part-clause-full
returns-in_err-put_part-clause-full c =
    let one = ap length c.in_ok-put_u32.ensures.items in
    let two = ap length c.in_ok-put_u16.ensures.items in
    any_err c.from_residual-in_err-put_part.result
    (omega (arith, collected_len c.args.self.now, c.in_err-put_part.ensures.full, c.in_ok-put_u32.ensures.capacity, c.in_ok-put_u16.ensures.capacity, one, two, length-append c.args.out.now.items (number_bytes w32 (15 + c.self.inside.size)), length-append c.put_u32.new.out.items (number_bytes w16 1), wide32.len (15 + c.self.inside.size), wide16.len 1, c.args.out.now.ok.0, c.put_u32.new.out.ok.0, c.put_u16.new.out.ok.0))

pub returns-clause-full : goal.returns-clause-full
returns-clause-full c =
    let one = ap length c.in_ok-put_u32.ensures.items in
    let two = ap length c.in_ok-put_u16.ensures.items in
    let three = ap length c.in_ok-put_part.ensures.items in
    on_err_weaker c.put_u8.result
    (λ full. omega (arith, collected_len c.args.self.now, full, c.in_ok-put_u32.ensures.capacity, c.in_ok-put_u16.ensures.capacity, c.in_ok-put_part.ensures.capacity, one, two, three, length-append c.args.out.now.items (number_bytes w32 (15 + c.self.inside.size)), length-append c.put_u32.new.out.items (number_bytes w16 1), length-append c.put_u16.new.out.items (collected_bytes c.args.self.now), wide32.len (15 + c.self.inside.size), wide16.len 1, c.args.out.now.ok.0, c.put_u32.new.out.ok.0, c.put_u16.new.out.ok.0, c.put_part.new.out.ok.0))
    c.put_u8.ensures.full

pub returns-clause-items : goal.returns-clause-items
returns-clause-items c =
    let size = c.self.invariant.0 ∙ ap (λ (v : Collected). length (changes_bytes v)) c.self.view_is in
    on_ok_weaker c.put_u8.result
    (λ put. framed_is c.args.self.now c.self.inside.size c.args.out.now.items c.put_u32.new.out.items c.put_u16.new.out.items c.put_part.new.out.items c.put_u8.new.out.items
    size c.in_ok-put_u32.ensures.items c.in_ok-put_u16.ensures.items c.in_ok-put_part.ensures.items put)
    c.put_u8.ensures.items

pub returns-clause-holds : goal.returns-clause-holds
returns-clause-holds c = any_ok c.put_u8.result (λ entries holds. record_is c.args.self.now entries holds)

pub returns-clause-allowed : goal.returns-clause-allowed
returns-clause-allowed c =
    let size : c.self.inside.size ≡ length (changes_bytes c.args.self.now) = c.self.invariant.0 ∙ ap (λ (v : Collected). length (changes_bytes v)) c.self.view_is in
    let short : 20 + length (changes_bytes c.args.self.now) < 2 ^ 32 = omega (arith, size, c.self.invariant.2) in
    any_ok c.put_u8.result (λ catalog shard entries holds tx all. record_allowed catalog shard c.args.self.now entries holds c.in_ok-put_part.ensures.order c.in_ok-put_part.ensures.few short tx all)
