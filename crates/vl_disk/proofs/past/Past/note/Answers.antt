use Rattle.std.proofs.Common.{◌≡◌, ◌-◌, ◌++◌, [], ◌∷◌, ℕ, List, length, vec_capacity, ◌∙◌, ap, arith, length-append}
use Rattle.vl_disk.specs.Past.{PastState, Told, begun, calls_len, replay, told_after}
use Rattle.vl_disk.proofs.Replayed.{calls_len_more, replay_more}
use Rattle.vl_disk.proofs.Written.{less_room}
use Rattle.vl_disk.specs.declared.call.Call.{Call}
use Rattle.vl_disk.proofs.past.Past.note.Goals as goal

pub invariant_of-self : goal.invariant_of-self
invariant_of-self c =
    let a = c.self.inside in
    let inv = c.self.invariant in
    let room : a.room ≡ c.args.self.now.room = ap (λ (s : PastState). s.room) c.self.view_is in
    let spare : a.spare ≡ c.args.self.now.spare = ap (λ (s : PastState). s.spare) c.self.view_is in
    let calls = c.in-Ok.ensures in
    let log = c.in-Ok-extend_from_slice.ensures in
    record {
      sized = ap calls_len calls.items
          ∙ (calls_len_more a.calls.items c.args.call
          ∙ omega (arith, inv.sized, c.requires.len, ap length log.items, length-append a.log.items c.args.bytes.now));
      calls_capacity = omega (arith, ap length calls.items, length-append a.calls.items (c.args.call ∷ []), inv.calls_capacity, calls.capacity, c.requires.spare, spare);
      log_capacity =
          omega (
            arith,
            ap length log.items,
            length-append a.log.items c.args.bytes.now,
            log.capacity,
            less_room (length a.log.items) a.spare a.room (vec_capacity a.log) (length c.args.bytes.now) inv.log_capacity
                (omega (arith, c.requires.room, room)) (omega (arith, c.requires.spare, spare)),
          );
    }

pub returns : goal.returns
returns c =
    let a = c.self.inside in
    let inv = c.self.invariant in
    let state : List Call → List ℕ → PastState = λ calls log. record { told = replay (begun a.start.items) calls log; room = a.room; spare = a.spare - 1 } in
    let with_told : Told → PastState = λ t. record { told = t; room = a.room; spare = a.spare - 1 } in
    let next : PastState → PastState = λ s. record { told = told_after c.args.call c.args.bytes.now s.told; room = s.room; spare = s.spare - 1 } in
    ap (λ (calls : List Call). state calls c.extend_from_slice.new.self.items) c.in-Ok.ensures.items
    ∙ (ap (λ (log : List ℕ). state (a.calls.items ++ c.args.call ∷ []) log) c.in-Ok-extend_from_slice.ensures.items
    ∙ (ap with_told (replay_more (begun a.start.items) a.calls.items a.log.items c.args.call c.args.bytes.now inv.sized c.requires.len)
    ∙ ap next c.self.view_is))
