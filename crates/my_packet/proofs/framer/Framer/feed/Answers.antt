use Rattle.std.proofs.Common.{◌≡◌, ◌++◌, List, [], ℕ, sym, subst, arith}
use Rattle.std.proofs.lemmas.List.{take-append-drop, nil_from_length}
use Rattle.std.proofs.lemmas.Bool.Decides.{nat_tests}
use Rattle.my_packet.proofs.Feeds.{midway_only, midway_sound, midway_cut, midway_cut_fault, midway_end, held_unfinished}
use Rattle.my_packet.proofs.Streams.{one_fault, memory_else, no_fault, one_step, fault_alone}
use Rattle.my_packet.specs.Feeding.{Midway}
use Rattle.my_packet.specs.Stream.{Breaks, IsUnfinished}
use Rattle.my_packet.proofs.framer.Framer.feed.Goals as goal

pub loop-rest-preserved : goal.loop-rest-preserved
loop-rest-preserved c =
    let P : List ℕ → Type 0 = λ zs. Midway c.args.self.now.due (c.args.self.now.held ++ c.args.bytes.now) c.loop-rest.packets.items c.loop-rest.self zs in
    let cut : c.loop-rest.rest.now ≡ c.split_at.result.0.now ++ c.split_at.result.1.now = rw (c.split_at.ensures.front, c.split_at.ensures.back) (sym (take-append-drop _ _)) in
    c.in_default-advance.ensures.ok _ _ _ (subst P cut c.loop-rest.invariant)

pub returns-clause-only : goal.returns-clause-only
returns-clause-only c = λ going packets rest spells.
    let end : c.loop-rest.rest.now ≡ [] = nil_from_length _ (grind (arith, nat_tests)) in
    midway_only _ _ _ _ _ _ _ end c.loop-rest.invariant spells

pub returns-clause-only_fault : goal.returns-clause-only_fault
returns-clause-only_fault c = λ going packets cause ne breaks.
    let end : c.loop-rest.rest.now ≡ [] = nil_from_length _ (grind (arith, nat_tests)) in
    midway_sound _ _ _ _ _ _ _ end c.loop-rest.invariant ne breaks

pub returns-clause-cut : goal.returns-clause-cut
returns-clause-cut c = λ more others rest spells.
    let end : c.loop-rest.rest.now ≡ [] = nil_from_length _ (grind (arith, nat_tests)) in
    midway_cut _ _ _ _ _ _ _ _ end c.loop-rest.invariant spells

pub returns-clause-cut_fault : goal.returns-clause-cut_fault
returns-clause-cut_fault c = λ more others cause breaks.
    let end : c.loop-rest.rest.now ≡ [] = nil_from_length _ (grind (arith, nat_tests)) in
    midway_cut_fault _ _ _ _ _ _ _ _ end c.loop-rest.invariant breaks

pub returns-clause-one : goal.returns-clause-one
returns-clause-one c = λ within.
    let old = c.args.self.now in
    let f = c.self.inside in
    let unfinished : IsUnfinished old.due old.held = rw (← c.self.view_is) (held_unfinished f.due f.header f.len f.payload.items c.self.invariant) in
    let end : c.loop-rest.rest.now ≡ [] = nil_from_length _ (grind (arith, nat_tests)) in
    let P : List ℕ → Type 0 = λ zs. Midway old.due (old.held ++ c.args.bytes.now) c.loop-rest.packets.items c.loop-rest.self zs in
    let read = midway_end _ _ _ _ (subst P end c.loop-rest.invariant) in
    one_step old.due old.held c.args.bytes.now c.loop-rest.packets.items c.loop-rest.self.held unfinished within read.whole

pub returns-in-Err-clause-only : goal.returns-in-Err-clause-only
returns-in-Err-clause-only c = λ going packets rest spells.
    let old = c.args.self.now in
    let P : List ℕ → Type 0 = λ zs. Midway old.due (old.held ++ c.args.bytes.now) c.loop-rest.packets.items c.loop-rest.self zs in
    let cut : c.loop-rest.rest.now ≡ c.split_at.result.0.now ++ c.split_at.result.1.now = rw (c.split_at.ensures.front, c.split_at.ensures.back) (sym (take-append-drop _ _)) in
    let breaks : Breaks old.due (old.held ++ c.args.bytes.now) c.stop-in-Err.result.before c.stop-in-Err.result.cause = rw (c.stop-in-Err.ensures.before, c.stop-in-Err.ensures.cause) (c.in-Err.ensures.err _ _ _ (subst P cut c.loop-rest.invariant)) in
    memory_else c.stop-in-Err.result.cause (λ ne. no_fault ne spells breaks)

pub returns-in-Err-clause-only_fault : goal.returns-in-Err-clause-only_fault
returns-in-Err-clause-only_fault c = λ going packets cause ne other got.
    let old = c.args.self.now in
    let P : List ℕ → Type 0 = λ zs. Midway old.due (old.held ++ c.args.bytes.now) c.loop-rest.packets.items c.loop-rest.self zs in
    let cut : c.loop-rest.rest.now ≡ c.split_at.result.0.now ++ c.split_at.result.1.now = rw (c.split_at.ensures.front, c.split_at.ensures.back) (sym (take-append-drop _ _)) in
    let breaks : Breaks old.due (old.held ++ c.args.bytes.now) c.stop-in-Err.result.before c.stop-in-Err.result.cause = rw (c.stop-in-Err.ensures.before, c.stop-in-Err.ensures.cause) (c.in-Err.ensures.err _ _ _ (subst P cut c.loop-rest.invariant)) in
    one_fault got ne breaks other

pub returns-in-Err-clause-alone : goal.returns-in-Err-clause-alone
returns-in-Err-clause-alone c = λ within ne.
    let old = c.args.self.now in
    let f = c.self.inside in
    let unfinished : IsUnfinished old.due old.held = rw (← c.self.view_is) (held_unfinished f.due f.header f.len f.payload.items c.self.invariant) in
    let P : List ℕ → Type 0 = λ zs. Midway old.due (old.held ++ c.args.bytes.now) c.loop-rest.packets.items c.loop-rest.self zs in
    let cut : c.loop-rest.rest.now ≡ c.split_at.result.0.now ++ c.split_at.result.1.now = rw (c.split_at.ensures.front, c.split_at.ensures.back) (sym (take-append-drop _ _)) in
    let breaks : Breaks old.due (old.held ++ c.args.bytes.now) c.stop-in-Err.result.before c.stop-in-Err.result.cause = rw (c.stop-in-Err.ensures.before, c.stop-in-Err.ensures.cause) (c.in-Err.ensures.err _ _ _ (subst P cut c.loop-rest.invariant)) in
    fault_alone old.due old.held c.args.bytes.now c.stop-in-Err.result.before c.stop-in-Err.result.cause unfinished within ne breaks
