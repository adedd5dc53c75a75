use Rattle.std.proofs.Common.{◌≡◌, ◌≤◌, ◌<◌, ◌+◌, ◌-◌, ◌^◌, ◌++◌, ℕ, List, Option, length, sym, ap, ◌∙◌, arith}
use Rattle.std.specs.Option.{option_copied, option_map, unwrap_or}
use Rattle.vl_record.specs.Spelling.{change_bytes}
use Rattle.vl_record.specs.Collected.{Collected, change_of, with_entry}
use Rattle.vl_record.proofs.Collecting.{before_of, count_with, holds_with, put_in, size_of, size_with}
use Rattle.vl_record.proofs.rec.Rec.push.Goals as goal

pub overflow_sub-self : goal.overflow_sub-self
overflow_sub-self c =
    let old = c.self.inside.changes.entries in
    let sizes = size_with old c.in_ok-key.key c.from_vec.result c.insert.ensures.was_ordered in
    let had : c.len_of.result ≡ before_of old c.in_ok-key.key
    = c.len_of.ensures ∙ ap (λ (o : Option (List ℕ)). unwrap_or (option_map (λ (bytes : List ℕ). length bytes) o) 0) c.in-Ok.ensures.old in
    omega (arith, sizes, had, c.self.invariant.0, c.len.ensures, c.put_change.new.out.ok.0, ap (λ (t : List ℕ). length t) c.from_vec.ensures)

pub invariant_of-self-2 : goal.invariant_of-self-2
invariant_of-self-2 c =
    let old = c.self.inside.changes.entries in
    let sizes = size_with old c.in_ok-key.key c.from_vec.result c.insert.ensures.was_ordered in
    let had : c.len_of.result ≡ before_of old c.in_ok-key.key
    = c.len_of.ensures ∙ ap (λ (o : Option (List ℕ)). unwrap_or (option_map (λ (bytes : List ℕ). length bytes) o) 0) c.in-Ok.ensures.old in
    let new : size_of c.insert.new.self.entries ≡ size_of (with_entry old c.in_ok-key.key c.from_vec.result) = ap size_of c.in-Ok.ensures.entries in
    let count : length c.insert.new.self.entries ≡ length (with_entry old c.in_ok-key.key c.from_vec.result) = ap length c.in-Ok.ensures.entries in
    let more = count_with old c.in_ok-key.key c.from_vec.result in (
      omega (arith, sizes, had, new, c.self.invariant.0, c.len.ensures, c.put_change.new.out.ok.0, ap (λ (t : List ℕ). length t) c.from_vec.ensures),
      omega (arith, count, more),
      omega arith,
    )

pub returns-clause-holds : goal.returns-clause-holds
returns-clause-holds c entries holds =
    let old = c.self.inside.changes.entries in
    let bytes = change_bytes (change_of (c.args.key.now, option_copied c.args.row)) in
    let text = c.from_vec.ensures ∙ (c.in_ok-put_change.ensures.items ∙ ap (λ (t : List ℕ). t ++ bytes) c.in_ok-bytes.ensures.items) in
    holds_with entries old c.insert.new.self.entries c.args.key.now (option_copied c.args.row)
    (put_in old c.insert.new.self.entries c.in_ok-key.key c.args.key.now c.from_vec.result bytes c.in-Ok.ensures.entries c.in_ok-key.ensures text)
    (ap (λ (v : Collected). v.changes) c.self.view_is ∙ holds)
