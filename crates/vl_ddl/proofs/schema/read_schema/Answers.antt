use Rattle.std.proofs.Common.{◌≡◌, ℕ, ◌-◌, true, false, List, map, length, slice_index_or, sym, ap, ◌∙◌}
use Rattle.vl_token.specs.View.{tokens_of}
use Rattle.vl_ddl.specs.Told.{told}
use Rattle.vl_ddl.specs.Fault.{words_in}
use Rattle.vl_ddl.specs.Meaning.{defined}
use Rattle.vl_ddl.specs.Reading.{is_further}
use Rattle.vl_ddl.proofs.Whole.{same_reading, read_found, read_one, read_none, read_fault, read_further, read_no_further, defined_all}
use Rattle.vl_ddl.proofs.schema.read_schema.Goals as goal

pub returns-in-Ok-tables_of-clause-found : goal.returns-in-Ok-tables_of-clause-found
returns-in-Ok-tables_of-clause-found c =
    let words : tokens_of c.as_slice-2.result.now ≡ words_in c.args.text.now = ap (λ ts. tokens_of ts) c.as_slice-2.ensures.value ∙ c.in-Ok-told.ensures ∙ ap told (ap (λ ts. tokens_of ts) c.as_slice.ensures.value ∙ c.in-Ok.ensures.tokens) in
    let r = read_found (words_in c.args.text.now) c.in-Ok-statements.statements.items (sym (same_reading false c.as_slice-2.result.now (words_in c.args.text.now) words) ∙ c.in-Ok-statements.ensures) in
    (r.0, r.1, c.from_vec.ensures ∙ defined_all r.0 c.in-Ok-statements.statements.items c.in-Ok-tables_of.tables.items (c.in-Ok-tables_of.ensures ∙ ap (map defined) c.as_slice-in-Ok-statements.ensures.value) r.2)

pub returns-in-Ok-tables_of-clause-only : goal.returns-in-Ok-tables_of-clause-only
returns-in-Ok-tables_of-clause-only c ss is =
    let words : tokens_of c.as_slice-2.result.now ≡ words_in c.args.text.now = ap (λ ts. tokens_of ts) c.as_slice-2.ensures.value ∙ c.in-Ok-told.ensures ∙ ap told (ap (λ ts. tokens_of ts) c.as_slice.ensures.value ∙ c.in-Ok.ensures.tokens) in
    let r = read_one (words_in c.args.text.now) ss c.in-Ok-statements.statements.items (sym (same_reading false c.as_slice-2.result.now (words_in c.args.text.now) words) ∙ c.in-Ok-statements.ensures) is in
    c.from_vec.ensures ∙ defined_all ss c.in-Ok-statements.statements.items c.in-Ok-tables_of.tables.items (c.in-Ok-tables_of.ensures ∙ ap (map defined) c.as_slice-in-Ok-statements.ensures.value) r

pub returns-in-Ok-true-clause-only : goal.returns-in-Ok-true-clause-only
returns-in-Ok-true-clause-only c ss is =
    let words : tokens_of c.as_slice-2.result.now ≡ words_in c.args.text.now = ap (λ ts. tokens_of ts) c.as_slice-2.ensures.value ∙ c.in-Ok-told.ensures ∙ ap told (ap (λ ts. tokens_of ts) c.as_slice.ensures.value ∙ c.in-Ok.ensures.tokens) in
    read_none (words_in c.args.text.now) c.in-Err-Fault.left ss (sym (same_reading false c.as_slice-2.result.now (words_in c.args.text.now) words) ∙ rw c.in-Err-Fault.field-0-is at c.in-Err-Fault.ensures) is

pub returns-in-Ok-false-clause-only : goal.returns-in-Ok-false-clause-only
returns-in-Ok-false-clause-only c ss is =
    let words : tokens_of c.as_slice-2.result.now ≡ words_in c.args.text.now = ap (λ ts. tokens_of ts) c.as_slice-2.ensures.value ∙ c.in-Ok-told.ensures ∙ ap told (ap (λ ts. tokens_of ts) c.as_slice.ensures.value ∙ c.in-Ok.ensures.tokens) in
    read_none (words_in c.args.text.now) c.in-Err-Fault.left ss (sym (same_reading false c.as_slice-2.result.now (words_in c.args.text.now) words) ∙ rw c.in-Err-Fault.field-0-is at c.in-Err-Fault.ensures) is

pub returns-in-Ok-true-clause-place : goal.returns-in-Ok-true-clause-place
returns-in-Ok-true-clause-place c =
    let words : tokens_of c.as_slice-2.result.now ≡ words_in c.args.text.now = ap (λ ts. tokens_of ts) c.as_slice-2.ensures.value ∙ c.in-Ok-told.ensures ∙ ap told (ap (λ ts. tokens_of ts) c.as_slice.ensures.value ∙ c.in-Ok.ensures.tokens) in
    let again : tokens_of c.as_slice-in-Err-Fault-2.result.now ≡ words_in c.args.text.now = ap (λ ts. tokens_of ts) (c.as_slice-in-Err-Fault-2.ensures.value ∙ sym c.as_slice-2.ensures.value) ∙ words in
    let f = read_fault (words_in c.args.text.now) c.in-Err-Fault.left (sym (same_reading false c.as_slice-2.result.now (words_in c.args.text.now) words) ∙ rw c.in-Err-Fault.field-0-is at c.in-Err-Fault.ensures) in (
      c.in-Err-Fault.left,
      f,
      read_further (words_in c.args.text.now) c.in-Err-Fault.left f (sym c.in-Ok-true.field-0-test ∙ c.in-Ok-true.ensures ∙ ap (is_further c.in-Err-Fault.left) (same_reading true c.as_slice-in-Err-Fault-2.result.now (words_in c.args.text.now) again)),
      c.place-at.ensures ∙ ap (λ (ls : List ℕ). length c.args.text.now - slice_index_or ls (length ls - c.in-Err-Fault.left) 0) (c.as_slice-in-Err-Fault.ensures.value ∙ c.in-Ok.ensures.left),
    )

pub returns-in-Ok-false-clause-place : goal.returns-in-Ok-false-clause-place
returns-in-Ok-false-clause-place c =
    let words : tokens_of c.as_slice-2.result.now ≡ words_in c.args.text.now = ap (λ ts. tokens_of ts) c.as_slice-2.ensures.value ∙ c.in-Ok-told.ensures ∙ ap told (ap (λ ts. tokens_of ts) c.as_slice.ensures.value ∙ c.in-Ok.ensures.tokens) in
    let again : tokens_of c.as_slice-in-Err-Fault-2.result.now ≡ words_in c.args.text.now = ap (λ ts. tokens_of ts) (c.as_slice-in-Err-Fault-2.ensures.value ∙ sym c.as_slice-2.ensures.value) ∙ words in
    let f = read_fault (words_in c.args.text.now) c.in-Err-Fault.left (sym (same_reading false c.as_slice-2.result.now (words_in c.args.text.now) words) ∙ rw c.in-Err-Fault.field-0-is at c.in-Err-Fault.ensures) in (
      c.in-Err-Fault.left,
      f,
      read_no_further (words_in c.args.text.now) c.in-Err-Fault.left f (sym c.in-Ok-false.field-0-test ∙ c.in-Ok-false.ensures ∙ ap (is_further c.in-Err-Fault.left) (same_reading true c.as_slice-in-Err-Fault-2.result.now (words_in c.args.text.now) again)),
      c.place-at.ensures ∙ ap (λ (ls : List ℕ). length c.args.text.now - slice_index_or ls (length ls - c.in-Err-Fault.left) 0) (c.as_slice-in-Err-Fault.ensures.value ∙ c.in-Ok.ensures.left),
    )
