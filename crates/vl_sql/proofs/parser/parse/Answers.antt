use Rattle.std.proofs.Common.{List, ap, ◌∙◌, length, slice_index_or, ℕ, ◌-◌}
use Rattle.vl_token.specs.Lexical.{tokens_in}
use Rattle.vl_token.specs.View.{tokens_of}
use Rattle.vl_sql.proofs.Whole.{read_is, read_only, read_none, read_fault}
use Rattle.vl_sql.proofs.parser.parse.Goals as goal

pub returns-in-Ok-whole-clause-found : goal.returns-in-Ok-whole-clause-found
returns-in-Ok-whole-clause-found c = read_is (tokens_in c.args.text.now) (tokens_of c.as_slice.result.now) c.in-Ok-whole.stmt c.in-Ok-whole.ensures (ap (λ ts. tokens_of ts) c.as_slice.ensures.value ∙ c.in-Ok.ensures.tokens)

pub returns-in-Ok-whole-clause-only : goal.returns-in-Ok-whole-clause-only
returns-in-Ok-whole-clause-only c = read_only (tokens_in c.args.text.now) (tokens_of c.as_slice.result.now) c.in-Ok-whole.stmt c.in-Ok-whole.ensures (ap (λ ts. tokens_of ts) c.as_slice.ensures.value ∙ c.in-Ok.ensures.tokens)

pub returns-clause-only : goal.returns-clause-only
returns-clause-only c = read_none (tokens_in c.args.text.now) (tokens_of c.as_slice.result.now) c.in-Err-Fault.left (rw c.in-Err-Fault.field-0-is at c.in-Err-Fault.ensures) (ap (λ ts. tokens_of ts) c.as_slice.ensures.value ∙ c.in-Ok.ensures.tokens)

pub returns-clause-place : goal.returns-clause-place
returns-clause-place c = (
  c.in-Err-Fault.left,
  read_fault (tokens_in c.args.text.now) (tokens_of c.as_slice.result.now) c.in-Err-Fault.left (rw c.in-Err-Fault.field-0-is at c.in-Err-Fault.ensures) (ap (λ ts. tokens_of ts) c.as_slice.ensures.value ∙ c.in-Ok.ensures.tokens),
  c.place-at.ensures ∙ ap (λ (ls : List ℕ). length c.args.text.now - slice_index_or ls (length ls - c.in-Err-Fault.left) 0) (c.as_slice-in-Err-Fault.ensures.value ∙ c.in-Ok.ensures.left),
)
