use Rattle.std.proofs.Common.{◌≡◌, ◌∙◌, ℕ, List, ap, sym, subst, true}
use Rattle.my_reply.specs.Decoding.{may_be_set, reply_at}
use Rattle.my_reply.proofs.ReadBack.{memory_read, read_back, same_wire, not_read}
use Rattle.my_reply.proofs.decoding.decode.Goals as goal

pub returns-in-Ok-read-clause-reads : goal.returns-in-Ok-read-clause-reads
returns-in-Ok-read-clause-reads c = λ reply caps seq fits e.
    same_wire _ _ (sym (rw c.in-Ok-read.is at c.in-Ok.ensures.told) ∙ ap reply_at e ∙ read_back reply caps seq fits)

pub returns-in-Err-read-clause-reads : goal.returns-in-Err-read-clause-reads
returns-in-Err-read-clause-reads c = λ reply caps seq fits e.
    not_read _ _ (sym (rw c.in-Err-read.is at c.in-Ok.ensures.told) ∙ ap reply_at e ∙ read_back reply caps seq fits)

pub returns-in-Err-clause-reads : goal.returns-in-Err-clause-reads
returns-in-Err-clause-reads c = λ reply caps seq fits e. memory_read reply caps seq (subst (λ (bytes : List ℕ). may_be_set bytes ≡ true) e (rw c.in-Err.is at c.reply_of.ensures.memory))
