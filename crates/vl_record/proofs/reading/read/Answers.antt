use Rattle.std.proofs.Common.{subst, arith}
use Rattle.vl_record.specs.Readers.{Gives, held_view}
use Rattle.vl_record.proofs.ReadFile.{file_again}
use Rattle.vl_record.proofs.TakenFile.{is_held}
use Rattle.vl_record.proofs.reading.read.Goals as goal

pub returns-clause-format : goal.returns-clause-format
returns-clause-format c = λ is. is_held c.args.catalog.now c.args.shard c.args.file.now c.whole.result (λ i. omega (arith, c.type_inv.file i)) is c.whole.ensures

pub returns-clause-written : goal.returns-clause-written
returns-clause-written c = λ content is ends. subst (λ read. Gives held_view c.whole.result read) (file_again c.args.catalog.now c.args.shard content c.args.file.now is ends) c.whole.ensures
