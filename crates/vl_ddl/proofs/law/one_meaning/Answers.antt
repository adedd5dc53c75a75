use Rattle.vl_ddl.specs.Fault.{words_in}
use Rattle.vl_ddl.proofs.Whole as whole
use Rattle.vl_ddl.proofs.law.one_meaning.Goals as goal

pub returns : goal.returns
returns c text ss qs a b = whole.one_meaning (words_in text) ss qs a b
