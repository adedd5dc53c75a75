use Rattle.vl_token.specs.Lexical.{tokens_in}
use Rattle.vl_sql.proofs.Whole as whole
use Rattle.vl_sql.proofs.law.one_statement.Goals as goal

pub returns : goal.returns
returns c text s q a b = whole.one_statement 0 s q (tokens_in text) a b
