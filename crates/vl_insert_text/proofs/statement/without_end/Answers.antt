use Rattle.std.proofs.lemmas.Bool.Decides.{Decides-eqb}
use Rattle.std.proofs.lemmas.Slice.Eq.{strip_suffix_is}
use Rattle.vl_insert_text.proofs.Cases.{end_sides}
use Rattle.vl_insert_text.proofs.statement.without_end.Goals as goal

pub returns-clause-some : goal.returns-clause-some
returns-clause-some c =
    (end_sides c.args.text.now c.args.end.now c.strip_suffix.result (strip_suffix_is Decides-eqb c.args.text.now c.args.end.now c.strip_suffix.result c.strip_suffix.ensures.cases)).0

pub returns-clause-none : goal.returns-clause-none
returns-clause-none c =
    (end_sides c.args.text.now c.args.end.now c.strip_suffix.result (strip_suffix_is Decides-eqb c.args.text.now c.args.end.now c.strip_suffix.result c.strip_suffix.ensures.cases)).1
