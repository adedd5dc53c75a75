use Rattle.std.proofs.lemmas.Bool.Decides.{Decides-eqb}
use Rattle.std.proofs.lemmas.Slice.Eq.{strip_prefix_is}
use Rattle.vl_script.proofs.Cuts.{front_sides}
use Rattle.vl_script.proofs.words.without_front.Goals as goal

pub returns-clause-some : goal.returns-clause-some
returns-clause-some c =
    (front_sides c.args.text.now c.args.front.now c.strip_prefix.result (strip_prefix_is Decides-eqb c.args.text.now c.args.front.now c.strip_prefix.result c.strip_prefix.ensures.cases)).0

pub returns-clause-none : goal.returns-clause-none
returns-clause-none c =
    (front_sides c.args.text.now c.args.front.now c.strip_prefix.result (strip_prefix_is Decides-eqb c.args.text.now c.args.front.now c.strip_prefix.result c.strip_prefix.ensures.cases)).1
