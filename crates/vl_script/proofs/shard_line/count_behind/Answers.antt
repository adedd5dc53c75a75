use Rattle.std.specs.Fmt.{decimal}
use Rattle.vl_script.proofs.Cuts.{one_rest}
use Rattle.vl_script.proofs.Names.{none_along}
use Rattle.vl_script.proofs.shard_line.count_behind.Goals as goal

pub returns-clause-none : goal.returns-clause-none
returns-clause-none c =
    none_along c.count_of.result
    (λ h n count is. h n count (one_rest c.args.text.now c.args.keyword.now c.in-Some.digits.now (decimal n) c.in-Some.ensures.some is))
    c.count_of.ensures.none
