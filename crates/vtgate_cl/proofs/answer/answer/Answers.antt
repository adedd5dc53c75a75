use Rattle.std.proofs.Common.{refl, subst, []}
use Rattle.vl_base.proofs.Known.{appends_none}
use Rattle.vtgate_cl.specs.Line.{IsLine}
use Rattle.vtgate_cl.specs.Playing.Halts.{AtFault}
use Rattle.vtgate_cl.specs.Script.Answers.{Passed}
use Rattle.vtgate_cl.specs.Script.IsFault.{TooLong, TooMany}
use Rattle.vtgate_cl.proofs.Answering.{lacks_memory, line_found, none_found, said_whole, said_part, outside}
use Rattle.vtgate_cl.proofs.Grammar.{asks_taken}
use Rattle.vtgate_cl.proofs.answer.answer.Goals as goal

pub returns-then-count-ge-COUNT_LIMIT-clause-err : goal.returns-then-count-ge-COUNT_LIMIT-clause-err
returns-then-count-ge-COUNT_LIMIT-clause-err g c =
    AtFault c.refuse.result (TooMany c.if-count-ge-COUNT_LIMIT.true) c.refuse.ensures.told

pub returns-then-text-gt-LINE_LIMIT-clause-err : goal.returns-then-text-gt-LINE_LIMIT-clause-err
returns-then-text-gt-LINE_LIMIT-clause-err g c =
    AtFault c.refuse-then-text-gt-LINE_LIMIT.result (TooLong c.if-text-gt-LINE_LIMIT.true) c.refuse-then-text-gt-LINE_LIMIT.ensures.told

pub returns-in_default-clause-err : goal.returns-in_default-clause-err
returns-in_default-clause-err g c = lacks_memory _ _ _ _

pub returns-in_default-found-clause-err : goal.returns-in_default-found-clause-err
returns-in_default-found-clause-err g c =
    AtFault c.refuse-in_default-found.result (outside c.args.count c.args.text.now (none_found c.args.text.now c.in-Ok.found c.in-Ok.ensures.none c.in_default-found.is)) c.refuse-in_default-found.ensures.told

pub returns-in-Skipped-clause-ok : goal.returns-in-Skipped-clause-ok
returns-in-Skipped-clause-ok g c = ([], Passed (subst (IsLine c.args.text.now) c.in-Skipped.is (line_found c.args.text.now c.in-Ok.found c.in-Some.line c.in-Ok.ensures.some c.in-Some.is)) refl, appends_none _)

pub returns-in-Run-clause-ok : goal.returns-in-Run-clause-ok
returns-in-Run-clause-ok g c =
    said_whole c.say.result c.args.client.now.rows c.say.new.client.rows c.args.text.now c.in-Run.stmt _ _ (subst (IsLine c.args.text.now) c.in-Run.is (line_found c.args.text.now c.in-Ok.found c.in-Some.line c.in-Ok.ensures.some c.in-Some.is)) c.say.ensures.ok

pub returns-in-Run-clause-err : goal.returns-in-Run-clause-err
returns-in-Run-clause-err g c =
    said_part c.say.result c.args.count c.args.client.now.rows c.args.text.now c.in-Run.stmt _ _ c.if-count-ge-COUNT_LIMIT.false c.if-text-gt-LINE_LIMIT.false (subst (IsLine c.args.text.now) c.in-Run.is (line_found c.args.text.now c.in-Ok.found c.in-Some.line c.in-Ok.ensures.some c.in-Some.is)) c.say.ensures.err

pub say-requires-clause-taken : goal.say-requires-clause-taken
say-requires-clause-taken g c = asks_taken c.args.text.now c.in-Run.stmt (subst (IsLine c.args.text.now) c.in-Run.is (line_found c.args.text.now c.in-Ok.found c.in-Some.line c.in-Ok.ensures.some c.in-Some.is))
