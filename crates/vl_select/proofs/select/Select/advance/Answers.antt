use Rattle.std.proofs.Common.{List, ℕ, ◌↔◌, ap, sym, subst, ◌∙◌}
use Rattle.std.specs.Prelude.{Contains, IsTrue}
use Rattle.std.specs.Option.{option_copied}
use Rattle.vl_catalog.specs.declared.catalog.Catalog.{Catalog}
use Rattle.vl_port.specs.Asking.{reader_in}
use Rattle.vl_port.specs.Placing.{IsActOn}
use Rattle.vl_port.specs.Transaction.{session_of}
use Rattle.vl_select.specs.Progress.{due}
use Rattle.vl_select.proofs.Asked.{locked_at, looked_at, no_room_at}
use Rattle.vl_select.proofs.Dues.{at_left, at_reads, due_at}
use Rattle.vl_select.proofs.Unmoved.{read_answer}
use Rattle.vl_select.proofs.select.Select.advance.Goals as goal

pub ask-asked-requires-clause-shard : goal.ask-asked-requires-clause-shard
ask-asked-requires-clause-shard g c =
    (at_reads c.args.catalog.now (g.P.ShardPort.count c.args.port.now) c.args.tx.now.limits.tries c.args.self.now c.in-Some.group c.in-Some.shard c.in-Some-due.act.now c.requires.made
    (due_at (due c.args.self.now) c.in-Some.group c.in-Some.shard c.in-Some-due.act.now (sym c.due_session.ensures ∙ c.in-Some.is) (sym c.due.ensures ∙ ap option_copied c.in-Some-due.is))).within

pub ask-asked-requires-clause-fits : goal.ask-asked-requires-clause-fits
ask-asked-requires-clause-fits g c =
    subst (λ (it : Catalog). IsActOn it c.in-Some.shard c.in-Some-due.act.now) (sym c.requires.agree)
    (at_reads c.args.catalog.now (g.P.ShardPort.count c.args.port.now) c.args.tx.now.limits.tries c.args.self.now c.in-Some.group c.in-Some.shard c.in-Some-due.act.now c.requires.made
    (due_at (due c.args.self.now) c.in-Some.group c.in-Some.shard c.in-Some-due.act.now (sym c.due_session.ensures ∙ c.in-Some.is) (sym c.due.ensures ∙ ap option_copied c.in-Some-due.is))).fits

pub look-answer-requires-clause-shard : goal.look-answer-requires-clause-shard
look-answer-requires-clause-shard g c =
    (at_reads c.args.catalog.now (g.P.ShardPort.count c.args.port.now) c.args.tx.now.limits.tries c.args.self.now c.in-Some.group c.in-Some.shard c.in-Some-due.act.now c.requires.made
    (due_at (due c.args.self.now) c.in-Some.group c.in-Some.shard c.in-Some-due.act.now (sym c.due_session.ensures ∙ c.in-Some.is) (sym c.due.ensures ∙ ap option_copied c.in-Some-due.is))).within

pub look-answer-requires-clause-fits : goal.look-answer-requires-clause-fits
look-answer-requires-clause-fits g c =
    subst (λ (it : Catalog). IsActOn it c.in-Some.shard c.in-Some-due.act.now) (sym c.requires.agree)
    (at_reads c.args.catalog.now (g.P.ShardPort.count c.args.port.now) c.args.tx.now.limits.tries c.args.self.now c.in-Some.group c.in-Some.shard c.in-Some-due.act.now c.requires.made
    (due_at (due c.args.self.now) c.in-Some.group c.in-Some.shard c.in-Some-due.act.now (sym c.due_session.ensures ∙ c.in-Some.is) (sym c.due.ensures ∙ ap option_copied c.in-Some-due.is))).fits

pub answered-requires-clause-read : goal.answered-requires-clause-read
answered-requires-clause-read g c = at_left c.args.self.now c.in-Some.group c.in-Some.shard c.in-Some-due.act.now
    (due_at (due c.args.self.now) c.in-Some.group c.in-Some.shard c.in-Some-due.act.now (sym c.due_session.ensures ∙ c.in-Some.is) (sym c.due.ensures ∙ ap option_copied c.in-Some-due.is))

pub answered-requires-clause-answer : goal.answered-requires-clause-answer
answered-requires-clause-answer g c =
    let reads = (at_reads c.args.catalog.now (g.P.ShardPort.count c.args.port.now) c.args.tx.now.limits.tries c.args.self.now c.in-Some.group c.in-Some.shard c.in-Some-due.act.now c.requires.made
    (due_at (due c.args.self.now) c.in-Some.group c.in-Some.shard c.in-Some-due.act.now (sym c.due_session.ensures ∙ c.in-Some.is) (sym c.due.ensures ∙ ap option_copied c.in-Some-due.is))) in
    read_answer (g.P.ShardPort.told c.args.port.now) (g.P.ShardPort.told c.ask-asked.new.port) (session_of c.args.tx.now c.in-Some.group) c.in-Some.shard c.in-Some-due.act.now reads.pred reads.locking c.in-Answered.answer reads.find c.in-Answered.ensures.asked.acts

pub answered-requires-2-clause-read : goal.answered-requires-2-clause-read
answered-requires-2-clause-read g c = at_left c.args.self.now c.in-Some.group c.in-Some.shard c.in-Some-due.act.now
    (due_at (due c.args.self.now) c.in-Some.group c.in-Some.shard c.in-Some-due.act.now (sym c.due_session.ensures ∙ c.in-Some.is) (sym c.due.ensures ∙ ap option_copied c.in-Some-due.is))

pub answered-requires-2-clause-answer : goal.answered-requires-2-clause-answer
answered-requires-2-clause-answer g c =
    let reads = (at_reads c.args.catalog.now (g.P.ShardPort.count c.args.port.now) c.args.tx.now.limits.tries c.args.self.now c.in-Some.group c.in-Some.shard c.in-Some-due.act.now c.requires.made
    (due_at (due c.args.self.now) c.in-Some.group c.in-Some.shard c.in-Some-due.act.now (sym c.due_session.ensures ∙ c.in-Some.is) (sym c.due.ensures ∙ ap option_copied c.in-Some-due.is))) in
    read_answer (g.P.ShardPort.told c.args.port.now) (g.P.ShardPort.told c.look-answer.new.port) (reader_in c.args.tx.now c.in-Some.group c.look-answer.ensures.acts.0) c.in-Some.shard c.in-Some-due.act.now reads.pred reads.locking c.look-answer.result reads.find c.look-answer.ensures.acts.2

pub returns-in-Answered-clause-stepped : goal.returns-in-Answered-clause-stepped
returns-in-Answered-clause-stepped g c =
    locked_at c.args.catalog.now c.args.self.now c.answered.new.self c.args.tx.now c.ask-asked.new.tx (g.P.ShardPort.told c.args.port.now) (g.P.ShardPort.told c.ask-asked.new.port) c.answered.result c.in-Some.group c.in-Some.shard c.in-Some-due.act.now
    (due_at (due c.args.self.now) c.in-Some.group c.in-Some.shard c.in-Some-due.act.now (sym c.due_session.ensures ∙ c.in-Some.is) (sym c.due.ensures ∙ ap option_copied c.in-Some-due.is)) c.in-Answered.answer (sym c.takes_keys.ensures ∙ c.if-takes_keys.true) c.in-Answered.ensures.tx c.in-Answered.ensures.asked c.answered.ensures

pub returns-in-Unlisted-clause-stepped : goal.returns-in-Unlisted-clause-stepped
returns-in-Unlisted-clause-stepped g c =
    no_room_at c.args.catalog.now c.args.self.now c.args.self.now c.args.tx.now c.ask-asked.new.tx (g.P.ShardPort.told c.args.port.now) (g.P.ShardPort.told c.ask-asked.new.port) c.refused.result c.in-Some.group c.in-Some.shard c.in-Some-due.act.now
    (due_at (due c.args.self.now) c.in-Some.group c.in-Some.shard c.in-Some-due.act.now (sym c.due_session.ensures ∙ c.in-Some.is) (sym c.due.ensures ∙ ap option_copied c.in-Some-due.is)) (sym c.takes_keys.ensures ∙ c.if-takes_keys.true) c.in-Unlisted.ensures.asked c.refused.ensures

pub returns-clause-stepped : goal.returns-clause-stepped
returns-clause-stepped g c =
    looked_at c.args.catalog.now c.args.self.now c.answered-2.new.self c.args.tx.now (g.P.ShardPort.told c.args.port.now) (g.P.ShardPort.told c.look-answer.new.port) c.answered-2.result c.in-Some.group c.in-Some.shard c.in-Some-due.act.now
    (due_at (due c.args.self.now) c.in-Some.group c.in-Some.shard c.in-Some-due.act.now (sym c.due_session.ensures ∙ c.in-Some.is) (sym c.due.ensures ∙ ap option_copied c.in-Some-due.is)) c.contains-session.result c.look-answer.result (sym c.takes_keys.ensures ∙ c.if-takes_keys.false) (subst (λ (xs : List ℕ). IsTrue c.contains-session.result ↔ Contains xs c.in-Some.shard) c.listed.ensures c.contains-session.ensures) c.look-answer.ensures.acts c.answered-2.ensures
