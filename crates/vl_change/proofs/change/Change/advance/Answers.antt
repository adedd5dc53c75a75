use Rattle.std.proofs.Common.{sym, ◌∙◌, ap, refl, subst}
use Rattle.std.specs.Option.{option_copied}
use Rattle.vl_catalog.specs.declared.catalog.Catalog.{Catalog}
use Rattle.vl_port.specs.Placing.{IsActOn}
use Rattle.vl_change.specs.Answering.{refused}
use Rattle.vl_change.specs.Progress.{due}
use Rattle.vl_change.proofs.Asking.{asked_fits, did_at, done_within, found_never, full_now, no_room_at, read_within, unchanged_never}
use Rattle.vl_change.proofs.Dues.{due_at}
use Rattle.vl_change.proofs.change.Change.advance.Goals as goal

pub returns-then-is_full-clause-stepped : goal.returns-then-is_full-clause-stepped
returns-then-is_full-clause-stepped g c =
    full_now c.args.catalog.now c.args.self.now c.args.self.now c.args.tx.now c.args.tx.now (g.P.ShardPort.told c.args.port.now) (g.P.ShardPort.told c.args.port.now) c.refused.result c.in-Some.group c.in-Some.shard c.in-Some-due.act.now
    (due_at (due c.args.self.now) c.in-Some.group c.in-Some.shard c.in-Some-due.act.now (sym c.due_session.ensures ∙ c.in-Some.is) (sym c.due.ensures ∙ ap option_copied c.in-Some-due.is)) (sym c.is_full.ensures ∙ c.if-is_full.true) (c.refused.ensures ∙ ap (refused c.args.tx.now c.args.self.now) c.limit_of_changes.ensures) refl refl

pub ask-asked-requires-clause-shard : goal.ask-asked-requires-clause-shard
ask-asked-requires-clause-shard g c =
    (asked_fits c.args.catalog.now (g.P.ShardPort.count c.args.port.now) c.args.tx.now.limits.tries c.args.self.now c.in-Some.group c.in-Some.shard c.in-Some-due.act.now c.requires.made
    (due_at (due c.args.self.now) c.in-Some.group c.in-Some.shard c.in-Some-due.act.now (sym c.due_session.ensures ∙ c.in-Some.is) (sym c.due.ensures ∙ ap option_copied c.in-Some-due.is))).0

pub ask-asked-requires-clause-fits : goal.ask-asked-requires-clause-fits
ask-asked-requires-clause-fits g c =
    subst (λ (it : Catalog). IsActOn it c.in-Some.shard c.in-Some-due.act.now) (sym c.requires.agree)
    (asked_fits c.args.catalog.now (g.P.ShardPort.count c.args.port.now) c.args.tx.now.limits.tries c.args.self.now c.in-Some.group c.in-Some.shard c.in-Some-due.act.now c.requires.made
    (due_at (due c.args.self.now) c.in-Some.group c.in-Some.shard c.in-Some-due.act.now (sym c.due_session.ensures ∙ c.in-Some.is) (sym c.due.ensures ∙ ap option_copied c.in-Some-due.is))).1

pub answered-requires-clause-done : goal.answered-requires-clause-done
answered-requires-clause-done g c =
    done_within c.args.catalog.now (g.P.ShardPort.count c.args.port.now) c.args.tx.now.limits.tries c.args.self.now c.in-Some.group c.in-Some.shard c.in-Some-due.act.now c.args.tx.now c.ask-asked.new.tx c.in-Answered.answer (g.P.ShardPort.told c.args.port.now) (g.P.ShardPort.told c.ask-asked.new.port) c.requires.made
    (due_at (due c.args.self.now) c.in-Some.group c.in-Some.shard c.in-Some-due.act.now (sym c.due_session.ensures ∙ c.in-Some.is) (sym c.due.ensures ∙ ap option_copied c.in-Some-due.is)) c.in-Answered.ensures.asked

pub answered-requires-clause-changed : goal.answered-requires-clause-changed
answered-requires-clause-changed g c =
    unchanged_never c.args.catalog.now (g.P.ShardPort.count c.args.port.now) c.args.tx.now.limits.tries c.args.self.now c.in-Some.group c.in-Some.shard c.in-Some-due.act.now c.args.tx.now c.ask-asked.new.tx c.in-Answered.answer (g.P.ShardPort.told c.args.port.now) (g.P.ShardPort.told c.ask-asked.new.port) c.requires.made
    (due_at (due c.args.self.now) c.in-Some.group c.in-Some.shard c.in-Some-due.act.now (sym c.due_session.ensures ∙ c.in-Some.is) (sym c.due.ensures ∙ ap option_copied c.in-Some-due.is)) c.in-Answered.ensures.asked

pub returns-in-Answered-clause-stepped : goal.returns-in-Answered-clause-stepped
returns-in-Answered-clause-stepped g c =
    did_at c.args.catalog.now c.args.self.now c.answered.new.self c.args.tx.now c.ask-asked.new.tx (g.P.ShardPort.told c.args.port.now) (g.P.ShardPort.told c.ask-asked.new.port) c.answered.result c.in-Some.group c.in-Some.shard c.in-Some-due.act.now c.in-Answered.answer
    (due_at (due c.args.self.now) c.in-Some.group c.in-Some.shard c.in-Some-due.act.now (sym c.due_session.ensures ∙ c.in-Some.is) (sym c.due.ensures ∙ ap option_copied c.in-Some-due.is)) (sym c.is_full.ensures ∙ c.if-is_full.false) c.in-Answered.ensures.tx c.in-Answered.ensures.asked c.answered.ensures

pub returns-in-Unlisted-clause-stepped : goal.returns-in-Unlisted-clause-stepped
returns-in-Unlisted-clause-stepped g c =
    no_room_at c.args.catalog.now c.args.self.now c.args.self.now c.args.tx.now c.ask-asked.new.tx (g.P.ShardPort.told c.args.port.now) (g.P.ShardPort.told c.ask-asked.new.port) c.refused-in-Unlisted.result c.in-Some.group c.in-Some.shard c.in-Some-due.act.now
    (due_at (due c.args.self.now) c.in-Some.group c.in-Some.shard c.in-Some-due.act.now (sym c.due_session.ensures ∙ c.in-Some.is) (sym c.due.ensures ∙ ap option_copied c.in-Some-due.is)) (sym c.is_full.ensures ∙ c.if-is_full.false) c.in-Unlisted.ensures.asked c.refused-in-Unlisted.ensures

pub answered-requires-clause-read : goal.answered-requires-clause-read
answered-requires-clause-read g c = λ rows.
    read_within c.args.catalog.now (g.P.ShardPort.count c.args.port.now) c.args.tx.now.limits.tries c.args.self.now c.in-Some.group c.in-Some.shard c.in-Some-due.act.now c.args.tx.now c.ask-asked.new.tx c.in-Answered.answer (g.P.ShardPort.told c.args.port.now) (g.P.ShardPort.told c.ask-asked.new.port) rows c.requires.made
    (due_at (due c.args.self.now) c.in-Some.group c.in-Some.shard c.in-Some-due.act.now (sym c.due_session.ensures ∙ c.in-Some.is) (sym c.due.ensures ∙ ap option_copied c.in-Some-due.is)) c.in-Answered.ensures.asked

pub answered-requires-clause-found : goal.answered-requires-clause-found
answered-requires-clause-found g c = λ key row.
    found_never c.args.catalog.now (g.P.ShardPort.count c.args.port.now) c.args.tx.now.limits.tries c.args.self.now c.in-Some.group c.in-Some.shard c.in-Some-due.act.now c.args.tx.now c.ask-asked.new.tx c.in-Answered.answer (g.P.ShardPort.told c.args.port.now) (g.P.ShardPort.told c.ask-asked.new.port) key row c.requires.made
    (due_at (due c.args.self.now) c.in-Some.group c.in-Some.shard c.in-Some-due.act.now (sym c.due_session.ensures ∙ c.in-Some.is) (sym c.due.ensures ∙ ap option_copied c.in-Some-due.is)) c.in-Answered.ensures.asked
