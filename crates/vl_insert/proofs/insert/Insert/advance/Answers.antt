use Rattle.std.proofs.Common.{◌≡◌, refl, sym, ap, subst, ◌∙◌}
use Rattle.vl_catalog.specs.declared.catalog.Catalog.{Catalog}
use Rattle.vl_port.specs.Placing.{IsActOn}
use Rattle.vl_insert.specs.declared.task.Task.TheVariants as tasks
use Rattle.vl_insert.specs.Answering.{ClaimMeans, RowAnswered, refused_now}
use Rattle.vl_insert.specs.Progress.{Progress}
use Rattle.vl_values.specs.declared.cause.Cause.TheVariants.{OutOfMemory}
use Rattle.vl_insert.specs.Stepping.{Full}
use Rattle.vl_insert.proofs.Advancing.{at_claimed, at_row, task_was, claim_did, claim_makes, claim_ready, row_answer, row_did, row_fits, row_makes, row_unlisted}
use Rattle.vl_insert.proofs.Nearer.{claim_nearer, row_nearer}
use Rattle.vl_insert.proofs.insert.Insert.advance.Goals as goal

pub step-told-requires-clause-claim : goal.step-told-requires-clause-claim
step-told-requires-clause-claim g c = claim_ready c.args.catalog.now (g.P.ShardPort.count c.args.port.now) c.args.tx.now.limits.tries c.args.self.now c.in-Some-Claim.claim c.requires.made (task_was c.self.inside.task c.args.self.now.task c.in-Some-Claim.field-0 (tasks.Claim c.in-Some-Claim.claim) (ap (λ (p : Progress). p.task) c.self.view_is) c.in-Some-Claim.is c.in-Some-Claim.field-0-is)

pub returns-in-Some-Claim-clause-stepped : goal.returns-in-Some-Claim-clause-stepped
returns-in-Some-Claim-clause-stepped g c =
    claim_did c.args.catalog.now c.args.self.now c.claimed.new.self c.in-Some-Claim.claim c.step-told.new.self c.session-group.result.0 c.session-group.result.1 c.step-told.result c.args.tx.now c.step-told.new.tx (g.P.ShardPort.told c.args.port.now)
    (g.P.ShardPort.told c.step-told.new.port) c.claimed.result (task_was c.self.inside.task c.args.self.now.task c.in-Some-Claim.field-0 (tasks.Claim c.in-Some-Claim.claim) (ap (λ (p : Progress). p.task) c.self.view_is) c.in-Some-Claim.is c.in-Some-Claim.field-0-is) c.session-group.ensures c.step-told.ensures.same c.step-told.ensures.stepped (at_claimed (λ (p : Progress). ClaimMeans c.args.catalog.now c.step-told.new.tx p c.session-group.result.0 c.step-told.new.self c.step-told.result c.claimed.result c.claimed.new.self) (record { task = c.self.inside.task; later = c.self.inside.later; rows = c.self.inside.rows; wrote = c.self.inside.wrote; tries = c.self.inside.tries }) c.args.self.now c.step-told.new.self c.self.view_is (c.claimed.ensures c.step-told.new.self refl))

pub returns-in-Some-Claim-clause-bound : goal.returns-in-Some-Claim-clause-bound
returns-in-Some-Claim-clause-bound g c =
    claim_nearer c.args.catalog.now c.step-told.new.tx c.args.self.now c.claimed.new.self c.session-group.result.0 c.in-Some-Claim.claim c.step-told.new.self c.step-told.result c.claimed.result (task_was c.self.inside.task c.args.self.now.task c.in-Some-Claim.field-0 (tasks.Claim c.in-Some-Claim.claim) (ap (λ (p : Progress). p.task) c.self.view_is) c.in-Some-Claim.is c.in-Some-Claim.field-0-is) c.step-told.ensures.bound
    (at_claimed (λ (p : Progress). ClaimMeans c.args.catalog.now c.step-told.new.tx p c.session-group.result.0 c.step-told.new.self c.step-told.result c.claimed.result c.claimed.new.self) (record { task = c.self.inside.task; later = c.self.inside.later; rows = c.self.inside.rows; wrote = c.self.inside.wrote; tries = c.self.inside.tries }) c.args.self.now c.step-told.new.self c.self.view_is (c.claimed.ensures c.step-told.new.self refl))

pub returns-in-Some-Claim-clause-made : goal.returns-in-Some-Claim-clause-made
returns-in-Some-Claim-clause-made g c =
    claim_makes c.args.catalog.now (g.P.ShardPort.count c.args.port.now) (g.P.ShardPort.count c.step-told.new.port) c.args.self.now c.claimed.new.self c.step-told.new.self c.session-group.result.0 c.step-told.result c.args.tx.now c.step-told.new.tx c.claimed.result
    c.requires.made c.step-told.ensures.port.counts c.step-told.ensures.same c.step-told.ensures.claim (at_claimed (λ (p : Progress). ClaimMeans c.args.catalog.now c.step-told.new.tx p c.session-group.result.0 c.step-told.new.self c.step-told.result c.claimed.result c.claimed.new.self) (record { task = c.self.inside.task; later = c.self.inside.later; rows = c.self.inside.rows; wrote = c.self.inside.wrote; tries = c.self.inside.tries }) c.args.self.now c.step-told.new.self c.self.view_is (c.claimed.ensures c.step-told.new.self refl))

pub returns-then-is_full-clause-stepped : goal.returns-then-is_full-clause-stepped
returns-then-is_full-clause-stepped g c = Full c.in-Some-Row.insertion (task_was c.self.inside.task c.args.self.now.task c.in-Some-Row.field-0 (tasks.Row c.in-Some-Row.insertion) (ap (λ (p : Progress). p.task) c.self.view_is) c.in-Some-Row.is c.in-Some-Row.field-0-is) (sym c.is_full.ensures ∙ c.if-is_full.true) ((at_row (λ (p : Progress). c.refused.result ≡ refused_now c.args.tx.now p c.limit_of_changes.result) (record { task = c.self.inside.task; later = c.self.inside.later; rows = c.self.inside.rows; wrote = c.self.inside.wrote; tries = c.self.inside.tries }) c.args.self.now c.in-Some-Row.insertion c.self.view_is (task_was c.self.inside.task c.args.self.now.task c.in-Some-Row.field-0 (tasks.Row c.in-Some-Row.insertion) (ap (λ (p : Progress). p.task) c.self.view_is) c.in-Some-Row.is c.in-Some-Row.field-0-is) c.refused.ensures) ∙ ap (refused_now c.args.tx.now c.args.self.now) c.limit_of_changes.ensures) refl refl

pub ask-asked-requires-clause-shard : goal.ask-asked-requires-clause-shard
ask-asked-requires-clause-shard g c = (row_fits c.args.catalog.now (g.P.ShardPort.count c.args.port.now) c.args.tx.now.limits.tries c.args.self.now c.in-Some-Row.insertion c.requires.made (task_was c.self.inside.task c.args.self.now.task c.in-Some-Row.field-0 (tasks.Row c.in-Some-Row.insertion) (ap (λ (p : Progress). p.task) c.self.view_is) c.in-Some-Row.is c.in-Some-Row.field-0-is)).0

pub ask-asked-requires-clause-fits : goal.ask-asked-requires-clause-fits
ask-asked-requires-clause-fits g c =
    subst (λ (it : Catalog). IsActOn it c.in-Some-Row.insertion.shard c.in-Some-Row.insertion.act) (sym c.requires.agree)
    (row_fits c.args.catalog.now (g.P.ShardPort.count c.args.port.now) c.args.tx.now.limits.tries c.args.self.now c.in-Some-Row.insertion c.requires.made (task_was c.self.inside.task c.args.self.now.task c.in-Some-Row.field-0 (tasks.Row c.in-Some-Row.insertion) (ap (λ (p : Progress). p.task) c.self.view_is) c.in-Some-Row.is c.in-Some-Row.field-0-is)).1

pub inserted-requires-clause-answer : goal.inserted-requires-clause-answer
inserted-requires-clause-answer g c =
    row_answer c.args.catalog.now (g.P.ShardPort.count c.args.port.now) c.args.tx.now.limits.tries c.args.self.now c.in-Some-Row.insertion c.args.tx.now c.ask-asked.new.tx (g.P.ShardPort.told c.args.port.now) (g.P.ShardPort.told c.ask-asked.new.port)
    c.in-Answered.answer c.requires.made (task_was c.self.inside.task c.args.self.now.task c.in-Some-Row.field-0 (tasks.Row c.in-Some-Row.insertion) (ap (λ (p : Progress). p.task) c.self.view_is) c.in-Some-Row.is c.in-Some-Row.field-0-is) c.in-Answered.ensures.asked

pub returns-in-Answered-clause-stepped : goal.returns-in-Answered-clause-stepped
returns-in-Answered-clause-stepped g c =
    row_did c.args.catalog.now c.args.self.now c.inserted.new.self c.in-Some-Row.insertion c.in-Answered.answer c.args.tx.now c.ask-asked.new.tx (g.P.ShardPort.told c.args.port.now) (g.P.ShardPort.told c.ask-asked.new.port) c.inserted.result
    (task_was c.self.inside.task c.args.self.now.task c.in-Some-Row.field-0 (tasks.Row c.in-Some-Row.insertion) (ap (λ (p : Progress). p.task) c.self.view_is) c.in-Some-Row.is c.in-Some-Row.field-0-is) (sym c.is_full.ensures ∙ c.if-is_full.false) c.in-Answered.ensures.tx c.in-Answered.ensures.asked (at_row (λ (p : Progress). RowAnswered c.args.catalog.now c.ask-asked.new.tx p c.in-Some-Row.insertion.shard c.in-Answered.answer c.inserted.result c.inserted.new.self) (record { task = c.self.inside.task; later = c.self.inside.later; rows = c.self.inside.rows; wrote = c.self.inside.wrote; tries = c.self.inside.tries }) c.args.self.now c.in-Some-Row.insertion c.self.view_is (task_was c.self.inside.task c.args.self.now.task c.in-Some-Row.field-0 (tasks.Row c.in-Some-Row.insertion) (ap (λ (p : Progress). p.task) c.self.view_is) c.in-Some-Row.is c.in-Some-Row.field-0-is) c.inserted.ensures)

pub returns-in-Answered-clause-made : goal.returns-in-Answered-clause-made
returns-in-Answered-clause-made g c =
    row_makes c.args.catalog.now (g.P.ShardPort.count c.args.port.now) (g.P.ShardPort.count c.ask-asked.new.port) c.args.self.now c.inserted.new.self c.in-Some-Row.insertion.shard c.in-Answered.answer c.args.tx.now c.ask-asked.new.tx c.inserted.result
    c.requires.made c.in-Answered.ensures.port.counts c.in-Answered.ensures.tx (at_row (λ (p : Progress). RowAnswered c.args.catalog.now c.ask-asked.new.tx p c.in-Some-Row.insertion.shard c.in-Answered.answer c.inserted.result c.inserted.new.self) (record { task = c.self.inside.task; later = c.self.inside.later; rows = c.self.inside.rows; wrote = c.self.inside.wrote; tries = c.self.inside.tries }) c.args.self.now c.in-Some-Row.insertion c.self.view_is (task_was c.self.inside.task c.args.self.now.task c.in-Some-Row.field-0 (tasks.Row c.in-Some-Row.insertion) (ap (λ (p : Progress). p.task) c.self.view_is) c.in-Some-Row.is c.in-Some-Row.field-0-is) c.inserted.ensures)

pub returns-in-Unlisted-clause-stepped : goal.returns-in-Unlisted-clause-stepped
returns-in-Unlisted-clause-stepped g c =
    row_unlisted c.args.catalog.now c.args.self.now _ c.in-Some-Row.insertion c.args.tx.now c.ask-asked.new.tx (g.P.ShardPort.told c.args.port.now) (g.P.ShardPort.told c.ask-asked.new.port) c.refused-in-Unlisted.result
    (task_was c.self.inside.task c.args.self.now.task c.in-Some-Row.field-0 (tasks.Row c.in-Some-Row.insertion) (ap (λ (p : Progress). p.task) c.self.view_is) c.in-Some-Row.is c.in-Some-Row.field-0-is) (sym c.is_full.ensures ∙ c.if-is_full.false) c.in-Unlisted.ensures.asked (at_row (λ (p : Progress). c.refused-in-Unlisted.result ≡ refused_now c.ask-asked.new.tx p OutOfMemory) (record { task = c.self.inside.task; later = c.self.inside.later; rows = c.self.inside.rows; wrote = c.self.inside.wrote; tries = c.self.inside.tries }) c.args.self.now c.in-Some-Row.insertion c.self.view_is (task_was c.self.inside.task c.args.self.now.task c.in-Some-Row.field-0 (tasks.Row c.in-Some-Row.insertion) (ap (λ (p : Progress). p.task) c.self.view_is) c.in-Some-Row.is c.in-Some-Row.field-0-is) c.refused-in-Unlisted.ensures)
