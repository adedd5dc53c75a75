use Rattle.std.proofs.Common.{◌≡◌, ◌∙◌, ℕ, Option, ap, length, sym, subst}
use Rattle.vl_port.specs.Calls.{PortView, without_outcome}
use Rattle.vl_port.specs.declared.who.Who.{Who}
use Rattle.vl_commit.specs.declared.commit_told.CommitTold.TheVariants as told
use Rattle.vl_commit.specs.declared.failure.Failure.{Failure}
use Rattle.vl_commit.specs.Sessions.{AreLeft, HasNothingLeft}
use Rattle.vl_replay.specs.Showing.{AreUp}
use Rattle.vl_session.specs.declared.turn.Turn.{Turn}
use Rattle.vl_session.specs.Turning.{Answering, IsTurn}
use Rattle.vl_committing.specs.declared.dealt.Dealt.{Dealt}
use Rattle.vl_committing.specs.Telling.{dealt, dealt_as, due_named, told_as}
use Rattle.vl_committing.proofs.Answering.{answering}
use Rattle.vl_committing.proofs.Facts.{IsStepOf}
use Rattle.vl_committing.proofs.Keeping.{fewer_stepped, owned_stepped, ready_by, told_ready, unopened_stays}
use Rattle.vl_committing.proofs.Opening.{opening}
use Rattle.vl_committing.proofs.Parts.{parts}
use Rattle.vl_committing.proofs.Numbers.{OpensNext, told_numbered}
use Rattle.vl_committing.proofs.committing.run_commit.Goals as goal

pub returns-clause-ready : goal.returns-clause-ready
returns-clause-ready g c =
    let old : PortView = g.P.ShardPort.told c.args.port.now in
    let mid : PortView = g.P.ShardPort.told c.step-told.new.port in
    let count : ℕ = g.P.ShardPort.count c.args.port.now in
    let fewer = fewer_stepped c.args.commit c.step-told.new.self c.step-told.result mid old c.step-told.ensures.stepped in
    let left : c.step-told.result ≡ told.More → AreLeft c.step-told.new.self.tx c.step-told.new.self.at count mid.shards = λ more. subst (λ (n : ℕ). AreLeft c.step-told.new.self.tx c.step-told.new.self.at n mid.shards) c.step-told.ensures.same_port.counts (c.step-told.ensures.left more) in
    let ready = told_ready c.args.catalog.now count c.args.next c.args.reply c.dealt-dealt.result mid.shards (unopened_stays old.shards mid.shards c.args.next fewer c.requires.unopened) c.args.purpose c.args.commit c.step-told.new.self c.step-told.result
    c.step-told.ensures.same c.requires.ready.number (owned_stepped c.args.commit.tx.number c.args.commit.tx.session count old.shards mid.shards fewer c.requires.ready.owned) left in
    ready_by c.args.catalog.now count (g.P.ShardPort.count c.take_outcome.new.self) (without_outcome mid) (g.P.ShardPort.told c.take_outcome.new.self)
    (told_as c.args.catalog.now c.args.next c.args.reply c.args.purpose c.dealt-dealt.result c.step-told.new.self c.step-told.result) c.told_as.result (c.take_outcome.ensures.same.counts ∙ c.step-told.ensures.same_port.counts)
    c.take_outcome.ensures.taken c.told_as.ensures ready

pub returns-clause-opens : goal.returns-clause-opens
returns-clause-opens g c = λ past e stmt plan own asked turn at is_next.
    opening c.args.catalog.now c.args.commit.tx.limits past e stmt plan own c.args.commit c.step-told.new.self c.args.reply c.args.next c.dealt-dealt.result asked is_next c.args.purpose c.step-told.result at
    (subst (IsTurn e) c.told_as.ensures turn)

pub returns-clause-answering : goal.returns-clause-answering
returns-clause-answering g c = λ past e stmt plan own event turn at marks is_next unopened unused can way up.
    let old : PortView = g.P.ShardPort.told c.args.port.now in
    let mid : PortView = g.P.ShardPort.told c.step-told.new.port in
    let count : ℕ = g.P.ShardPort.count c.args.port.now in
    let dealt_is : c.dealt-dealt.result ≡ dealt c.args.commit c.step-told.result c.step-told.new.self =
    c.dealt-dealt.ensures ∙ ap (λ (o : Option (Who × ℕ)). dealt_as o c.failure-why.result) c.due_named-due.ensures
    ∙ ap (λ (o : Option Failure). dealt_as (due_named c.args.commit) o) (c.failure-why.ensures c.args.commit (sym (ap length c.warnings-count.ensures))) in
    let told_is : c.told_as.result ≡ told_as c.args.catalog.now c.args.next c.args.reply c.args.purpose (dealt c.args.commit c.step-told.result c.step-told.new.self) c.step-told.new.self c.step-told.result =
    c.told_as.ensures ∙ ap (λ (d : Dealt). told_as c.args.catalog.now c.args.next c.args.reply c.args.purpose d c.step-told.new.self c.step-told.result) dealt_is in
    let turn_is = subst (IsTurn e) told_is turn in
    let kept = parts c.args.catalog.now c.args.next c.args.reply c.args.purpose (dealt c.args.commit c.step-told.result c.step-told.new.self) c.step-told.new.self c.step-told.result in
    let step : IsStepOf c.args.catalog.now past count e stmt plan own c.args.reply c.args.purpose c.args.commit c.step-told.new.self c.step-told.result old mid = record {
      event = event;
      at = at;
      marks = marks;
      ready = c.requires.ready;
      stepped = c.step-told.ensures.stepped;
      same = c.step-told.ensures.same;
      nothing = λ over. subst (λ (n : ℕ). HasNothingLeft c.args.commit.tx n mid.shards) c.step-told.ensures.same_port.counts (c.step-told.ensures.nothing over);
      way = sym (ap (λ (p : PortView). p.way) c.take_outcome.ensures.taken) ∙ way;
      up = subst (λ (n : ℕ). AreUp n mid.shards) (c.take_outcome.ensures.same.counts ∙ c.step-told.ensures.same_port.counts)
          (subst (λ (p : PortView). AreUp (g.P.ShardPort.count c.take_outcome.new.self) p.shards) c.take_outcome.ensures.taken up);
      deed = turn_is.deed ∙ kept.deed;
      visits = turn_is.visits ∙ kept.visits;
      fault = turn_is.fault ∙ kept.fault;
    } in
    subst (λ (t : Turn). Answering c.args.catalog.now c.args.commit.tx.limits past count e t (g.P.ShardPort.told c.take_outcome.new.self).shards) (sym told_is)
    (subst (λ (p : PortView). Answering c.args.catalog.now c.args.commit.tx.limits past count e (told_as c.args.catalog.now c.args.next c.args.reply c.args.purpose (dealt c.args.commit c.step-told.result c.step-told.new.self) c.step-told.new.self c.step-told.result) p.shards)
    (sym c.take_outcome.ensures.taken)
    (answering c.args.catalog.now past count e stmt plan own c.args.reply c.args.next c.args.commit c.step-told.new.self old mid is_next c.requires.number unopened unused c.args.purpose c.step-told.result step can turn_is))

pub returns-clause-opened : goal.returns-clause-opened
returns-clause-opened g c = subst (OpensNext c.args.next) (sym c.told_as.ensures) (told_numbered c.args.next c.args.reply c.dealt-dealt.result c.args.catalog.now c.args.purpose c.step-told.new.self c.step-told.result)
