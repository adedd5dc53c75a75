use Rattle.std.proofs.Common.{◌≡◌, ◌+◌, ◌∙◌, Some, None, sym, subst, arith}
use Rattle.std.specs.Prelude.{slice_get}
use Rattle.vl_port.specs.declared.who.Who.{Who}
use Rattle.vl_port.specs.Calls.{HasClosed, IsSamePort}
use Rattle.vl_port.proofs.Served.{port_trans}
use Rattle.vl_commit.specs.Sessions.{sessions}
use Rattle.vl_commit.proofs.Closings.{ClosesTo, closes_more}
use Rattle.vl_commit.proofs.Leaving.{past_all}
use Rattle.vl_commit.proofs.closing.close_from.Goals as goal
use Rattle.vl_commit.proofs.closing.close_from.Goals.{in-Some, in_default}

pub loop-n-preserved : goal.loop-n-preserved
loop-n-preserved g c =
    elim c.match-session_at.branch [
      | in-Some w ↦
          let at : slice_get (sessions c.args.tx.now) c.loop-n.n ≡ Some (w.in-Some.group, w.in-Some.shard) = sym c.session_at.ensures ∙ w.in-Some.is in
          let closes = subst (λ (who : Who). HasClosed (g.P.ShardPort.told c.loop-n.port) who w.in-Some.shard (g.P.ShardPort.told w.close.new.self)) w.who.ensures w.close.ensures.closes in
          subst
          (λ port.
          ClosesTo (g.P.ShardPort.count c.args.port.now) c.args.tx.now c.args.from (c.loop-n.n + 1) (g.P.ShardPort.told c.args.port.now) (g.P.ShardPort.told port)
          × IsSamePort (g.P.ShardPort.catalog c.args.port.now) (g.P.ShardPort.count c.args.port.now) (g.P.ShardPort.catalog port) (g.P.ShardPort.count port))
          (sym w.port-is) (
            closes_more (g.P.ShardPort.count c.args.port.now) c.args.tx.now c.args.from c.loop-n.n (g.P.ShardPort.told c.args.port.now) (g.P.ShardPort.told c.loop-n.port)
                (g.P.ShardPort.told w.close.new.self) (w.in-Some.group, w.in-Some.shard) c.loop-n.auto.n c.loop-n.invariant.0 at closes,
            port_trans (g.P.ShardPort.catalog c.args.port.now) (g.P.ShardPort.catalog c.loop-n.port) (g.P.ShardPort.catalog w.close.new.self) (g.P.ShardPort.count c.args.port.now) (g.P.ShardPort.count c.loop-n.port)
                (g.P.ShardPort.count w.close.new.self) c.loop-n.invariant.1 w.close.ensures.same,
          )
      | in_default w ↦
          let none : slice_get (sessions c.args.tx.now) c.loop-n.n ≡ None = sym c.session_at.ensures ∙ w.in_default.is in
          absurd (omega (arith, past_all (sessions c.args.tx.now) c.loop-n.n none, c.loop-n-test.true, c.session_count-n-end.ensures))
    ]
