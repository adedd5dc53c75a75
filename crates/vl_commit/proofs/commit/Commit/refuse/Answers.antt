use Rattle.std.proofs.Common.{◌<◌, length, sym, subst, arith}
use Rattle.std.proofs.lemmas.Option.{slice_get_within}
use Rattle.vl_commit.specs.Sessions.{sessions}
use Rattle.vl_commit.specs.Stepping.{Committing}
use Rattle.vl_commit.proofs.Steps.{due_behind, due_within}
use Rattle.vl_commit.proofs.commit.Commit.refuse.Goals as goal

pub failed-told-requires-clause-from : goal.failed-told-requires-clause-from
failed-told-requires-clause-from g c = due_behind c.args.self.now c.args.group c.args.shard c.requires.due

pub failed-told-requires-clause-within : goal.failed-told-requires-clause-within
failed-told-requires-clause-within g c = due_within c.args.self.now c.args.group c.args.shard c.requires.due

pub prove-unreachable-requires : goal.prove-unreachable-requires
prove-unreachable-requires g c =
    let below : c.self.inside.at < length (sessions c.self.inside.tx) =
    subst (λ (v : Committing). v.at < length (sessions v.tx)) (sym c.self.view_is) (slice_get_within (sessions c.args.self.now.tx) c.args.self.now.at (c.args.group, c.args.shard) c.requires.due) in
    omega (arith, below, c.session_count.ensures, c.if-prove.true)
