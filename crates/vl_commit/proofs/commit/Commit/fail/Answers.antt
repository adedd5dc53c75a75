use Rattle.std.proofs.Common.{◌≡◌, Some, subst}
use Rattle.vl_values.specs.declared.group.Group.{Group}
use Rattle.vl_values.specs.declared.group.Group.TheVariants.{Post}
use Rattle.vl_commit.specs.Stepping.{due}
use Rattle.vl_commit.proofs.Steps.{due_behind}
use Rattle.vl_commit.proofs.commit.Commit.fail.Goals as goal

pub warn-requires-clause-post : goal.warn-requires-clause-post
warn-requires-clause-post g c = due_behind c.args.self.now Post c.args.shard (subst (λ (group : Group). due c.args.self.now ≡ Some (group, c.args.shard)) c.in-Post.is c.requires.due)
