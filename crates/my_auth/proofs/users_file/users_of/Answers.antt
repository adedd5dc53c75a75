use Rattle.std.proofs.Common.{◌≡◌, None, sym, ◌∙◌}
use Rattle.serde_json.specs.View.{view}
use Rattle.my_auth.specs.UsersFile.{user_of}
use Rattle.my_auth.proofs.Entries.{first_wrong}
use Rattle.my_auth.proofs.users_file.users_of.Goals as goal

pub returns-in_default-found-clause-err : goal.returns-in_default-found-clause-err
returns-in_default-found-clause-err c =
    let wrong : user_of (view c.index-entries-i.result) ≡ None = sym c.in-Ok-user_of.ensures ∙ c.in_default-found.is in
    first_wrong c.args.entries.now c.loop-i.users.items c.loop-i.i c.index-entries-i.result c.loop-i-test.true c.index-entries-i.is c.loop-i.invariant wrong
