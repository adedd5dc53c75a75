use Rattle.std.proofs.Common.{◌≡◌, map, take, Some}
use Rattle.serde_json.specs.View.{view}
use Rattle.my_auth.specs.UsersFile.{user_of}
use Rattle.my_auth.proofs.users_file.users_of.Given as goal

abbrev pub invariant-loop-i : goal.invariant-loop-i
invariant-loop-i l = map user_of (map view (take l.i l.entries)) ≡ map Some l.users.items
