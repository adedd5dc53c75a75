use Rattle.std.proofs.Common.{map, Some, ap, ◌∙◌, sym}
use Rattle.std.specs.Option.{option_map, option_and_then}
use Rattle.serde_json.specs.Find.{as_array}
use Rattle.serde_json.specs.View.{view}
use Rattle.my_auth.specs.UsersFile.{items}
use Rattle.my_auth.proofs.Entries.{items-items_view}
use Rattle.my_auth.proofs.users_file.entries_of.Goals as goal

pub returns-in-Some-as_array : goal.returns-in-Some-as_array
returns-in-Some-as_array c =
    ap (λ vs. Some (map view vs)) c.as_slice.ensures.value
    ∙ ap Some (sym (items-items_view c.in-Some-as_array.entries.now.items))
    ∙ ap (option_map items) c.in-Some-as_array.ensures
    ∙ ap (λ found. option_map items (option_and_then as_array found)) c.in-Some.ensures
