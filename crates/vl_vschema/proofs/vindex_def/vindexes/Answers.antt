use Rattle.std.proofs.Common.{◌≡◌, codes, map, sym, ap, ◌∙◌, refl}
use Rattle.serde_json.specs.View.{view, members_view}
use Rattle.vl_vschema.specs.Json.{in_option, members, members_of}
use Rattle.vl_vschema.specs.Vschema.{vindex_of, members_named}
use Rattle.vl_vschema.proofs.Viewing.{all_made, by_name, none_by_name}
use Rattle.vl_vschema.proofs.vindex_def.vindexes.Goals as goal

pub returns-in_default-clause-by_name : goal.returns-in_default-clause-by_name
returns-in_default-clause-by_name c = none_by_name (λ x. x.name) _ c.new-defs.ensures.items

pub returns-in_default-as_object-clause-by_name : goal.returns-in_default-as_object-clause-by_name
returns-in_default-as_object-clause-by_name c = none_by_name (λ x. x.name) _ c.new-defs.ensures.items

pub returns-clause-by_name : goal.returns-clause-by_name
returns-clause-by_name c =
    let all = members (members_view c.in-Some-as_object.members.now.entries) in
    let named : members_named (codes "vindexes") (view c.args.file.now) ≡ all =
    sym (ap (in_option members_of) c.in-Some.ensures) ∙ sym (ap (in_option members) c.in-Some-as_object.ensures) in
    let made : c.loop-name.defs.items ≡ map vindex_of all = all_made vindex_of c.loop-name.defs.items _ c.loop-name.name-iterator c.loop-name.invariant c.in-None.ensures.steps.0 ∙ ap (map vindex_of) named in
    by_name vindex_of (λ x. x.name) (λ m. refl) c.in-Some-as_object.members.now.entries _ made c.iter-name-items.ensures.ordered
