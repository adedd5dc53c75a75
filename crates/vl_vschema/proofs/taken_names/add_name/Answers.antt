use Rattle.std.proofs.Common.{◌≡◌, ◌||◌, Bool, true, false, cond, refl, ap, ◌∙◌, string_bytes}
use Rattle.std.proofs.lemmas.Map.Text.{btree_set_updates_text}
use Rattle.std.specs.BTreeSet.{contains_text}
use Rattle.std.specs.Str.{bytes_eq}
use Rattle.vl_vschema.proofs.taken_names.add_name.Goals as goal

either : (old same : Bool) → cond same true old ≡ (old || same)
either true true = refl
either true false = refl
either false true = refl
either false false = refl

pub returns-clause-added : goal.returns-clause-added
returns-clause-added c = λ other.
    btree_set_updates_text (string_bytes c.in_ok-name.name) c.args.names.now c.insert.new.self true c.in_ok-insert.ensures.updates other
    ∙ either (contains_text c.args.names.now other) (bytes_eq (string_bytes c.in_ok-name.name) other)
    ∙ ap (λ name. contains_text c.args.names.now other || bytes_eq name other) c.in_ok-name.ensures.ok
