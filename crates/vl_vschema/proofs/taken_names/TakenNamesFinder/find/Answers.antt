use Rattle.std.proofs.Common.{ap, ◌∙◌, ◌||◌, codes, arith, rules}
use Rattle.std.specs.BTreeSet.{contains_text}
use Rattle.serde_json.specs.View.{view}
use Rattle.vl_vschema.specs.Json.{is_this, text_at}
use Rattle.vl_vschema.proofs.NameSteps.{name_found, name_joined}
use Rattle.vl_vschema.proofs.Viewing.{items_of_array}
use Rattle.vl_vschema.proofs.taken_names.TakenNamesFinder.find.Goals as goal

pub loop-position-init : goal.loop-position-init
loop-position-init g c =
    let all = items_of_array (view c.args.value.now) c.in-Some.keyspaces.now.items c.in-Some.ensures in
    record {
      names = λ other. search (rules, c.new-names.ensures.empty);
      noted = rw (all, c.deref-keyspace-items.ensures.value);
    }

pub loop-position-preserved : goal.loop-position-preserved
loop-position-preserved g c =
    let values = c.deref-keyspace-items.result.now in
    let value = c.keyspace-item.result in
    let i = c.loop-position.position in
    record {
      names = λ other.
          c.in_ok-look_at_name.ensures.added other
          ∙ ap (λ b. b || is_this other (text_at (codes "name") (view value))) (c.loop-position.invariant.names other)
          ∙ name_joined values i value (omega arith) c.keyspace-item.is other;
      noted =
          name_found g.S.PathSink.with c.loop-position.sink c.look_at_name.new.sink c.args.path.now values i value (contains_text c.loop-position.names) (omega arith) c.keyspace-item.is c.loop-position.invariant.names c.in_ok-look_at_name.ensures.noted
          ∙ c.loop-position.invariant.noted;
    }
