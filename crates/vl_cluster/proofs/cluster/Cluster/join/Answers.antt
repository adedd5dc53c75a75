use Rattle.std.proofs.Common.{subst}
use Rattle.vl_catalog.specs.CatalogA.{catalog_a}
use Rattle.vl_model.specs.Sound.{Sound}
use Rattle.vl_model.specs.Tables.{HasKeysOnce}
use Rattle.vl_cluster.specs.View.{View}
use Rattle.vl_cluster.proofs.Answering.{joins_shown}
use Rattle.vl_cluster.proofs.Sounding.{kept_sound}
use Rattle.vl_cluster.proofs.Keys.{keys_once}
use Rattle.vl_cluster.proofs.cluster.Cluster.join.Goals as goal

pub returns-in_default-clause-sound : goal.returns-in_default-clause-sound
returns-in_default-clause-sound c = subst (λ (v : View). Sound catalog_a v.tables) c.self.view_is (kept_sound c.self.inside.shards.items c.self.invariant.0)

pub returns-in_err-push-clause-sound : goal.returns-in_err-push-clause-sound
returns-in_err-push-clause-sound c = kept_sound c.self.inside.shards.items c.self.invariant.0

pub returns-clause-sound : goal.returns-clause-sound
returns-clause-sound c = kept_sound c.self.inside.shards.items c.self.invariant.0

pub returns-clause-ok : goal.returns-clause-ok
returns-clause-ok c =
    joins_shown c.args.self.now c.self.inside.shards.items c.self.inside.joined.items c.push.new.self.items c.self.inside.at c.self.inside.named c.next_event.result c.in-Some.number c.new.result
    c.self.view_is (rw c.as_slice.ensures.value at c.in-Some.ensures.some) c.in_ok-push.ensures.items c.next_event.ensures.value c.next_event.ensures.within c.new.ensures

pub returns-in_default-clause-keys : goal.returns-in_default-clause-keys
returns-in_default-clause-keys c = subst (λ (v : View). HasKeysOnce v.tables) c.self.view_is (keys_once c.self.inside.shards.items c.self.invariant.0)

pub returns-in_err-push-clause-keys : goal.returns-in_err-push-clause-keys
returns-in_err-push-clause-keys c = keys_once c.self.inside.shards.items c.self.invariant.0

pub returns-clause-keys : goal.returns-clause-keys
returns-clause-keys c = keys_once c.self.inside.shards.items c.self.invariant.0
