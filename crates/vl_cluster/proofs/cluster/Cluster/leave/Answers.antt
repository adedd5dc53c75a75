use Rattle.std.proofs.Common.{subst}
use Rattle.vl_catalog.specs.CatalogA.{catalog_a}
use Rattle.vl_model.specs.Sound.{Sound}
use Rattle.vl_model.specs.Tables.{HasKeysOnce}
use Rattle.vl_cluster.specs.View.{View}
use Rattle.vl_cluster.proofs.Sounding.{kept_sound}
use Rattle.vl_cluster.proofs.Keys.{keys_once}
use Rattle.vl_cluster.proofs.cluster.Cluster.leave.Goals as goal

pub returns-in-Some-clause-sound : goal.returns-in-Some-clause-sound
returns-in-Some-clause-sound c = kept_sound c.self.inside.shards.items c.self.invariant.0

pub returns-in_default-clause-sound : goal.returns-in_default-clause-sound
returns-in_default-clause-sound c = subst (λ (v : View). Sound catalog_a v.tables) c.self.view_is (kept_sound c.self.inside.shards.items c.self.invariant.0)

pub returns-in-Some-clause-keys : goal.returns-in-Some-clause-keys
returns-in-Some-clause-keys c = keys_once c.self.inside.shards.items c.self.invariant.0

pub returns-in_default-clause-keys : goal.returns-in_default-clause-keys
returns-in_default-clause-keys c = subst (λ (v : View). HasKeysOnce v.tables) c.self.view_is (keys_once c.self.inside.shards.items c.self.invariant.0)
