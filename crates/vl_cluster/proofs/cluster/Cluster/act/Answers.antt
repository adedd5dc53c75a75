use Rattle.std.proofs.Common.{◌≡◌, ◌∙◌, sym, ap, subst, List, ℕ, length, take, drop, ◌++◌}
use Rattle.vl_catalog.specs.CatalogA.{catalog_a}
use Rattle.vl_model.specs.Sound.{Sound}
use Rattle.vl_model.specs.Tables.{HasKeysOnce}
use Rattle.vl_cluster.specs.declared.session.Session.{Session}
use Rattle.vl_cluster.specs.declared.what.What.{What}
use Rattle.vl_cluster.specs.View.{View, stmt_of}
use Rattle.vl_cluster.specs.Kept.{IsKept}
use Rattle.vl_cluster.specs.Lists.{Lists, tables_of}
use Rattle.vl_cluster.proofs.Sounding.{kept_sound}
use Rattle.vl_cluster.proofs.Keys.{keys_once}
use Rattle.vl_cluster.proofs.Answering.{whole, answered_of}
use Rattle.vl_cluster.proofs.cluster.Cluster.act.Goals as goal

pub returns-in_default-clause-sound : goal.returns-in_default-clause-sound
returns-in_default-clause-sound c = subst (λ (v : View). Sound catalog_a v.tables) c.self.view_is (kept_sound c.self.inside.shards.items c.self.invariant.0)

pub returns-then-self-eq-LAST_EVENT-clause-sound : goal.returns-then-self-eq-LAST_EVENT-clause-sound
returns-then-self-eq-LAST_EVENT-clause-sound c = subst (λ (v : View). Sound catalog_a v.tables) c.self.view_is (kept_sound c.self.inside.shards.items c.self.invariant.0)

-- the vector of the shards after the statement
lists_after : (n : ℕ) (before after : List Lists) → n ≡ length before → IsKept before → IsKept after → take n (after ++ drop (length after) before) ≡ after
lists_after n before after is kept then = whole n before after is (then.two ∙ sym kept.two)

pub returns-clause-acted : goal.returns-clause-acted
returns-clause-acted c =
    let is = lists_after c.self.inside.shards.len c.self.inside.shards.items c.insert-reply.new.shards c.self.inside.shards.ok.0 c.self.invariant.0 c.insert-reply.ensures.kept in
    let found = rw c.as_slice.ensures.value at c.in-Some.ensures.some in
    answered_of c.args.self.now c.self.inside.shards.items c.insert-reply.new.shards _ c.self.inside.joined.items c.self.inside.at c.self.inside.named c.in-Some.place c.values_of-id.result.0 c.values_of-id.result.1
    (stmt_of c.args.ask) c.args.pass c.into_session-session.result c.new-2.result c.insert-reply.result c.new-3.result.1 is c.into_session-session.ensures.value c.self.view_is found.0 found.1
    c.if-self-eq-LAST_EVENT.false c.values_of-id.ensures (rw c.as_mut_slice.ensures.value at c.insert-reply.ensures.step) (rw c.as_mut_slice.ensures.value at c.insert-reply.ensures.refused) c.self.invariant.1 c.new-2.ensures
    (ap (λ (t : Session × What). t.1) c.new-3.ensures)

pub returns-clause-sound : goal.returns-clause-sound
returns-clause-sound c =
    let is = lists_after c.self.inside.shards.len c.self.inside.shards.items c.insert-reply.new.shards c.self.inside.shards.ok.0 c.self.invariant.0 c.insert-reply.ensures.kept in
    subst (λ (l : List Lists). Sound catalog_a (tables_of l)) (sym is) (kept_sound c.insert-reply.new.shards c.insert-reply.ensures.kept)

pub returns-in_default-clause-keys : goal.returns-in_default-clause-keys
returns-in_default-clause-keys c = subst (λ (v : View). HasKeysOnce v.tables) c.self.view_is (keys_once c.self.inside.shards.items c.self.invariant.0)

pub returns-then-self-eq-LAST_EVENT-clause-keys : goal.returns-then-self-eq-LAST_EVENT-clause-keys
returns-then-self-eq-LAST_EVENT-clause-keys c = subst (λ (v : View). HasKeysOnce v.tables) c.self.view_is (keys_once c.self.inside.shards.items c.self.invariant.0)

pub returns-clause-keys : goal.returns-clause-keys
returns-clause-keys c =
    let is = lists_after c.self.inside.shards.len c.self.inside.shards.items c.insert-reply.new.shards c.self.inside.shards.ok.0 c.self.invariant.0 c.insert-reply.ensures.kept in
    subst (λ (l : List Lists). HasKeysOnce (tables_of l)) (sym is) (keys_once c.insert-reply.new.shards c.insert-reply.ensures.kept)
