-- By the lanes no key that an act must obtain is held by another session of its own transaction, but where that has sessions of
-- pre and of post.
use Rattle.std.proofs.Common.{◌≡◌, ◌==◌, ◌<◌, not, ℕ, Bool, true, false, Option, Some, None, refl, sym, ap, subst, ◌∙◌}
use Rattle.std.proofs.lemmas.Bool.{and_parts, eqb-true, false_from_ne_true}
use Rattle.std.specs.Option.{is_some}
use Rattle.vl_values.specs.declared.group.Group.{Group}
use Rattle.vl_values.specs.declared.group.Group.TheVariants.{Pre, Main, Post}
use Rattle.vl_values.specs.declared.key.Key.{Key}
use Rattle.vl_catalog.specs.declared.catalog.Catalog.{Catalog}
use Rattle.vl_port.specs.declared.act.Act.{Act}
use Rattle.vl_port.specs.declared.opened.Opened.{Opened}
use Rattle.vl_port.specs.declared.who.Who.{Who}
use Rattle.vl_port.specs.Holding.{is_held_by_other, needs}
use Rattle.vl_port.specs.Serving.{Shards}
use Rattle.vl_port.specs.View.{is_who}
use Rattle.vl_port.proofs.Lives.{live_there}
use Rattle.vl_port.proofs.Naming.{is_who-same}
use Rattle.vl_replay.specs.Lanes.{IsActInLane, IsLane}
use Rattle.vl_replay.specs.Showing.{HasNoPost, IsAlone, IsOwned, Shows}
use Rattle.vl_run.specs.Machine.{is_entry}
use Rattle.vl_run.specs.Run.{Run}
use Rattle.vl_replay.proofs.Kept.{needed_lane}

never : true ≡ false → ⊥
never same = cc

-- one lane, one group
same_main : (g : Option Group) (entry : Bool) → IsLane g entry → entry ≡ false → g ≡ Some Main
same_main None entry lane row = absurd lane
same_main (Some Pre) entry lane row = absurd (never (sym lane ∙ row))
same_main (Some Main) entry lane row = refl
same_main (Some Post) entry lane row = absurd (never (sym lane ∙ row))

same_pre : (g : Option Group) (entry : Bool) → IsLane g entry → entry ≡ true → (g ≡ Some Post → ⊥) → g ≡ Some Pre
same_pre None entry lane is none = absurd lane
same_pre (Some Pre) entry lane is none = refl
same_pre (Some Main) entry lane is none = absurd (never (sym is ∙ lane))
same_pre (Some Post) entry lane is none = absurd (none refl)

module _ (catalog : Catalog) (past : Run) (count : ℕ) (seen : Shards) (who : Who) (shard : ℕ) (act : Act) (shows : Shows catalog past count seen) (owned : IsOwned who.tx who.session count seen) (within : shard < count)
    (lane : IsActInLane catalog who.group act) where
  -- a holder of its own transaction and group is itself
  not_itself : (holder : Who) → is_held_by_other who (Some holder) ≡ true → holder.tx ≡ who.tx → holder.session ≡ who.session → holder.group ≡ who.group → ⊥
  not_itself holder other tx session group = never (sym (is_who-same who) ∙ ap (λ (w : Who). is_who w who) (sym same) ∙ not_false (is_who holder who) other)
    where
      same : holder ≡ who
      same = λ i. record { session = session i; tx = tx i; group = group i }

      not_false : (b : Bool) → not b ≡ true → b ≡ false
      not_false true h = absurd (never (sym h))
      not_false false h = refl

  apart_by : ((key : Key) (holder : Who) → (seen shard).holder key ≡ Some holder → holder.tx ≡ who.tx → IsLane holder.group (is_entry catalog key) → IsLane who.group (is_entry catalog key) → holder.group ≡ who.group) → IsAlone (seen shard) who act
  apart_by groups = record {
    apart = λ key holder blocked held. false_from_ne_true (holder.tx == who.tx) (λ same.
        let tx : holder.tx ≡ who.tx = eqb-true holder.tx who.tx same in
        let parts = and_parts (needs (seen shard) act key) (is_held_by_other who ((seen shard).holder key)) blocked in
        let there = live_there (seen shard) holder ((shows.serves.each shard within).kept.live key holder held) in
        not_itself holder (ap (λ (h : Option Who). is_held_by_other who h) (sym held) ∙ parts.1) tx (owned.own shard holder within there tx)
        (groups key holder held tx (shows.lanes.holders shard key holder within held) (needed_lane catalog who act (seen shard) key lane parts.0)));
  }

  pub main_alone : who.group ≡ Some Main → IsAlone (seen shard) who act
  main_alone main = apart_by (λ key holder held tx its own. same_main holder.group (is_entry catalog key) its (subst (λ (g : Option Group). IsLane g (is_entry catalog key)) main own) ∙ sym main)

  pub pre_alone : who.group ≡ Some Pre → HasNoPost (seen shard) who.tx → IsAlone (seen shard) who act
  pre_alone pre none = apart_by (λ key holder held tx its own.
      same_pre holder.group (is_entry catalog key) its (subst (λ (g : Option Group). IsLane g (is_entry catalog key)) pre own)
      (λ post. no_session ((seen shard).sessions holder) (live_there (seen shard) holder ((shows.serves.each shard within).kept.live key holder held)) (none.none holder tx post)) ∙ sym pre)
    where
      no_session : (o : Option Opened) → is_some o ≡ true → o ≡ None → ⊥
      no_session o there gone = never (sym there ∙ ap (λ (p : Option Opened). is_some p) gone)
