-- A transaction that a step of a commit opens has the next number.
use Rattle.std.proofs.Common.{◌≡◌, ◌≤◌, nat_lt, ℕ, Bool, true, false, length, refl, arith}
use Rattle.std.proofs.lemmas.Bool.{ltb-false}
use Rattle.std.specs.Prelude.{IfSome}
use Rattle.vl_values.specs.declared.reply.Reply.{Reply}
use Rattle.vl_catalog.specs.declared.catalog.Catalog.{Catalog}
use Rattle.vl_port.specs.declared.tx_state.TxState.{TxState}
use Rattle.vl_port.specs.Transaction.{last_tx}
use Rattle.vl_commit.specs.declared.commit_told.CommitTold.{CommitTold}
use Rattle.vl_commit.specs.declared.commit_told.CommitTold.TheVariants as told
use Rattle.vl_commit.specs.Stepping.{Committing}
use Rattle.vl_session.specs.declared.purpose.Purpose.{Purpose}
use Rattle.vl_session.specs.declared.purpose.Purpose.TheVariants as purposes
use Rattle.vl_session.specs.declared.turn.Turn.{Turn}
use Rattle.vl_committing.specs.declared.dealt.Dealt.{Dealt}
use Rattle.vl_committing.specs.Telling.{begins, counted, ended, told_as}

abbrev pub OpensNext : ℕ → Turn → Type 0
OpensNext next turn = IfSome turn.opens (λ number. (number ≡ next) × (number ≤ last_tx))

module _ (next : ℕ) (reply : Reply) (dealt : Dealt) where
  begins_numbered : (b : Bool) (tx : TxState) (n : ℕ) → nat_lt last_tx next ≡ b → OpensNext next (begins b dealt tx next n reply)
  begins_numbered true tx n is = tt
  begins_numbered false tx n is = (refl, omega (arith, ltb-false last_tx next is))

  ended_numbered : (purpose : Purpose) (tx : TxState) (n : ℕ) → OpensNext next (ended purpose dealt tx next n reply)
  ended_numbered purposes.Statement tx n = tt
  ended_numbered purposes.Commit tx n = tt
  ended_numbered purposes.Begin tx n = begins_numbered (nat_lt last_tx next) tx n refl
  ended_numbered purposes.Autocommit tx n = tt

  pub told_numbered : (catalog : Catalog) (purpose : Purpose) (new : Committing) (tells : CommitTold) → OpensNext next (told_as catalog next reply purpose dealt new tells)
  told_numbered catalog purpose new told.More = tt
  told_numbered catalog purpose new (told.Ok warnings) = ended_numbered purpose new.tx (counted (length warnings))
  told_numbered catalog purpose new (told.Failed group done of_ shard why) = tt
