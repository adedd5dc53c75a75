-- What the port answers to an act that fits and is in its lane is what the run says.
use Rattle.std.proofs.Common.{◌≡◌, ◌==◌, ◌∙◌, ◌&&◌, inl, inr, not, ℕ, Bool, true, false, List, [], Option, Some, None, refl, sym, ap, subst, arith}
use Rattle.std.specs.Prelude.{Contains}
use Rattle.std.specs.Option.{is_some}
use Rattle.std.proofs.lemmas.Bool.{and_from, and_parts, eq-eqb, false_from_ne_true, not_from_false}
use Rattle.vl_values.specs.declared.group.Group.TheVariants.{Post}
use Rattle.vl_values.specs.declared.key.Key.{Key}
use Rattle.vl_catalog.specs.declared.catalog.Catalog.{Catalog}
use Rattle.vl_port.specs.declared.act.Act.{Act}
use Rattle.vl_port.specs.declared.act.Act.TheVariants.{Insert, Put, Remove, RemoveIf, Find}
use Rattle.vl_port.specs.declared.answer.Answer.{Answer}
use Rattle.vl_port.specs.declared.answer.Answer.TheVariants.{Held, Limit, Rows as Given}
use Rattle.vl_port.specs.declared.opened.Opened.{Opened}
use Rattle.vl_port.specs.declared.tx_state.TxState.{TxState}
use Rattle.vl_port.specs.declared.who.Who.{Who}
use Rattle.vl_port.specs.Acting.{Acted}
use Rattle.vl_port.specs.Calls.{HasActed, PortView}
use Rattle.vl_port.specs.Holding.{is_blocked, is_held_by_other, needs}
use Rattle.vl_port.specs.Taking.{takes_keys}
use Rattle.vl_port.specs.Transaction.{IsIn, session_of}
use Rattle.vl_port.specs.View.{View, is_who}
use Rattle.vl_port.proofs.Naming.{is_who-true}
use Rattle.vl_replay.specs.Calls.{ActsOn}
use Rattle.vl_replay.specs.Marks.{HasComeBack}
use Rattle.vl_replay.specs.Showing.{HasNoPost, IsAlone, IsOwned, Shows}
use Rattle.vl_replay.proofs.ActMoves.{came_back}
use Rattle.vl_replay.proofs.Alone.{main_alone, pre_alone}
use Rattle.vl_replay.proofs.Shown.{acted_held, acted_reads, holder_on, same_shown, takes_on}
use Rattle.vl_run.specs.Gathered.{ReadsBy, Rows, shown}
use Rattle.vl_run.specs.Machine.{Machine, is_on, takes}
use Rattle.vl_run.specs.Refused as refused
use Rattle.vl_run.specs.Replays.{shards_cells}
use Rattle.vl_run.specs.Run.{Run}
use Rattle.vl_course.specs.Answered.{AreMarked, IsAnswered, IsShown}
use Rattle.vl_course.specs.Turning.{Due}
use Rattle.vl_course.proofs.Ported.{answered}
use Rattle.vl_course_insert.specs.Inserting.{IsFoundAs}
use Rattle.vl_course_insert.proofs.Found.{found_as}
use Rattle.vl_course_program.specs.Fitting.{IsDueFit}

never : true ≡ false → ⊥
never same = cc

-- a plain read must obtain no key
needs_none : (view : View) (act : Act) (key : Key) → takes_keys act ≡ false → needs view act key ≡ true → ⊥
needs_none view (Insert k row) key plain needed = never plain
needs_none view (Put k row) key plain needed = never plain
needs_none view (Remove k) key plain needed = never plain
needs_none view (RemoveIf k column value) key plain needed = never plain
needs_none view (Find pred locking) key plain needed = never (sym (and_parts locking _ needed).0 ∙ plain)

-- a holder of another transaction is another
other_tx : (who : Who) (holder : Option Who) → refused.is_held_by_other who.tx holder ≡ true → is_held_by_other who holder ≡ true
other_tx who None held = held
other_tx who (Some other) held =
    not_from_false (is_who other who) (false_from_ne_true (is_who other who) (λ same. never (sym held ∙ ap (λ b. not b) (ap (λ (w : Who). w.tx == who.tx) (is_who-true other who same) ∙ eq-eqb who.tx who.tx refl))))

module _ (catalog : Catalog) (past : Run) (count : ℕ) (tx : TxState) (old new : PortView) (due : Due) (answer : Answer) (shows : Shows catalog past count old.shards) (owned : IsOwned tx.number tx.session count old.shards)
    (known : IsIn tx count old.shards) (none : tx.post ≡ []) (marks : AreMarked past tx.number old.shards) (fit : IsDueFit catalog count tx due) (acted : HasActed old due.who due.shard due.act answer new) where
  abbrev there : View
  there = old.shards due.shard

  acts : ActsOn catalog count old due.who due.shard due.act answer new
  acts = record { acted = acted; within = fit.within; fits = fit.fits; lane = fit.lane }

  -- ---- no key that it wants is held by another session of its own transaction

  own_shards : IsOwned due.who.tx due.who.session count old.shards
  own_shards = record { own = λ shard who within is same. owned.own shard who within is (same ∙ fit.number) ∙ sym fit.session }

  no_member : (shard : ℕ) → Contains tx.post shard → ⊥
  no_member shard among = (let it : Contains [] shard = subst (λ (shards : List ℕ). Contains shards shard) none among in omega (arith, it.1))

  no_session : (who : Who) → who.tx ≡ due.who.tx → who.group ≡ Some Post → (o : Option Opened) → there.sessions who ≡ o → there.sessions who ≡ None
  no_session who same post None is = is
  no_session who same post (Some session) is =
      let has : is_some (there.sessions who) ≡ true = ap (λ (o : Option Opened). is_some o) is in
      let number : who.tx ≡ tx.number = same ∙ fit.number in
      let itself : who ≡ session_of tx Post = itself_by who (owned.own due.shard who fit.within has number) number post in
      absurd (no_member due.shard ((known.known Post due.shard fit.within).1 (subst (λ (w : Who). is_some (there.sessions w) ≡ true) itself has)))
    where
      itself_by : (w : Who) → w.session ≡ tx.session → w.tx ≡ tx.number → w.group ≡ Some Post → w ≡ session_of tx Post
      itself_by w session number group = λ i. record { session = session i; tx = number i; group = group i }

  no_post : HasNoPost there due.who.tx
  no_post = record { none = λ who same post. no_session who same post (there.sessions who) refl }

  alone_by : (takes : Bool) → takes_keys due.act ≡ takes → IsAlone there due.who due.act
  alone_by true is = elim (fit.group is) [
    | inl pre ↦ pre_alone catalog past count old.shards due.who due.shard due.act shows own_shards fit.within fit.lane pre no_post
    | inr main ↦ main_alone catalog past count old.shards due.who due.shard due.act shows own_shards fit.within fit.lane main
  ]
  alone_by false is = record { apart = λ key holder blocked held. absurd (needs_none there due.act key is (and_parts (needs there due.act key) (is_held_by_other due.who (there.holder key)) blocked).0) }

  -- ---- what the shards show

  acts_as : (other : Answer) → answer ≡ other → ActsOn catalog count old due.who due.shard due.act other new
  acts_as other is = subst (λ (it : Answer). ActsOn catalog count old due.who due.shard due.act it new) is acts

  done_there : (other : Answer) → HasComeBack other → answer ≡ other → Acted there due.who due.act other (new.shards due.shard)
  done_there other back is = came_back there (new.shards due.shard) due.who due.act (shows.up due.shard fit.within) new.way other back (acts_as other is).acted.acted

  -- only a read gives rows
  read_by : (act : Act) (rows : Rows) → ActsOn catalog count old due.who due.shard act (Given rows) new → Acted there due.who act (Given rows) (new.shards due.shard) → ReadsBy catalog (shown catalog past) due.who due.shard act rows
  read_by (Insert key row) rows it did = did.1
  read_by (Put key row) rows it did = did.1
  read_by (Remove key) rows it did = did.1
  read_by (RemoveIf key column value) rows it did = did.1
  read_by (Find pred locking) rows it did = acted_reads catalog past count old new due.who due.shard shows pred locking rows it

  -- no key stands in the way of an act that is free
  free_by : (key : Key) → is_blocked there due.who due.act key ≡ false → refused.is_blocked catalog (shards_cells catalog old.shards) due.who.tx due.shard due.act key ≡ false
  free_by key free = false_from_ne_true (refused.is_blocked catalog (shards_cells catalog old.shards) due.who.tx due.shard due.act key) (λ blocked.
      let u = shards_cells catalog old.shards in
      let here = and_parts (is_on catalog due.shard key) (takes u due.act key && refused.is_held_by_other due.who.tx (u key).holder) blocked in
      let both = and_parts (takes u due.act key) (refused.is_held_by_other due.who.tx (u key).holder) here.1 in
      let needed : needs there due.act key ≡ true = sym (takes_on catalog old.shards due.shard due.act key here.0) ∙ both.0 in
      let held : is_held_by_other due.who (there.holder key) ≡ true = ap (is_held_by_other due.who) (sym (holder_on catalog old.shards due.shard key here.0)) ∙ other_tx due.who (u key).holder both.1 in
      never (sym (and_from (needs there due.act key) (is_held_by_other due.who (there.holder key)) needed held) ∙ free))

  shows_all : IsShown catalog past due.who due.shard due.act answer
  shows_all = record {
    rows = λ rows is. read_by due.act rows (acts_as (Given rows) is) (done_there (Given rows) tt is);
    held = λ by key is. acted_held catalog past count old new due.who due.shard due.act shows by key (acts_as (Held by key) is) (alone_by (takes_keys due.act) refl);
    spent = λ what times key is write.
        subst (λ (u : Machine). refused.is_blocked catalog u due.who.tx due.shard due.act key ≡ false) (sym (same_shown catalog past old.shards shows.replays)) (free_by key ((done_there (Limit what times) tt is).0 key));
  }

  own_marks : AreMarked past due.who.tx old.shards
  own_marks who shard same = marks who shard (same ∙ fit.number)

  pub told : IsAnswered catalog past due.who due.shard due.act answer × IsFoundAs catalog past due.who due.act answer
  told = (answered catalog past old new due.who due.shard due.act answer acted own_marks shows_all, found_as catalog past count old new due.who due.shard due.act answer shows acts)
