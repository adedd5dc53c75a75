-- A refusal that ends its transaction: an act was lost, or a commit of pre or main failed, and the sessions that are left were
-- closed.
use Rattle.std.proofs.Common.{◌≡◌, ◌≢◌, ◌==◌, ◌≤◌, ◌<◌, ◌+◌, ◌-◌, if◌then◌else◌, ℕ, zero, suc, Bool, true, false, length, Option, Some, None, refl, sym, ap, subst, ◌∙◌, inl, inr, arith}
use Rattle.std.proofs.lemmas.Bool.{cases_Bool, eqb-false, eqb-true}
use Rattle.std.specs.Option.{is_some}
use Rattle.std.specs.Prelude.{◌∷◌, ◌&&◌, slice_get}
use Rattle.vl_values.specs.declared.group.Group.{Group}
use Rattle.vl_values.specs.declared.lost_why.LostWhy.{LostWhy}
use Rattle.vl_catalog.specs.declared.catalog.Catalog.{Catalog}
use Rattle.vl_port.specs.declared.act.Act.{Act}
use Rattle.vl_port.specs.declared.answer.Answer.{Answer}
use Rattle.vl_port.specs.declared.answer.Answer.TheVariants.{Done, Unchanged, Rows, Found, Held, Lost, Device, Limit, Memory}
use Rattle.vl_port.specs.declared.carried.Carried.{Carried}
use Rattle.vl_port.specs.declared.carried.Carried.TheVariants.{Passed, LostBefore, LostAfter}
use Rattle.vl_port.specs.declared.committed.Committed.{Committed}
use Rattle.vl_port.specs.declared.fate.Fate.{Fate}
use Rattle.vl_port.specs.declared.opened.Opened.{Opened}
use Rattle.vl_port.specs.declared.tx_state.TxState.{TxState}
use Rattle.vl_port.specs.declared.who.Who.{Who}
use Rattle.vl_port.specs.Calls.{HasActed, HasCommitted, PortView}
use Rattle.vl_port.specs.Carrying.{ActsThere, Carries, Does, Uses}
use Rattle.vl_port.specs.Life.{closed, loss_of, lost_as, marked}
use Rattle.vl_port.specs.Serving.{Serves, Shards}
use Rattle.vl_port.specs.Transaction.{session_of}
use Rattle.vl_port.specs.View.{View, has_group, is_who}
use Rattle.vl_port.proofs.Lives.{marked_there}
use Rattle.vl_port.proofs.Naming.{is_who-true}
use Rattle.vl_port.proofs.Served.{serves_acted, serves_committed}
use Rattle.vl_port.proofs.Strangers.{stranger_carried}
use Rattle.vl_commit.specs.Closing.{AreClosed, with_all_closed, with_closed}
use Rattle.vl_commit.specs.Sessions.{AreLeft, Session, sessions}
use Rattle.vl_commit.proofs.Closings.{all_closed}
use Rattle.vl_replay.specs.Calls.{ActsOn}
use Rattle.vl_replay.specs.Ending.{CommitLeaves, Frees, FreesAll, IsIdle, committed_deed, was_done}
use Rattle.vl_replay.specs.Marks.{HasComeBack}
use Rattle.vl_replay.specs.Showing.{AreUp, IsOwned, IsWhole, Shows}
use Rattle.vl_run.specs.declared.ends.Ends.TheVariants as ends
use Rattle.vl_run.specs.declared.event.Event.{Event}
use Rattle.vl_run.specs.Run.{Run}
use Rattle.vl_run.specs.Run.Point.{Happened}
use Rattle.vl_replay.proofs.ActMoves.{up_there}
use Rattle.vl_replay.proofs.Closed.{closed_free, closed_whole}
use Rattle.vl_replay.proofs.Ends.{commit_leaves, settled_whole_replays}
use Rattle.vl_replay.proofs.Frees.{frees_closed, frees_same}
use Rattle.vl_replay.proofs.Kept.{acted_up, bare_changed, lanes_changed, lanes_left, up_changed}
use Rattle.vl_replay.proofs.LostActs.{lost_frees}
use Rattle.vl_replay.proofs.Standing.{act_grouped, all_up, bare_free, closed_shows, lanes_free}

never : true ≡ false → ⊥
never same = cc

-- ---- an act leaves its shard up

module _ (old : View) (who : Who) (act : Act) (up : old.up ≡ true) where
  there_up : (answer : Answer) (new : View) → ActsThere old who act answer new → new.up ≡ true
  there_up answer new (reached, reaches, acted) =
      let same : reached ≡ old = up_there old reached up reaches in
      acted_up reached new who act answer (ap (λ (v : View). v.up) same ∙ up) acted

  does_up : (answer : Answer) (new : View) → Does old who act answer new → new.up ≡ true
  does_up Done new does = there_up Done new does
  does_up Unchanged new does = there_up Unchanged new does
  does_up (Rows rows) new does = there_up (Rows rows) new does
  does_up (Found key row) new does = there_up (Found key row) new does
  does_up (Held by key) new does = there_up (Held by key) new does
  does_up (Lost why) new does = absurd does
  does_up Device new does = absurd (never (sym up ∙ does.0))
  does_up (Limit what count) new does = there_up (Limit what count) new does
  does_up Memory new (inl same) = ap (λ (v : View). v.up) same ∙ up
  does_up Memory new (inr reached) = ap (λ (v : View). v.up) (up_there old new up reached) ∙ up

  uses_up : (loss : Option LostWhy) (answer : Answer) (new : View) → Uses loss old who act answer new → new.up ≡ true
  uses_up None answer new does = does_up answer new does
  uses_up (Some why) answer new uses = ap (λ (v : View). v.up) uses.1 ∙ up

  pub carried_up : (way : Carried) (answer : Answer) (new : View) → Carries way old who act answer new → new.up ≡ true
  carried_up Passed answer new carried = uses_up (loss_of old who) answer new carried
  carried_up LostBefore answer new (inl room) = ap (λ (v : View). v.up) room.1 ∙ up
  carried_up LostBefore answer new (inr cut_off) = ap (λ (v : View). v.up) cut_off.1 ∙ up
  carried_up LostAfter answer new (inl memory) = uses_up (loss_of old who) Memory new memory.1
  carried_up LostAfter answer new (inr (inner, there, some, uses, cut_off)) = ap (λ (v : View). v.up) cut_off.1 ∙ uses_up (loss_of old who) inner there uses

-- ---- an act that was lost, and the close of all sessions

frees_on : (tx : ℕ) (old new : Shards) (shard : ℕ) → ((t : ℕ) → t ≢ shard → new t ≡ old t) → Frees tx (old shard) (new shard) → FreesAll tx old new
frees_on tx old new shard others here t = elim (cases_Bool (t == shard)) [
  | inl same ↦ subst (λ (n : ℕ). Frees tx (old n) (new n)) (sym (eqb-true t shard same)) here
  | inr apart ↦ frees_same tx (old t) (new t) (others t (eqb-false t shard apart))
]

pub lost_shows : (catalog : Catalog) (past : Run) (tx : TxState) (count : ℕ) (old mid new : PortView) (who : Who) (shard : ℕ) (act : Act) (answer : Answer) (e : Event) → Shows catalog past count old.shards → IsOwned tx.number tx.session count old.shards
    → ActsOn catalog count old who shard act answer mid → (HasComeBack answer → ⊥) → who.tx ≡ tx.number → AreLeft tx 0 count mid.shards → AreClosed tx 0 (length (sessions tx)) mid new
    → IsIdle e.deed → e.ends ≡ ends.Whole tx.number → Shows catalog (Happened e ∷ past) count new.shards
lost_shows catalog past tx count old mid new who shard act answer e shows owned acts lost own left are idle gone =
    let grouped = act_grouped catalog who act acts.lane in
    let kept = (shows.serves.each shard acts.within).kept in
    let here : Frees tx.number (old.shards shard) (mid.shards shard) = subst (λ (n : ℕ). Frees n (old.shards shard) (mid.shards shard)) own (lost_frees who act (old.shards shard) kept grouped (shows.up shard acts.within) mid.way answer (mid.shards shard) lost acts.acted.acted) in
    closed_shows catalog past tx count 0 old.shards mid new e shows owned (frees_on tx.number old.shards mid.shards shard acts.acted.others here) (omega arith) left
    (serves_acted catalog count old mid who shard act answer shows.serves grouped acts.fits acts.acted)
    (up_changed catalog count old.shards mid.shards shard acts.acted.others shows.up (carried_up (old.shards shard) who act (shows.up shard acts.within) mid.way answer (mid.shards shard) acts.acted.acted))
    (subst (λ (n : ℕ). AreClosed tx 0 n mid new) (omega arith) are) idle gone

-- ---- a transaction's sessions stay its client session's

pub owned_less : (tx session count : ℕ) (old new : Shards) → ((t : ℕ) (w : Who) → is_some ((new t).sessions w) ≡ true → is_some ((old t).sessions w) ≡ true) → IsOwned tx session count old → IsOwned tx session count new
owned_less tx session count old new less owned = record { own = λ t w within there same. owned.own t w within (less t w there) same }

-- by an act of its own session or another's
pub owned_acted : (tx session count : ℕ) (old new : PortView) (who : Who) (shard : ℕ) (act : Act) (answer : Answer) → HasActed old who shard act answer new → (who.tx ≡ tx → who.session ≡ session) → IsOwned tx session count old.shards → IsOwned tx session count new.shards
owned_acted tx session count old new who shard act answer acted mine owned = record {
  own = λ t w within there same. by_who t w within there same (is_who who w) refl;
}
  where
    by_shard : (t : ℕ) (w : Who) → is_who who w ≡ false → (new.shards t).sessions w ≡ (old.shards t).sessions w
    by_shard t w apart = elim (cases_Bool (t == shard)) [
      | inl here ↦ subst (λ (n : ℕ). (new.shards n).sessions w ≡ (old.shards n).sessions w) (sym (eqb-true t shard here)) (stranger_carried new.way (old.shards shard) (new.shards shard) who w act answer apart acted.acted)
      | inr other ↦ ap (λ (v : View). v.sessions w) (acted.others t (eqb-false t shard other))
    ]

    by_who : (t : ℕ) (w : Who) → t < count → is_some ((new.shards t).sessions w) ≡ true → w.tx ≡ tx → (b : Bool) → is_who who w ≡ b → w.session ≡ session
    by_who t w within there same true is = let one : who ≡ w = is_who-true who w is in ap (λ (v : Who). v.session) (sym one) ∙ mine (ap (λ (v : Who). v.tx) one ∙ same)
    by_who t w within there same false is = owned.own t w within (ap (λ (o : Option Opened). is_some o) (sym (by_shard t w is)) ∙ there) same

-- by a commit
gone_some : (b : Bool) (o : Option Opened) → is_some (if b then None else o) ≡ true → is_some o ≡ true
gone_some true o there = absurd (never (sym there))
gone_some false o there = there

left_less : (done : Bool) (who : Who) (old new : View) → CommitLeaves done who old new → (w : Who) → is_some (new.sessions w) ≡ true → is_some (old.sessions w) ≡ true
left_less true who old new left w there = gone_some (is_who who w) (old.sessions w) (ap (λ (v : View). is_some (v.sessions w)) (sym left) ∙ there)
left_less false who old new left w there = gone_some (is_who who w) (old.sessions w) (ap (λ (v : View). is_some (v.sessions w)) (sym left) ∙ there)

pub owned_committed : (tx session count : ℕ) (old new : PortView) (who : Who) (shard : ℕ) (told : Committed) → HasCommitted old who shard told new → (new.shards shard).up ≡ true → IsOwned tx session count old.shards → IsOwned tx session count new.shards
owned_committed tx session count old new who shard told commits up owned = owned_less tx session count old.shards new.shards less owned
  where
    less : (t : ℕ) (w : Who) → is_some ((new.shards t).sessions w) ≡ true → is_some ((old.shards t).sessions w) ≡ true
    less t w there = elim (cases_Bool (t == shard)) [
      | inl here ↦ let at : t ≡ shard = eqb-true t shard here in
          subst (λ (n : ℕ). is_some ((old.shards n).sessions w) ≡ true) (sym at)
          (left_less (was_done new.way (loss_of (old.shards shard) who)) who (old.shards shard) (new.shards shard) (commit_leaves new.way (old.shards shard) (new.shards shard) who told up commits.settled) w
          (subst (λ (n : ℕ). is_some ((new.shards n).sessions w) ≡ true) at there))
      | inr other ↦ ap (λ (v : View). is_some (v.sessions w)) (sym (commits.others t (eqb-false t shard other))) ∙ there
    ]

-- by a close, of this transaction or another
one_less : (tx : TxState) (o : Option Session) (seen : Shards) (t : ℕ) (w : Who) → is_some ((with_closed tx o seen t).sessions w) ≡ true → is_some ((seen t).sessions w) ≡ true
one_less tx None seen t w there = there
one_less tx (Some session) seen t w there = by_shard (t == session.1) there
  where
    by_shard : (b : Bool) → is_some ((if b then closed (session_of tx session.0) (seen t) else seen t).sessions w) ≡ true → is_some ((seen t).sessions w) ≡ true
    by_shard true there = gone_some (is_who (session_of tx session.0) w) ((seen t).sessions w) there
    by_shard false there = there

all_less : (tx : TxState) (from n : ℕ) (seen : Shards) (t : ℕ) (w : Who) → is_some ((with_all_closed tx from n seen t).sessions w) ≡ true → is_some ((seen t).sessions w) ≡ true
all_less tx from zero seen t w there = there
all_less tx from (suc n) seen t w there = all_less tx from n seen t w (one_less tx (slice_get (sessions tx) (from + n)) (with_all_closed tx from n seen) t w there)

pub owned_closed : (number session count from n : ℕ) (tx : TxState) (old new : PortView) → AreClosed tx from n old new → IsOwned number session count old.shards → IsOwned number session count new.shards
owned_closed number session count from n tx old new are owned =
    owned_less number session count old.shards new.shards (λ t w there. all_less tx from n old.shards t w (ap (λ (v : View). is_some (v.sessions w)) (sym (are.closed t)) ∙ there)) owned

-- by a kill
kill_less : (fate : Fate) (b : Bool) (o : Option Opened) → is_some (if b then marked fate o else o) ≡ true → is_some o ≡ true
kill_less fate true o there = sym (marked_there fate o) ∙ there
kill_less fate false o there = there

pub owned_killed : (number session count : ℕ) (old new : Shards) (who : Who) (shard : ℕ) (fate : Fate) → ((t : ℕ) → t ≢ shard → new t ≡ old t) → new shard ≡ lost_as fate who (old shard) → IsOwned number session count old → IsOwned number session count new
owned_killed number session count old new who shard fate others is owned = owned_less number session count old new less owned
  where
    less : (t : ℕ) (w : Who) → is_some ((new t).sessions w) ≡ true → is_some ((old t).sessions w) ≡ true
    less t w there = elim (cases_Bool (t == shard)) [
      | inl here ↦ let at : t ≡ shard = eqb-true t shard here in
          subst (λ (n : ℕ). is_some ((old n).sessions w) ≡ true) (sym at)
          (kill_less fate (has_group who.group && is_who who w) ((old shard).sessions w) (ap (λ (v : View). is_some (v.sessions w)) (sym is) ∙ subst (λ (n : ℕ). is_some ((new n).sessions w) ≡ true) at there))
      | inr other ↦ ap (λ (v : View). is_some (v.sessions w)) (sym (others t (eqb-false t shard other))) ∙ there
    ]

-- ---- a commit that was told as failed, and the close of the sessions behind it

module _ (catalog : Catalog) (past : Run) (tx : TxState) (count from : ℕ) (old mid new : PortView) (group : Group) (shard : ℕ) (told : Committed) (shows : Shows catalog past count old.shards) (owned : IsOwned tx.number tx.session count old.shards)
    (within : shard < count) (commits : HasCommitted old (session_of tx group) shard told mid) (up : (mid.shards shard).up ≡ true) (behind : from ≤ length (sessions tx)) (left : AreLeft tx from count mid.shards)
    (are : AreClosed tx from (length (sessions tx) - from) mid new) where
  serves_mid : Serves catalog count mid.shards
  serves_mid = serves_committed catalog count old mid (session_of tx group) shard told shows.serves commits

  up_mid : AreUp count mid.shards
  up_mid = up_changed catalog count old.shards mid.shards shard commits.others shows.up up

  left_shows : (done : Bool) (e : Event) → CommitLeaves done (session_of tx group) (old.shards shard) (mid.shards shard) → e.deed ≡ committed_deed done (session_of tx group) shard → e.ends ≡ ends.Whole tx.number
      → Shows catalog (Happened e ∷ past) count new.shards
  left_shows true e leaves deed gone =
      let lanes_mid = lanes_changed catalog count old.shards mid.shards shard commits.others within shows.lanes (lanes_left catalog true (session_of tx group) (old.shards shard) (mid.shards shard) leaves) in
      let bare_mid = bare_changed catalog count old.shards mid.shards shard commits.others within shows.bare in
      let whole_mid : IsWhole catalog tx count mid.shards = record { serves = serves_mid; lanes = lanes_mid; bare = bare_mid; owned = owned_committed tx.number tx.session count old mid (session_of tx group) shard told commits up owned } in
      let frees = closed_free tx from (length (sessions tx) - from) mid new are in
      record {
        keyed = shows.keyed;
        replays = settled_whole_replays catalog past count old.shards shows (session_of tx group) shard within refl tx.number mid.shards new.shards e commits.others leaves
            (closed_whole catalog tx count from mid.shards mid new whole_mid (λ t. frees_same tx.number (mid.shards t) (mid.shards t) refl) behind left serves_mid are) deed gone;
        serves = (all_closed catalog catalog count count tx from mid new behind left serves_mid are (record { serves = refl; counts = refl })).serves;
        lanes = lanes_free catalog count tx.number mid.shards new.shards frees lanes_mid;
        up = λ t below. ap (λ (v : View). v.up) (are.closed t) ∙ all_up tx from (length (sessions tx) - from) mid.shards t ∙ up_mid t below;
        bare = bare_free catalog count tx.number mid.shards new.shards frees bare_mid;
      }
  left_shows false e leaves deed gone =
      closed_shows catalog past tx count from old.shards mid new e shows owned
      (frees_on tx.number old.shards mid.shards shard commits.others (subst (λ (v : View). Frees tx.number (old.shards shard) v) (sym leaves) (frees_closed (session_of tx group) (old.shards shard))))
      behind left serves_mid up_mid are (subst IsIdle (sym deed) tt) gone

  pub failed_shows : (e : Event) → e.deed ≡ committed_deed (was_done mid.way (loss_of (old.shards shard) (session_of tx group))) (session_of tx group) shard → e.ends ≡ ends.Whole tx.number → Shows catalog (Happened e ∷ past) count new.shards
  failed_shows e deed gone = left_shows (was_done mid.way (loss_of (old.shards shard) (session_of tx group))) e (commit_leaves mid.way (old.shards shard) (mid.shards shard) (session_of tx group) told up commits.settled) deed gone
