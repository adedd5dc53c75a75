-- Sessions are closed one after the other, and no other session is touched.
use Rattle.std.proofs.Common.{◌≡◌, ◌<◌, ℕ, zero, suc, ◌+◌, ◌-◌, ◌≤◌, Bool, true, false, cond, length, get_or, Option, Some, refl, sym, ap, ◌∙◌, subst, arith, eqb-true}
use Rattle.std.specs.Prelude.{◌==◌, slice_get}
use Rattle.std.proofs.lemmas.Bool.{eqb-false, eq-eqb, ne_eqb}
use Rattle.std.proofs.lemmas.Option.{slice_get-get_or}
use Rattle.vl_catalog.specs.declared.catalog.Catalog.{Catalog}
use Rattle.vl_values.specs.declared.group.Group.TheVariants.{Pre}
use Rattle.vl_port.specs.declared.tx_state.TxState.{TxState}
use Rattle.vl_port.specs.Calls.{HasClosed, IsQuiet, IsSamePort, PortView}
use Rattle.vl_port.specs.Life.{closed}
use Rattle.vl_port.specs.Others.{LeavesOthers}
use Rattle.vl_port.specs.Serving.{Serves, Shards}
use Rattle.vl_port.specs.Transaction.{session_of}
use Rattle.vl_port.proofs.Leaving.{leaves_closed, leaves_same, leaves_trans}
use Rattle.vl_port.proofs.Served.{serves_closed}
use Rattle.vl_commit.specs.Closing.{AreClosed, with_all_closed, with_closed}
use Rattle.vl_commit.specs.Sessions.{AreLeft, HasEnded, HasNothingLeft, Session, sessions}
use Rattle.vl_commit.proofs.Endings.{closed_ends, closed_stays}
use Rattle.vl_commit.proofs.Leaving.{left_next, none_left}
use Rattle.vl_commit.proofs.Nothing.{nothing_left}

-- ---- one more is closed

quiet_both : (a b c : PortView) → IsQuiet a b → IsQuiet b c → IsQuiet a c
quiet_both a b c first second = record {
  faults = second.faults ∙ first.faults;
  carried = second.carried ∙ first.carried;
  way = second.way ∙ first.way;
  losses = second.losses ∙ first.losses;
}

one_more : (tx : TxState) (session : Session) (before : Shards) (mid new : PortView) (shard : ℕ) (b : Bool) → (shard == session.1) ≡ b → mid.shards shard ≡ before shard
    → HasClosed mid (session_of tx session.0) session.1 new → new.shards shard ≡ cond b (closed (session_of tx session.0) (before shard)) (before shard)
one_more tx session before mid new shard true at same has =
    let here : shard ≡ session.1 = eqb-true shard session.1 at in
    subst (λ (s : ℕ). new.shards s ≡ closed (session_of tx session.0) (mid.shards s)) (sym here) has.closed ∙ ap (closed (session_of tx session.0)) same
one_more tx session before mid new shard false at same has = has.others shard (eqb-false shard session.1 at) ∙ same

closes_one : (tx : TxState) (from n : ℕ) (old mid new : PortView) (session : Session) → from ≤ n → AreClosed tx from (n - from) old mid → slice_get (sessions tx) n ≡ Some session
    → HasClosed mid (session_of tx session.0) session.1 new → AreClosed tx from (n + 1 - from) old new
closes_one tx from n old mid new session behind are at has =
    let more : suc (n - from) ≡ n + 1 - from = omega (arith, behind) in
    let place : from + (n - from) ≡ n = omega (arith, behind) in
    let its : slice_get (sessions tx) (from + (n - from)) ≡ Some session = ap (slice_get (sessions tx)) place ∙ at in
    let before : Shards = with_all_closed tx from (n - from) old.shards in
    subst (λ (k : ℕ). AreClosed tx from k old new) more (record {
      closed = λ shard. one_more tx session before mid new shard (shard == session.1) refl (are.closed shard) has ∙ ap (λ (o : Option Session). with_closed tx o before shard) (sym its);
      quiet = quiet_both old mid new are.quiet has.quiet;
    })

-- the sessions from the one place to the other are closed
pub record ClosesTo (count : ℕ) (tx : TxState) (from n : ℕ) (old new : PortView) : Type 0 where
  pub left : AreLeft tx n count new.shards
  pub are : AreClosed tx from (n - from) old new

pub closes_none : (count : ℕ) (tx : TxState) (from : ℕ) (old : PortView) → AreLeft tx from count old.shards → ClosesTo count tx from from old old
closes_none count tx from old left =
    let none : 0 ≡ from - from = omega arith in
    record { left = left; are = subst (λ (k : ℕ). AreClosed tx from k old old) none (record { closed = λ shard. refl; quiet = record { faults = refl; carried = refl; way = refl; losses = refl } }) }

pub closes_more : (count : ℕ) (tx : TxState) (from n : ℕ) (old mid new : PortView) (session : Session) → from ≤ n → ClosesTo count tx from n old mid → slice_get (sessions tx) n ≡ Some session
    → HasClosed mid (session_of tx session.0) session.1 new → ClosesTo count tx from (n + 1) old new
closes_more count tx from n old mid new session behind far at has = record {
  left = left_next tx n count mid.shards new.shards session far.left at (closed_ends mid new (session_of tx session.0) session.1 has);
  are = closes_one tx from n old mid new session behind far.are at has;
}

-- ---- what all of them leave

-- the port when so many are closed
abbrev after : TxState → ℕ → ℕ → PortView → PortView
after tx from k old = record old { shards = with_all_closed tx from k old.shards }

its_shard : (tx : TxState) (o : Option Session) (session : Session) (before : Shards) (shard : ℕ) (b : Bool) → o ≡ Some session → (shard == session.1) ≡ b
    → with_closed tx o before shard ≡ cond b (closed (session_of tx session.0) (before shard)) (before shard)
its_shard tx o session before shard b is at =
    ap (λ (p : Option Session). with_closed tx p before shard) is ∙ ap (λ (c : Bool). cond c (closed (session_of tx session.0) (before shard)) (before shard)) at

last_closed : (tx : TxState) (from k : ℕ) (old : PortView) (session : Session) → slice_get (sessions tx) (from + k) ≡ Some session
    → HasClosed (after tx from k old) (session_of tx session.0) session.1 (after tx from (suc k) old)
last_closed tx from k old session at = record {
  closed = its_shard tx (slice_get (sessions tx) (from + k)) session (with_all_closed tx from k old.shards) session.1 true at (eq-eqb session.1 session.1 refl);
  others = λ other apart. its_shard tx (slice_get (sessions tx) (from + k)) session (with_all_closed tx from k old.shards) other false at (ne_eqb other session.1 apart);
  quiet = record { faults = refl; carried = refl; way = refl; losses = refl };
}

pub record Leaves (catalog : Catalog) (count : ℕ) (tx : TxState) (to : ℕ) (old new : Shards) : Type 0 where
  pub left : AreLeft tx to count new
  pub serves : Serves catalog count old → Serves catalog count new
  pub others : Serves catalog count old → LeavesOthers tx.number old new
  pub stays : (shard : ℕ) → (new shard).incarnation ≡ (old shard).incarnation

all_leave : (catalog : Catalog) (count : ℕ) (tx : TxState) (from k : ℕ) (old : PortView) → from + k ≤ length (sessions tx) → AreLeft tx from count old.shards
    → Leaves catalog count tx (from + k) old.shards (after tx from k old).shards
all_leave catalog count tx from zero old within left =
    let same : from ≡ from + 0 = omega arith in
    record {
      left = subst (λ (n : ℕ). AreLeft tx n count old.shards) same left;
      serves = λ it. it;
      others = λ it. leaves_same tx.number old.shards;
      stays = λ shard. refl;
    }
all_leave catalog count tx from (suc k) old within left =
    let below : from + k < length (sessions tx) = omega (arith, within) in
    let session : Session = get_or (sessions tx) (from + k) (Pre, 0) in
    let at : slice_get (sessions tx) (from + k) ≡ Some session = slice_get-get_or (sessions tx) (from + k) (Pre, 0) below in
    let far = all_leave catalog count tx from k old (omega (arith, within)) left in
    let mid : PortView = after tx from k old in
    let new : PortView = after tx from (suc k) old in
    let has = last_closed tx from k old session at in
    let open_ = far.left.opened (from + k) session (omega arith) at in
    let next : from + k + 1 ≡ from + suc k = omega arith in
    record {
      left = subst (λ (n : ℕ). AreLeft tx n count new.shards) next
          (left_next tx (from + k) count mid.shards new.shards session far.left at (closed_ends mid new (session_of tx session.0) session.1 has));
      serves = λ it. serves_closed catalog count mid new (session_of tx session.0) session.1 (far.serves it) has;
      others = λ it. leaves_trans tx.number old.shards mid.shards new.shards (far.others it) (leaves_closed mid new (session_of tx session.0) session.1 ((far.serves it).each session.1 open_.0).kept has);
      stays = λ shard. closed_stays mid new (session_of tx session.0) session.1 has shard ∙ far.stays shard;
    }

-- all behind a place were closed
pub rest_leaves : (catalog : Catalog) (count : ℕ) (tx : TxState) (from k : ℕ) (old new : PortView) → from + k ≤ length (sessions tx) → AreLeft tx from count old.shards → AreClosed tx from k old new
    → Leaves catalog count tx (from + k) old.shards new.shards
rest_leaves catalog count tx from k old new within left are =
    let whole : with_all_closed tx from k old.shards ≡ new.shards = λ i shard. (sym (are.closed shard)) i in
    subst (Leaves catalog count tx (from + k) old.shards) whole (all_leave catalog count tx from k old within left)

pub all_ended : (catalog : Catalog) (count : ℕ) (tx : TxState) (from : ℕ) (old new : Shards) → from ≤ length (sessions tx) → Leaves catalog count tx (from + (length (sessions tx) - from)) old new → HasEnded tx count new
all_ended catalog count tx from old new within leaves = none_left tx (from + (length (sessions tx) - from)) count new leaves.left (omega (arith, within))

-- nothing is left of the transaction, and others have what they had
pub record AllClosed (catalog : Catalog) (count : ℕ) (tx : TxState) (old new : Shards) : Type 0 where
  pub nothing : HasNothingLeft tx count new
  pub serves : Serves catalog count new
  pub others : LeavesOthers tx.number old new
  pub stays : (shard : ℕ) → (new shard).incarnation ≡ (old shard).incarnation

pub all_closed : (past catalog : Catalog) (before count : ℕ) (tx : TxState) (from : ℕ) (old new : PortView) → from ≤ length (sessions tx) → AreLeft tx from before old.shards → Serves past before old.shards
    → AreClosed tx from (length (sessions tx) - from) old new → IsSamePort past before catalog count → AllClosed catalog count tx old.shards new.shards
all_closed past catalog before count tx from old new within left serves are same =
    let rest = rest_leaves past before tx from (length (sessions tx) - from) old new (omega (arith, within)) left are in
    let ended : HasEnded tx before new.shards = all_ended past before tx from old.shards new.shards within rest in
    subst (λ (c : Catalog). AllClosed c count tx old.shards new.shards) (sym same.serves) (subst (λ (n : ℕ). AllClosed past n tx old.shards new.shards) (sym same.counts) (record {
      nothing = nothing_left past tx before new.shards (rest.serves serves) ended;
      serves = rest.serves serves;
      others = rest.others serves;
      stays = rest.stays;
    }))
