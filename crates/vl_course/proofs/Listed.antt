-- What an event's read leaves of its transaction.
use Rattle.std.proofs.Common.{◌≡◌, ◌∙◌, ◌==◌, ◌≤◌, ◌<◌, ◌+◌, ◌-◌, ◌^◌, ◌&&◌, ◌++◌, if◌then◌else◌, ℕ, Bool, true, false, List, [], ◌∷◌, get_or, map, Some, Contains, refl, sym, ap, subst, arith}
use Rattle.std.specs.List.{list_any}
use Rattle.std.specs.Prelude.{IsTrue, ◌↔◌, min, nat_lt}
use Rattle.std.proofs.lemmas.Bool.{eq-eqb, eqb-true, ltb-true, true≢false}
use Rattle.std.proofs.Math.Bool.{and-false}
use Rattle.std.proofs.lemmas.List.{append-nil}
use Rattle.std.proofs.lemmas.List.Folds.{Any-from_list_any, list_any_at}
use Rattle.vl_values.specs.declared.group.Group.{Group}
use Rattle.vl_values.specs.declared.group.Group.TheVariants.{Pre, Main, Post}
use Rattle.vl_values.specs.declared.key.Key.{Key}
use Rattle.vl_values.specs.declared.pred.Pred.{Pred}
use Rattle.vl_port.specs.declared.act.Act.{Act}
use Rattle.vl_port.specs.declared.act.Act.TheVariants.{Find}
use Rattle.vl_port.specs.declared.claimed.Claimed.{Claimed}
use Rattle.vl_port.specs.declared.limits.Limits.{Limits}
use Rattle.vl_port.specs.declared.tx_state.TxState.{TxState}
use Rattle.vl_port.specs.declared.who.Who.{Who}
use Rattle.vl_port.specs.Asking.{IsListed, reader_in, with_change}
use Rattle.vl_port.specs.Transaction.{Enlists, listed, session_of, with_session}
use Rattle.vl_port.specs.View.{is_group}
use Rattle.vl_port.proofs.Enlisting.{listed_other, listed_own}
use Rattle.vl_run.specs.declared.deed.Deed.{Deed}
use Rattle.vl_run.specs.declared.deed.Deed.TheVariants as deeds
use Rattle.vl_run.specs.declared.event.Event.{Event}
use Rattle.vl_run.specs.declared.mark.Mark.{Mark}
use Rattle.vl_run.specs.declared.mark.Mark.TheVariants as marks
use Rattle.vl_run.specs.Allowed.{now_of}
use Rattle.vl_run.specs.Progress.{changes, claimed, claims_in_pre, count_by, counted, is_writing, listed_by, removed, removes_in_post}
use Rattle.vl_run.specs.Run.{Run, is_of, used, uses, with_once}
use Rattle.vl_run.specs.Run.Point.{Happened}
use Rattle.vl_run.specs.Session.{Owned}
use Rattle.vl_course.specs.Course.{IsTx}

-- ---- a test of a list

none_among : (shards : List ℕ) (shard : ℕ) → (Contains shards shard → ⊥) → list_any (λ other. other == shard) shards ≡ false
none_among shards shard none = by_test (list_any (λ other. other == shard) shards) refl
  where
    by_test : (b : Bool) → list_any (λ other. other == shard) shards ≡ b → list_any (λ other. other == shard) shards ≡ false
    by_test true is =
        let it = Any-from_list_any (λ other. other == shard) shards is in
        absurd (none (subst (Contains shards) (eqb-true it.1 shard it.4) (it.0, it.2, it.3)))
    by_test false is = is

any_among : (shards : List ℕ) (shard : ℕ) → Contains shards shard → list_any (λ other. other == shard) shards ≡ true
any_among shards shard among = list_any_at (λ other. other == shard) shards among.0 shard among.1 (eq-eqb (get_or shards among.0 shard) shard among.2)

-- the test of a list tells whether it contains the shard
pub among_as : (shards : List ℕ) (shard : ℕ) (there : Bool) → IsTrue there ↔ Contains shards shard → there ≡ list_any (λ other. other == shard) shards
among_as shards shard true tells = sym (any_among shards shard (tells.0 refl))
among_as shards shard false tells = sym (none_among shards shard (λ among. true≢false (sym (tells.1 among))))

once_there : (shards : List ℕ) (shard : ℕ) → Contains shards shard → with_once shard shards ≡ shards
once_there shards shard among = ap (λ b. if b then shards else shards ++ shard ∷ []) (any_among shards shard among)

once_new : (shards : List ℕ) (shard : ℕ) → (Contains shards shard → ⊥) → with_once shard shards ≡ shards ++ shard ∷ []
once_new shards shard none = ap (λ b. if b then shards else shards ++ shard ∷ []) (none_among shards shard none)

-- ---- the sessions that are listed

own_listed : (tx new : TxState) (group : Group) (shard : ℕ) (added : Bool) → Enlists tx group shard added new → with_once shard (listed tx group) ≡ listed new group
own_listed tx new group shard true h = once_new (listed tx group) shard h.0 ∙ sym (ap (λ (t : TxState). listed t group) h.1 ∙ listed_own tx group (listed tx group ++ shard ∷ []))
own_listed tx new group shard false h = once_there (listed tx group) shard h.0 ∙ sym (ap (λ (t : TxState). listed t group) h.1)

other_listed : (tx new : TxState) (group other : Group) (shard : ℕ) (added : Bool) → (other ≡ group → ⊥) → Enlists tx group shard added new → listed tx other ≡ listed new other
other_listed tx new group other shard true apart h = sym (ap (λ (t : TxState). listed t other) h.1 ∙ listed_other tx group other (listed tx group ++ shard ∷ []) apart)
other_listed tx new group other shard false apart h = sym (ap (λ (t : TxState). listed t other) h.1)

group_listed : (tx new : TxState) (group other : Group) (shard : ℕ) (added : Bool) → Enlists tx group shard added new
    → (if is_group (Some group) (Some other) then with_once shard (listed tx other) else listed tx other) ≡ listed new other
group_listed tx new Pre Pre shard added h = own_listed tx new Pre shard added h
group_listed tx new Pre Main shard added h = other_listed tx new Pre Main shard added (λ e. cc) h
group_listed tx new Pre Post shard added h = other_listed tx new Pre Post shard added (λ e. cc) h
group_listed tx new Main Pre shard added h = other_listed tx new Main Pre shard added (λ e. cc) h
group_listed tx new Main Main shard added h = own_listed tx new Main shard added h
group_listed tx new Main Post shard added h = other_listed tx new Main Post shard added (λ e. cc) h
group_listed tx new Post Pre shard added h = other_listed tx new Post Pre shard added (λ e. cc) h
group_listed tx new Post Main shard added h = other_listed tx new Post Main shard added (λ e. cc) h
group_listed tx new Post Post shard added h = own_listed tx new Post shard added h

-- an act is listed as the transaction lists it
abbrev pub IsListedAs : ℕ → Who → ℕ → TxState → TxState → Type 0
IsListedAs number who shard tx new = (group : Group) → (if is_of number group who then with_once shard (listed tx group) else listed tx group) ≡ listed new group

pub session_listed : (tx new : TxState) (group : Group) (shard number : ℕ) → tx.number ≡ number → IsListed tx group shard new → IsListedAs number (session_of tx group) shard tx new
session_listed tx new group shard number is h other =
    ap (λ b. if b && is_group (Some group) (Some other) then with_once shard (listed tx other) else listed tx other) (eq-eqb tx.number number is)
    ∙ group_listed tx new group other shard h.0 h.1

pub reader_listed : (tx : TxState) (group : Group) (shard number : ℕ) (there : Bool) → tx.number ≡ number → IsTrue there ↔ Contains (listed tx group) shard → IsListedAs number (reader_in tx group there) shard tx tx
reader_listed tx group shard number true is tells other = session_listed tx tx group shard number is (false, (tells.0 refl, refl)) other
reader_listed tx group shard number false is tells other = ap (λ b. if b then with_once shard (listed tx other) else listed tx other) (and-false (tx.number == number))

-- ---- what else is kept of a transaction

-- all but the lists of its sessions
pub record IsKept (old new : TxState) : Type 0 where
  pub number : new.number ≡ old.number
  pub session : new.session ≡ old.session
  pub limits : new.limits ≡ old.limits
  pub auto : new.auto ≡ old.auto
  pub single : new.single ≡ old.single
  pub changes : new.changes ≡ old.changes
  pub claimed : new.claimed ≡ old.claimed
  pub removed : new.removed ≡ old.removed

pub kept_same : (tx new : TxState) → new ≡ tx → IsKept tx new
kept_same tx new is = subst (IsKept tx) (sym is) (record { number = refl; session = refl; limits = refl; auto = refl; single = refl; changes = refl; claimed = refl; removed = refl })

kept_with : (tx : TxState) (group : Group) (shards : List ℕ) → IsKept tx (with_session tx group shards)
kept_with tx Pre shards = record { number = refl; session = refl; limits = refl; auto = refl; single = refl; changes = refl; claimed = refl; removed = refl }
kept_with tx Main shards = record { number = refl; session = refl; limits = refl; auto = refl; single = refl; changes = refl; claimed = refl; removed = refl }
kept_with tx Post shards = record { number = refl; session = refl; limits = refl; auto = refl; single = refl; changes = refl; claimed = refl; removed = refl }

kept_enlisted : (tx new : TxState) (group : Group) (shard : ℕ) (added : Bool) → Enlists tx group shard added new → IsKept tx new
kept_enlisted tx new group shard true h = subst (IsKept tx) (sym h.1) (kept_with tx group (listed tx group ++ shard ∷ []))
kept_enlisted tx new group shard false h = kept_same tx new h.1

pub kept_listed : (tx new : TxState) (group : Group) (shard : ℕ) → IsListed tx group shard new → IsKept tx new
kept_listed tx new group shard h = kept_enlisted tx new group shard h.0 h.1

-- ---- a read's deed

-- a read claims and removes nothing
no_claim : (mark : Mark) (pred : Pred) (locking : Bool) → claims_in_pre mark (Find pred locking) ≡ []
no_claim marks.Opens pred locking = refl
no_claim marks.Takes pred locking = refl
no_claim marks.Looks pred locking = refl
no_claim marks.Reads pred locking = refl
no_claim marks.Writes pred locking = refl

no_removal : (mark : Mark) (pred : Pred) (locking : Bool) → removes_in_post mark (Find pred locking) ≡ []
no_removal marks.Opens pred locking = refl
no_removal marks.Takes pred locking = refl
no_removal marks.Looks pred locking = refl
no_removal marks.Reads pred locking = refl
no_removal marks.Writes pred locking = refl

none_listed : (group : Group) (of : Mark → Act → List Key) (tx : ℕ) (who : Who) (shard : ℕ) (act : Act) (mark : Mark) (before : List Key) → of mark act ≡ [] → listed_by group of tx (deeds.Acts who shard act mark) before ≡ before
none_listed group of tx who shard act mark before none = by_group (is_of tx group who)
  where
    by_group : (b : Bool) → (if b then before ++ of mark act else before) ≡ before
    by_group true = ap (λ (keys : List Key). before ++ keys) none ∙ append-nil before
    by_group false = refl

none_counted : (tx : ℕ) (who : Who) (shard : ℕ) (act : Act) (mark : Mark) (before : ℕ) → is_writing mark ≡ false → counted tx (deeds.Acts who shard act mark) before ≡ before
none_counted tx who shard act mark before none = by_tx (who.tx == tx) mark none
  where
    by_tx : (b : Bool) (mark : Mark) → is_writing mark ≡ false → (if b then count_by mark before else before) ≡ before
    by_tx true marks.Opens none = refl
    by_tx true marks.Takes none = refl
    by_tx true marks.Looks none = refl
    by_tx true marks.Reads none = refl
    by_tx true marks.Writes none = absurd (cc)
    by_tx false mark none = refl

changed_lists : (tx : TxState) (group : Group) → listed tx group ≡ listed (with_change tx) group
changed_lists tx Pre = refl
changed_lists tx Main = refl
changed_lists tx Post = refl

module _ (bounds : Limits) (e : Event) (past : Run) (n : ℕ) (own : Owned) (tx : TxState) (is : IsTx bounds (now_of e past) n own tx) where
  -- an event without a deed leaves the transaction
  pub tx_idle : e.deed ≡ deeds.Nothing → IsTx bounds (Happened e ∷ past) n own tx
  tx_idle none = record {
    number = is.number;
    session = is.session;
    single = is.single;
    limits = is.limits;
    used = λ group. ap (λ (d : Deed). uses d own.number group (used past own.number group)) none ∙ is.used group;
    changes = is.changes ∙ sym (ap (λ (d : Deed). counted own.number d (changes past own.number)) none);
    below = is.below;
    claimed = is.claimed ∙ sym (ap (λ (d : Deed). listed_by Pre claims_in_pre own.number d (claimed past own.number)) none);
    removed = is.removed ∙ sym (ap (λ (d : Deed). listed_by Post removes_in_post own.number d (removed past own.number)) none);
  }

  -- an act that wrote nothing lists its session
  pub tx_acted : (new : TxState) (who : Who) (shard : ℕ) (act : Act) (mark : Mark) → e.deed ≡ deeds.Acts who shard act mark → claims_in_pre mark act ≡ [] → removes_in_post mark act ≡ [] → is_writing mark ≡ false → IsListedAs own.number who shard tx new → IsKept tx new
      → IsTx bounds (Happened e ∷ past) n own new
  tx_acted new who shard act mark deed claims removes reads lists kept = record {
    number = kept.number ∙ is.number;
    session = kept.session ∙ is.session;
    single = kept.single ∙ is.single;
    limits = kept.limits ∙ is.limits;
    used = λ group.
        ap (λ (d : Deed). uses d own.number group (used past own.number group)) deed ∙ ap (λ (shards : List ℕ). if is_of own.number group who then with_once shard shards else shards) (is.used group) ∙ lists group;
    changes = kept.changes ∙ is.changes ∙ sym (ap (λ (d : Deed). counted own.number d (changes past own.number)) deed ∙ none_counted own.number who shard act mark (changes past own.number) reads);
    below = subst (λ (c : ℕ). c ≤ bounds.changes) (sym kept.changes) is.below;
    claimed = ap (map (λ (claim : Claimed). claim.key)) kept.claimed ∙ is.claimed
        ∙ sym (ap (λ (d : Deed). listed_by Pre claims_in_pre own.number d (claimed past own.number)) deed ∙ none_listed Pre claims_in_pre own.number who shard act mark (claimed past own.number) claims);
    removed = kept.removed ∙ is.removed
        ∙ sym (ap (λ (d : Deed). listed_by Post removes_in_post own.number d (removed past own.number)) deed ∙ none_listed Post removes_in_post own.number who shard act mark (removed past own.number) removes);
  }

  -- so does a read
  pub tx_read : (new : TxState) (who : Who) (shard : ℕ) (act : Act) (pred : Pred) (locking : Bool) (mark : Mark) → e.deed ≡ deeds.Acts who shard act mark → act ≡ Find pred locking → is_writing mark ≡ false → IsListedAs own.number who shard tx new → IsKept tx new
      → IsTx bounds (Happened e ∷ past) n own new
  tx_read new who shard act pred locking mark deed finds reads lists kept =
      tx_acted new who shard act mark deed (ap (claims_in_pre mark) finds ∙ no_claim mark pred locking) (ap (removes_in_post mark) finds ∙ no_removal mark pred locking) reads lists kept

  -- an act of the main session that wrote is counted
  pub tx_wrote : (before new : TxState) (who : Who) (shard : ℕ) (act : Act) → e.deed ≡ deeds.Acts who shard act marks.Writes → claims_in_pre marks.Writes act ≡ [] → removes_in_post marks.Writes act ≡ [] → who.tx ≡ own.number → IsListedAs own.number who shard tx before → IsKept tx before
      → new ≡ with_change before → nat_lt tx.changes tx.limits.changes ≡ true → bounds.changes < 2 ^ 32 → IsTx bounds (Happened e ∷ past) n own new
  tx_wrote before new who shard act deed claims removes whose lists kept counts left fits = subst (IsTx bounds (Happened e ∷ past) n own) (sym counts) wrote
    where
      below : tx.changes < bounds.changes
      below = omega (arith, ltb-true tx.changes tx.limits.changes left, ap (λ (l : Limits). l.changes) is.limits)

      one : min (before.changes + 1) (2 ^ 32 - 1) ≡ tx.changes + 1
      one = omega (arith, below, fits, kept.changes)

      wrote : IsTx bounds (Happened e ∷ past) n own (with_change before)
      wrote = record {
        number = kept.number ∙ is.number;
        session = kept.session ∙ is.session;
        single = kept.single ∙ is.single;
        limits = kept.limits ∙ is.limits;
        used = λ group.
            ap (λ (d : Deed). uses d own.number group (used past own.number group)) deed ∙ ap (λ (shards : List ℕ). if is_of own.number group who then with_once shard shards else shards) (is.used group) ∙ lists group
            ∙ changed_lists before group;
        changes = one ∙ ap (λ (c : ℕ). c + 1) is.changes
            ∙ sym (ap (λ (d : Deed). counted own.number d (changes past own.number)) deed ∙ ap (λ b. if b then changes past own.number + 1 else changes past own.number) (eq-eqb who.tx own.number whose));
        below = omega (arith, one, below);
        claimed = ap (map (λ (claim : Claimed). claim.key)) kept.claimed ∙ is.claimed
            ∙ sym
            (ap (λ (d : Deed). listed_by Pre claims_in_pre own.number d (claimed past own.number)) deed
            ∙ none_listed Pre claims_in_pre own.number who shard act marks.Writes (claimed past own.number) claims);
        removed = kept.removed ∙ is.removed
            ∙ sym
            (ap (λ (d : Deed). listed_by Post removes_in_post own.number d (removed past own.number)) deed
            ∙ none_listed Post removes_in_post own.number who shard act marks.Writes (removed past own.number) removes);
      }
