-- The writes that were done stand through each step after which the program goes on.
use Rattle.std.proofs.Common.{◌≡◌, ◌≢◌, ℕ, ◌<◌, ◌≤◌, ◌⊎◌, inl, inr, Bool, true, false, cond, List, ◌++◌, length, get_or, Some, refl, sym, ap, ◌∙◌, subst, arith}
use Rattle.std.specs.Prelude.{slice_get}
use Rattle.std.specs.List.{AllPairs}
use Rattle.std.specs.Ordering.{is_lt}
use Rattle.std.proofs.lemmas.Bool.{cases_Bool}
use Rattle.std.proofs.lemmas.Cmp.{tied_itself}
use Rattle.std.proofs.lemmas.List.{get_or_append_left}
use Rattle.std.proofs.lemmas.Option.{get_or_from_slice_get, same_Some, slice_get-get_or, slice_get_within}
use Rattle.vl_values.specs.declared.group.Group.TheVariants.{Main}
use Rattle.vl_values.specs.declared.key.Key.{Key}
use Rattle.vl_values.specs.Keyed.{comes_before, is_key}
use Rattle.vl_values.proofs.KeyOrder.{is_key-same, is_key-true, key_cmp_total}
use Rattle.vl_catalog.specs.declared.catalog.Catalog.{Catalog}
use Rattle.vl_port.specs.declared.act.Act.{Act}
use Rattle.vl_port.specs.declared.act.Act.TheVariants.{Insert, Put, Remove, RemoveIf, Find}
use Rattle.vl_port.specs.declared.answer.Answer.{Answer}
use Rattle.vl_port.specs.declared.answer.Answer.TheVariants.{Done, Rows, Held}
use Rattle.vl_port.specs.declared.tx_state.TxState.{TxState}
use Rattle.vl_port.specs.declared.who.Who.{Who}
use Rattle.vl_port.specs.Acting.{row_left, written}
use Rattle.vl_port.specs.Holding.{needs}
use Rattle.vl_port.specs.Serving.{Shards}
use Rattle.vl_port.specs.Transaction.{session_of}
use Rattle.vl_port.specs.View.{View, Values}
use Rattle.vl_port.proofs.Leaving.{same_or_other}
use Rattle.vl_change.specs.declared.action.Action.{Action}
use Rattle.vl_change.specs.Changes.{writes_of}
use Rattle.vl_change.specs.Effects.{HasWritten, IsWritten}
use Rattle.vl_change.specs.Making.{IsMade, IsWrite, Precedes, written_key}
use Rattle.vl_change.specs.Progress.{Progress, with_rows, with_write}
use Rattle.vl_change.proofs.Dues.{IsDue, contains_at, done_writes}
use Rattle.vl_change.proofs.Goings.{Read, Waited, Went, Wrote}
use Rattle.vl_statement.proofs.Reached.{IsDone, reached_pending}

-- ---- keys

-- a write needs its own key alone
needs_key : (view : View) (act : Act) (key k : Key) → IsWrite act → written_key act ≡ Some key → needs view act k ≡ is_key key k
needs_key view (Insert own row) key k write is = absurd write
needs_key view (Put own row) key k write is = ap (λ (x : Key). is_key x k) (same_Some own key is)
needs_key view (Remove own) key k write is = ap (λ (x : Key). is_key x k) (same_Some own key is)
needs_key view (RemoveIf own column value) key k write is = absurd write
needs_key view (Find pred locking) key k write is = absurd write

not_before_itself : (key : Key) → comes_before key key ≡ true → ⊥
not_before_itself key h = cc (ap is_lt (tied_itself key_cmp_total key), h)

-- ---- one write

-- what was pending is, and a key that isn't this one keeps its version
pub pending_other : (view : View) (who : Who) (act : Act) (key k : Key) → IsWrite act → written_key act ≡ Some key → is_key key k ≡ false → (written who act view).pending k ≡ view.pending k
pending_other view who act key k write is apart =
    ap (λ (b : Bool). cond b (Some (record { who = who; row = row_left act })) (view.pending k)) (needs_key view act key k write is ∙ apart)

pending_own : (view : View) (who : Who) (act : Act) → IsWrite act → IsWritten (written who act view) who act
pending_own view who act write key is =
    ap (λ (b : Bool). cond b (Some (record { who = who; row = row_left act })) (view.pending key)) (needs_key view act key key write is ∙ is_key-same key)

-- ---- two writes of one statement are of two keys

-- no write that precedes another is of its key on its shard
pub precedes_apart : (one other : Action) (a b : Key) → Precedes one other → written_key one.act ≡ Some a → written_key other.act ≡ Some b → one.shard ≡ other.shard → a ≡ b → ⊥
precedes_apart one other a b (inl less) ka lb shards same = omega (arith, less, shards)
precedes_apart one other a b (inr it) ka lb shards same = not_before_itself b (subst (λ (x : Key). comes_before x b ≡ true) same (it.1 a b ka lb))

-- of two writes the one that stands before the other
pub ordered_at : (writes : List Action) (m n : ℕ) (one other : Action) → AllPairs Precedes writes → m < n → slice_get writes m ≡ Some one → slice_get writes n ≡ Some other → Precedes one other
ordered_at writes m n one other pairs below at_one at_other =
    subst (λ (x : Action). Precedes x other) (get_or_from_slice_get writes m one other at_one)
    (subst (λ (y : Action). Precedes (get_or writes m other) y) (get_or_from_slice_get writes n other other at_other) (pairs m n other below (slice_get_within writes n other at_other)))

-- ---- the shards

-- a write that was done before stands after another one
stands_on : (old new : Shards) (who : Who) (action one : Action) (key own : Key) → IsDone old new who action.shard action.act Done → IsWrite action.act → written_key action.act ≡ Some own → written_key one.act ≡ Some key
    → (one.shard ≡ action.shard → is_key own key ≡ false) → (old one.shard).pending key ≡ Some (record { who = who; row = row_left one.act }) → (one.shard ≡ action.shard) ⊎ (one.shard ≢ action.shard)
    → (new one.shard).pending key ≡ Some (record { who = who; row = row_left one.act })
stands_on old new who action one key own acts write own_is key_is apart stood (inl same) =
    subst (λ (s : ℕ). (old s).pending key ≡ Some (record { who = who; row = row_left one.act }) → (new s).pending key ≡ Some (record { who = who; row = row_left one.act })) (sym same)
    (λ was. ap (λ (v : View). v.pending key) acts.acted.2 ∙ pending_other acts.there who action.act own key write own_is (apart same) ∙ reached_pending (old action.shard) acts.there key acts.reached ∙ was) stood
stands_on old new who action one key own acts write own_is key_is apart stood (inr other) = ap (λ (v : View). v.pending key) (acts.others one.shard other) ∙ stood

pub key_of_write : (act : Act) → IsWrite act → (key : Key) × (written_key act ≡ Some key)
key_of_write (Insert key row) write = absurd write
key_of_write (Put key row) write = (key, refl)
key_of_write (Remove key) write = (key, refl)
key_of_write (RemoveIf key column value) write = absurd write
key_of_write (Find pred locking) write = absurd write

pub key_or_not : (a b : Key) → (is_key a b ≡ true) ⊎ (is_key a b ≡ false)
key_or_not a b = cases_Bool (is_key a b)

written_more : (catalog : Catalog) (count limit : ℕ) (p : Progress) (action : Action) (tx : TxState) (shard : ℕ) (old new : Shards) → IsMade catalog count limit p → slice_get p.writes p.done ≡ Some action
    → IsDone old new (session_of tx Main) action.shard action.act Done → HasWritten old tx p shard → HasWritten new tx (with_write p) shard
written_more catalog count limit p action tx shard old new made at acts before n one below at_one on =
    subst (λ (s : ℕ). IsWritten (new s) (session_of tx Main) one.act) on
    (elim (same_or_other n p.done) [
      | inl last ↦
          let same : action ≡ one = same_Some action one (sym at ∙ ap (slice_get p.writes) (sym last) ∙ at_one) in
          subst (λ (d : Action). IsWritten (new d.shard) (session_of tx Main) d.act) same
          (subst (λ (v : View). IsWritten v (session_of tx Main) action.act) (sym acts.acted.2) (pending_own acts.there (session_of tx Main) action.act (made.writes action (contains_at p.writes p.done action at)).write))
      | inr earlier ↦
          let less : n < p.done = omega (arith, below, earlier) in
          let stood : IsWritten (old one.shard) (session_of tx Main) one.act = subst (λ (s : ℕ). IsWritten (old s) (session_of tx Main) one.act) (sym on) (before n one less at_one on) in
          let is_write = (made.writes action (contains_at p.writes p.done action at)).write in
          let own = key_of_write action.act is_write in
          λ key key_is.
          stands_on old new (session_of tx Main) action one key own.0 acts is_write own.1 key_is
          (λ shards. elim (key_or_not own.0 key) [
            | inl same ↦
                absurd (precedes_apart one action key own.0 (ordered_at p.writes n p.done one action made.search.ordered less at_one at) key_is own.1 shards (sym (is_key-true own.0 key same)))
            | inr apart ↦ apart
          ])
          (stood key key_is) (same_or_other one.shard action.shard)
    ])

-- ---- other answers

-- no answer but `Done` changes a pending version
pending_stays : (old new : Shards) (who : Who) (action : Action) (answer : Answer) (key : Key) (s : ℕ) → IsDone old new who action.shard action.act answer → (new action.shard).pending key ≡ (old action.shard).pending key
    → (new s).pending key ≡ (old s).pending key
pending_stays old new who action answer key s acts same =
    elim (same_or_other s action.shard) [
      | inl at ↦ subst (λ (n : ℕ). (new n).pending key ≡ (old n).pending key) (sym at) same
      | inr other ↦ ap (λ (v : View). v.pending key) (acts.others s other)
    ]

read_stays : (old new : Shards) (tx : TxState) (p : Progress) (action : Action) (answer : Answer) (shard : ℕ) → ((key : Key) → (new action.shard).pending key ≡ (old action.shard).pending key) → IsDone old new (session_of tx Main) action.shard action.act answer
    → HasWritten old tx p shard → HasWritten new tx p shard
read_stays old new tx p action answer shard same acts before n one below at on key key_is = pending_stays old new (session_of tx Main) action answer key shard acts (same key) ∙ before n one below at on key key_is

-- more writes are known behind those that are done
pub front_at : (xs ys : List Action) (n : ℕ) (one : Action) → n < length xs → slice_get (xs ++ ys) n ≡ Some one → slice_get xs n ≡ Some one
front_at xs ys n one within at =
    slice_get-get_or xs n one within ∙ ap (λ (d : Action). Some d) (sym (get_or_append_left xs ys one n within) ∙ get_or_from_slice_get (xs ++ ys) n one one at)

more_known : (seen : Shards) (tx : TxState) (p : Progress) (rows : List (Key × Values)) (on shard : ℕ) → p.done ≤ length p.writes → HasWritten seen tx p shard → HasWritten seen tx (with_rows on rows p) shard
more_known seen tx p rows on shard within before n one below at = before n one below (front_at p.writes (writes_of p.search.change on rows) n one (omega (arith, below, within)) at)

-- the transaction's main session is the same
pub same_tx : (seen : Shards) (tx new : TxState) (p : Progress) (shard : ℕ) → session_of new Main ≡ session_of tx Main → HasWritten seen tx p shard → HasWritten seen new p shard
same_tx seen tx new p shard same before n one below at on = subst (λ (w : Who). IsWritten (seen shard) w one.act) (sym same) (before n one below at on)

-- ---- the whole

pub went_written : (catalog : Catalog) (count limit : ℕ) (p new : Progress) (action : Action) (answer : Answer) (tx : TxState) (shard : ℕ) (old after : Shards) → IsMade catalog count limit p → IsDue p action
    → IsDone old after (session_of tx Main) action.shard action.act answer → Went p action limit new answer → HasWritten old tx p shard → HasWritten after tx new shard
went_written catalog count limit p new action answer tx shard old after made is_due acts (Wrote is) before =
    subst (λ (q : Progress). HasWritten after tx q shard) (sym is)
    (written_more catalog count limit p action tx shard old after made (done_writes catalog count limit p action (session_of tx Main) acts.there (after action.shard) made is_due acts.acted) acts before)
went_written catalog count limit p new action answer tx shard old after made is_due acts (Read rows is) before =
    subst (λ (q : Progress). HasWritten after tx q shard) (sym is)
    (more_known after tx p rows action.shard shard made.done (read_stays old after tx p action (Rows rows) shard (λ key. ap (λ (v : View). v.pending key) acts.acted.2 ∙ reached_pending (old action.shard) acts.there key acts.reached) acts before))
went_written catalog count limit p new action answer tx shard old after made is_due acts (Waited by key is below) before =
    subst (λ (q : Progress). HasWritten after tx q shard) (sym is) (read_stays old after tx p action (Held by key) shard (λ k. ap (λ (v : View). v.pending k) acts.acted.1 ∙ reached_pending (old action.shard) acts.there k acts.reached) acts before)
