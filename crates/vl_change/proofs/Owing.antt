-- The rows that were found stand, under lock, until they are written.
use Rattle.std.proofs.Common.{◌≡◌, ◌≢◌, ℕ, zero, suc, ◌+◌, ◌<◌, ◌≤◌, ◌⊎◌, inl, inr, Bool, true, false, cond, List, [], ◌∷◌, ◌++◌, length, Option, Some, None, refl, sym, ap, ◌∙◌, subst, arith}
use Rattle.std.specs.Prelude.{◌||◌, Contains, slice_get}
use Rattle.vl_values.specs.declared.group.Group.TheVariants.{Main}
use Rattle.vl_values.specs.declared.key.Key.{Key}
use Rattle.vl_values.specs.declared.pred.Pred.{Pred}
use Rattle.vl_values.specs.Keyed.{is_key}
use Rattle.vl_values.proofs.KeyOrder.{is_key-true}
use Rattle.vl_catalog.specs.declared.catalog.Catalog.{Catalog}
use Rattle.vl_port.specs.declared.act.Act.{Act}
use Rattle.vl_port.specs.declared.act.Act.TheVariants.{Find}
use Rattle.vl_port.specs.declared.answer.Answer.{Answer}
use Rattle.vl_port.specs.declared.answer.Answer.TheVariants.{Done, Rows, Held}
use Rattle.vl_port.specs.declared.change.Change.{Change}
use Rattle.vl_port.specs.declared.tx_state.TxState.{TxState}
use Rattle.vl_port.specs.declared.who.Who.{Who}
use Rattle.vl_port.specs.Acting.{taken, written}
use Rattle.vl_port.specs.Holding.{needs}
use Rattle.vl_port.specs.Life.{Reaches}
use Rattle.vl_port.specs.Reading.{is_match, IsRead}
use Rattle.vl_port.specs.Serving.{Shards}
use Rattle.vl_port.specs.Transaction.{session_of}
use Rattle.vl_port.specs.View.{View, Values, changed_to, is_who, standing, version_for}
use Rattle.vl_port.proofs.Leaving.{same_or_other}
use Rattle.vl_change.specs.declared.action.Action.{Action}
use Rattle.vl_change.specs.declared.search.Search.{Search}
use Rattle.vl_statement.specs.declared.tally.Tally.{Tally}
use Rattle.vl_statement.specs.Tallies.{counted}
use Rattle.vl_change.specs.Changes.{write_of, writes_of}
use Rattle.vl_change.specs.Effects.{AreOwed, IsOwed}
use Rattle.vl_change.specs.Making.{IsMade, IsSearch, IsWrite, written_key}
use Rattle.vl_change.specs.Progress.{Progress, has_read}
use Rattle.vl_change.proofs.Dues.{IsDue, contains_at, done_writes, rows_read}
use Rattle.vl_change.proofs.Finding.{write_from, write_is}
use Rattle.vl_change.proofs.Goings.{Read, Waited, Went, Wrote}
use Rattle.vl_change.proofs.Keeping.{read_given}
use Rattle.vl_statement.proofs.Reached.{IsDone, reached_same, still_holds}
use Rattle.vl_change.proofs.Writings.{front_at, key_of_write, key_or_not, ordered_at, pending_other, precedes_apart}

-- ---- one shard

-- a key that stays as it was, and whose lock is the session's still
pub record StaysOwn (old new : View) (who : Who) (key : Key) : Type 0 where
  pub pending : new.pending key ≡ old.pending key
  pub committed : new.committed key ≡ old.committed key
  pub holder : old.holder key ≡ Some who → new.holder key ≡ Some who

pub owed_on : (search : Search) (old new : View) (who : Who) (action : Action) → (owed : IsOwed search old who action) → StaysOwn old new who owed.key → IsOwed search new who action
owed_on search old new who action owed stays = record {
  key = owed.key;
  row = owed.row;
  is_write = owed.is_write;
  stands = ap (λ (o : Option Change). version_for who o (new.committed owed.key)) stays.pending ∙ ap (version_for who (old.pending owed.key)) stays.committed ∙ owed.stands;
  held = stays.holder owed.held;
}

taken_own : (view : View) (who : Who) (act : Act) (key : Key) → StaysOwn view (taken who act view) who key
taken_own view who act key = record { pending = refl; committed = refl; holder = λ h. still_holds (needs view act key) who (view.holder key) h }

written_own : (view : View) (who : Who) (act : Act) (own key : Key) → IsWrite act → written_key act ≡ Some own → is_key own key ≡ false → StaysOwn view (written who act view) who key
written_own view who act own key write is apart = record {
  pending = pending_other view who act own key write is apart;
  committed = refl;
  holder = λ h. still_holds (needs view act key) who (view.holder key) h;
}

-- a shard on which the session holds a key is up
abbrev pub IsUpFor : View → Who → Type 0
IsUpFor view who = (key : Key) → view.holder key ≡ Some who → view.up ≡ true

-- so it was reached as it was
from_there : (old there new : View) (who : Who) (key : Key) → IsUpFor old who → Reaches old there → old.holder key ≡ Some who → StaysOwn there new who key → StaysOwn old new who key
from_there old there new who key up reached held stays = subst (λ (v : View). StaysOwn v new who key) (reached_same old there reached (up key held)) stays

-- ---- all shards

own_on : (old new : Shards) (who : Who) (action : Action) (answer : Answer) (key : Key) (s : ℕ) → IsDone old new who action.shard action.act answer → (s ≡ action.shard → StaysOwn (old action.shard) (new action.shard) who key)
    → (s ≡ action.shard) ⊎ (s ≢ action.shard) → StaysOwn (old s) (new s) who key
own_on old new who action answer key s acts here (inl at) = subst (λ (n : ℕ). StaysOwn (old n) (new n) who key) (sym at) (here at)
own_on old new who action answer key s acts here (inr other) = record {
  pending = ap (λ (v : View). v.pending key) (acts.others s other);
  committed = ap (λ (v : View). v.committed key) (acts.others s other);
  holder = λ h. ap (λ (v : View). v.holder key) (acts.others s other) ∙ h;
}

-- the writes of a search that are still to be done are owed
abbrev pub Owe : Search → List Action → ℕ → Shards → Who → ℕ → Type 0
Owe search writes done seen who shard = (n : ℕ) (action : Action) → done ≤ n → slice_get writes n ≡ Some action → action.shard ≡ shard → IsOwed search (seen shard) who action

-- on the shard of the action itself
here : (search : Search) (seen : Shards) (who : Who) (shard : ℕ) (action : Action) → action.shard ≡ shard → IsOwed search (seen action.shard) who action → IsOwed search (seen shard) who action
here search seen who shard action on owed = subst (λ (s : ℕ). IsOwed search (seen s) who action) on owed

there : (search : Search) (seen : Shards) (who : Who) (shard : ℕ) (action : Action) → action.shard ≡ shard → IsOwed search (seen shard) who action → IsOwed search (seen action.shard) who action
there search seen who shard action on owed = subst (λ (s : ℕ). IsOwed search (seen s) who action) (sym on) owed

-- what is owed is of the write's own key
owed_key : (search : Search) (view : View) (who : Who) (action : Action) → (owed : IsOwed search view who action) → written_key action.act ≡ Some owed.key
owed_key search view who action owed = (write_is search.change action.shard (owed.key, owed.row) action owed.is_write).key_is

write_owes : (catalog : Catalog) (count : ℕ) (p : Progress) (search : Search) (action : Action) (who : Who) (shard : ℕ) (old new : Shards) → IsSearch catalog count search p.writes → IsWrite action.act → slice_get p.writes p.done ≡ Some action
    → IsUpFor (old action.shard) who → IsDone old new who action.shard action.act Done → Owe search p.writes p.done old who shard → Owe search p.writes (p.done + 1) new who shard
write_owes catalog count p search action who shard old new is write at up acts owe n other from at_other on =
    let owed = there search old who shard other on (owe n other (omega (arith, from)) at_other on) in
    let own = key_of_write action.act write in
    let key_is = owed_key search (old other.shard) who other owed in
    here search new who shard other on
    (owed_on search (old other.shard) (new other.shard) who other owed
    (own_on old new who action Done owed.key other.shard acts
    (λ same. from_there (old action.shard) acts.there (new action.shard) who owed.key up acts.reached (subst (λ (s : ℕ). (old s).holder owed.key ≡ Some who) same owed.held)
    (subst (λ (v : View). StaysOwn acts.there v who owed.key) (sym acts.acted.2)
    (written_own acts.there who action.act own.0 owed.key write own.1
    (elim (key_or_not own.0 owed.key) [
      | inl key ↦ absurd (precedes_apart action other own.0 owed.key (ordered_at p.writes p.done n action other is.ordered (omega (arith, from)) at at_other) own.1 key_is (sym same) (is_key-true own.0 owed.key key))
      | inr apart ↦ apart
    ]))))
    (same_or_other other.shard action.shard)))

-- ---- a read

or_first : (a b : Bool) → a ≡ true → (a || b) ≡ true
or_first true b h = refl
or_first false b h = cc

or_second : (a b : Bool) → b ≡ true → (a || b) ≡ true
or_second true b h = refl
or_second false b h = h

version_is : (who : Who) (o : Option Change) (committed : Option Values) → (version_for who o committed ≡ committed) ⊎ (version_for who o committed ≡ changed_to o)
version_is who None committed = inl refl
version_is who (Some change) committed = by (is_who change.who who)
  where
    by : (b : Bool) → (cond b change.row committed ≡ committed) ⊎ (cond b change.row committed ≡ change.row)
    by true = inr refl
    by false = inl refl

-- a locking read needs the key of each row that it gives
read_needs : (view : View) (who : Who) (pred : Pred) (key : Key) (row : Values) → standing view who key ≡ Some row → is_match pred key (Some row) ≡ true → needs view (Find pred true) key ≡ true
read_needs view who pred key row stands match_ =
    elim (version_is who (view.pending key) (view.committed key)) [
      | inl committed ↦ or_first (is_match pred key (view.committed key)) (is_match pred key (changed_to (view.pending key))) (ap (is_match pred key) (sym committed ∙ stands) ∙ match_)
      | inr own ↦ or_second (is_match pred key (view.committed key)) (is_match pred key (changed_to (view.pending key))) (ap (is_match pred key) (sym own ∙ stands) ∙ match_)
    ]

-- the writes of the rows that a locking read gave
found_owed : (search : Search) (view : View) (who : Who) (pred : Pred) (rows : List (Key × Values)) (shard : ℕ) (action : Action) → IsRead view who pred rows → Contains (writes_of search.change shard rows) action
    → (tally : Tally) → (action.shard ≡ shard) × IsOwed (has_read tally search) (taken who (Find pred true) view) who action
found_owed search view who pred rows shard action read among tally =
    let from = write_from search.change shard rows action among in
    let is = write_is search.change shard from.found action from.gives in
    let sound = read.sound from.found from.among in (
      is.shard_is,
      record {
        key = from.found.0;
        row = from.found.1;
        is_write = ap (λ (s : ℕ). write_of search.change s from.found) is.shard_is ∙ from.gives;
        stands = sound.0;
        held = ap (λ (b : Bool). cond b (Some who) (view.holder from.found.0)) (read_needs view who pred from.found.0 from.found.1 sound.0 sound.1);
      },
    )

-- an element of two lists one behind the other
back_at : (xs ys : List Action) (n : ℕ) (one : Action) → length xs ≤ n → slice_get (xs ++ ys) n ≡ Some one → Contains ys one
back_at [] ys n one from at = contains_at ys n one at
back_at (x ∷ xs) ys zero one from at = absurd (omega (arith, from))
back_at (x ∷ xs) ys (suc n) one from at = back_at xs ys n one (omega (arith, from)) at

before_or_behind : (n k : ℕ) → (n < k) ⊎ (k ≤ n)
before_or_behind n k = grind arith

read_owes : (catalog : Catalog) (count : ℕ) (p : Progress) (search : Search) (action : Action) (who : Who) (rows : List (Key × Values)) (shard : ℕ) (old new : Shards) → IsSearch catalog count search p.writes → action.act ≡ search.find
    → IsUpFor (old action.shard) who → IsDone old new who action.shard action.act (Rows rows) → Owe search p.writes p.done old who shard → Owe (has_read (counted search.tally rows) search) (p.writes ++ writes_of search.change action.shard rows) p.done new who shard
read_owes catalog count p search action who rows shard old new is same up acts owe n other from at_other on =
    here (has_read (counted search.tally rows) search) new who shard other on
    (elim (before_or_behind n (length p.writes)) [
      | inl within ↦
          let owed = there search old who shard other on (owe n other from (front_at p.writes (writes_of search.change action.shard rows) n other within at_other) on) in
          with_count (owed_on search (old other.shard) (new other.shard) who other owed
          (own_on old new who action (Rows rows) owed.key other.shard acts
          (λ at. from_there (old action.shard) acts.there (new action.shard) who owed.key up acts.reached (subst (λ (s : ℕ). (old s).holder owed.key ≡ Some who) at owed.held)
          (subst (λ (v : View). StaysOwn acts.there v who owed.key) (sym acts.acted.2) (taken_own acts.there who action.act owed.key)))
          (same_or_other other.shard action.shard)))
      | inr behind ↦
          let is_find = same ∙ is.find in
          let found =
          found_owed search acts.there who is.pred rows action.shard other (read_given catalog count search acts.there (new action.shard) who action.act rows p.writes is same acts.acted)
          (back_at p.writes (writes_of search.change action.shard rows) n other behind at_other) (counted search.tally rows) in
          let after : new action.shard ≡ taken who (Find is.pred true) acts.there = acts.acted.2 ∙ ap (λ (a : Act). taken who a acts.there) is_find in
          subst (λ (s : ℕ). IsOwed (has_read (counted search.tally rows) search) (new s) who other) (sym found.0) (subst (λ (v : View). IsOwed (has_read (counted search.tally rows) search) v who other) (sym after) found.1)
    ])
  where
    with_count : {view : View} → IsOwed search view who other → IsOwed (has_read (counted search.tally rows) search) view who other
    with_count owed = record { key = owed.key; row = owed.row; is_write = owed.is_write; stands = owed.stands; held = owed.held }

-- ---- the whole

try_owes : (search : Search) (writes : List Action) (done : ℕ) (action : Action) (who : Who) (answer : Answer) (shard : ℕ) (old new : Shards) → ((key : Key) → (old action.shard).holder key ≡ Some who → StaysOwn (old action.shard) (new action.shard) who key) → IsDone old new who action.shard action.act answer
    → Owe search writes done old who shard → Owe search writes done new who shard
try_owes search writes done action who answer shard old new stays acts owe n other from at on =
    let owed = there search old who shard other on (owe n other from at on) in
    here search new who shard other on
    (owed_on search (old other.shard) (new other.shard) who other owed (own_on old new who action answer owed.key other.shard acts (λ same. stays owed.key (subst (λ (s : ℕ). (old s).holder owed.key ≡ Some who) same owed.held)) (same_or_other other.shard action.shard)))

pub went_owes : (catalog : Catalog) (count limit : ℕ) (p new : Progress) (action : Action) (answer : Answer) (tx : TxState) (shard : ℕ) (old after : Shards) → IsMade catalog count limit p → IsDue p action
    → IsUpFor (old action.shard) (session_of tx Main) → IsDone old after (session_of tx Main) action.shard action.act answer → Went p action limit new answer → AreOwed old tx p shard → AreOwed after tx new shard
went_owes catalog count limit p new action answer tx shard old after made is_due up acts (Wrote is) owe =
    let at = done_writes catalog count limit p action (session_of tx Main) acts.there (after action.shard) made is_due acts.acted in
    subst (λ (q : Progress). AreOwed after tx q shard) (sym is)
    (write_owes catalog count p p.search action (session_of tx Main) shard old after made.search (made.writes action (contains_at p.writes p.done action at)).write at up acts owe)
went_owes catalog count limit p new action answer tx shard old after made is_due up acts (Read rows is) owe =
    let due = rows_read catalog count limit p action (session_of tx Main) acts.there (after action.shard) rows made is_due acts.acted in
    subst (λ (q : Progress). AreOwed after tx q shard) (sym is)
    (read_owes catalog count p p.search action (session_of tx Main) rows shard old after made.search due.same up acts owe)
went_owes catalog count limit p new action answer tx shard old after made is_due up acts (Waited by key is below) owe =
    subst (λ (q : Progress). AreOwed after tx q shard) (sym is)
    (try_owes p.search p.writes p.done action (session_of tx Main) (Held by key) shard old after
    (λ k held. from_there (old action.shard) acts.there (after action.shard) (session_of tx Main) k up acts.reached held
    (record { pending = ap (λ (v : View). v.pending k) acts.acted.1; committed = ap (λ (v : View). v.committed k) acts.acted.1; holder = λ h. ap (λ (v : View). v.holder k) acts.acted.1 ∙ h })) acts owe)
