-- The sessions that a transaction lists stay those that it has in the port.
use Rattle.std.proofs.Common.{◌≡◌, ◌≢◌, ◌<◌, ◌↔◌, ◌⊎◌, inl, inr, ⊎_elim, ◌==◌, ℕ, zero, suc, Bool, true, false, cond, ◌&&◌, ◌||◌, Option, List, [], ◌∷◌, ◌++◌, length, get_or, Contains, sym, ap, subst, refl, ◌∙◌, arith, Some, None}
use Rattle.std.specs.List.{AllPairs}
use Rattle.std.specs.Option.{is_some}
use Rattle.std.proofs.lemmas.Bool.{and_from, cases_Bool, eqb-true, eqb-false}
use Rattle.std.proofs.lemmas.List.Elements.{Contains-append_left, Contains-append_cases, Contains-push, Contains-get_or}
use Rattle.std.proofs.lemmas.List.Quantifiers.{all_pairs_push}
use Rattle.vl_values.specs.declared.group.Group.{Group}
use Rattle.vl_values.specs.declared.group.Group.TheVariants.{Pre, Main, Post}
use Rattle.vl_port.specs.declared.act.Act.{Act}
use Rattle.vl_values.specs.declared.lost_why.LostWhy.{LostWhy}
use Rattle.vl_port.specs.declared.answer.Answer.{Answer}
use Rattle.vl_port.specs.declared.answer.Answer.TheVariants.{Done, Unchanged, Rows, Found, Held, Lost, Device, Limit, Memory}
use Rattle.vl_port.specs.declared.carried.Carried.{Carried}
use Rattle.vl_port.specs.declared.carried.Carried.TheVariants.{Passed, LostBefore, LostAfter}
use Rattle.vl_port.specs.declared.fate.Fate.TheVariants as fates
use Rattle.vl_port.specs.declared.opened.Opened.{Opened}
use Rattle.vl_port.specs.declared.tx_state.TxState.{TxState}
use Rattle.vl_port.specs.declared.who.Who.{Who}
use Rattle.vl_port.specs.View.{View, has_group, is_who}
use Rattle.vl_port.specs.Acting.{Acted}
use Rattle.vl_port.specs.Asking.{HasAnswered, IsListed, reader_in, with_change}
use Rattle.vl_port.specs.Calls.{HasActed, PortView}
use Rattle.vl_port.specs.Carrying.{ActsThere, Carries, Does, Uses}
use Rattle.vl_port.specs.Life.{cut, loss_of, marked, opened, opened_at, Reaches}
use Rattle.vl_port.specs.Serving.{Shards}
use Rattle.vl_port.specs.Transaction.{listed, session_of, with_session, Enlists, IsIn}
use Rattle.vl_port.proofs.Lives.{lost_there, marked_there, none_some, opened_some}
use Rattle.vl_port.proofs.Naming.{is_who-true, is_who-same, no_both}
use Rattle.vl_port.proofs.Strangers.{in_stranger, reached_sessions}

-- ---- groups

some_group : (a b : Group) → Some a ≡ Some b → a ≡ b
some_group a b h = cc

-- the sessions of two groups are two
pub groups_apart : (tx : TxState) (a b : Group) → session_of tx a ≡ session_of tx b → a ≡ b
groups_apart tx a b h = some_group a b (ap (λ (w : Who). w.group) h)

same_or_apart : (tx : TxState) (a b : Group) → (a ≡ b) ⊎ (is_who (session_of tx a) (session_of tx b) ≡ false)
same_or_apart tx a b =
    ⊎_elim (λ same. inl (groups_apart tx a b (is_who-true (session_of tx a) (session_of tx b) same))) (λ apart. inr apart) (cases_Bool (is_who (session_of tx a) (session_of tx b)))

pub apart_groups : (tx : TxState) (a b : Group) → is_who (session_of tx a) (session_of tx b) ≡ false → a ≢ b
apart_groups tx a b apart same =
    no_both (is_who (session_of tx a) (session_of tx b)) (subst (λ (g : Group). is_who (session_of tx a) (session_of tx g) ≡ true) same (is_who-same (session_of tx a))) apart

-- ---- what a list shows

-- the group's list is this one
pub listed_own : (tx : TxState) (group : Group) (shards : List ℕ) → listed (with_session tx group shards) group ≡ shards
listed_own tx Pre shards = refl
listed_own tx Main shards = refl
listed_own tx Post shards = refl

-- and those of other groups stay
pub listed_other : (tx : TxState) (group other : Group) (shards : List ℕ) → other ≢ group → listed (with_session tx group shards) other ≡ listed tx other
listed_other tx Pre Pre shards apart = absurd (apart refl)
listed_other tx Pre Main shards apart = refl
listed_other tx Pre Post shards apart = refl
listed_other tx Main Pre shards apart = refl
listed_other tx Main Main shards apart = absurd (apart refl)
listed_other tx Main Post shards apart = refl
listed_other tx Post Pre shards apart = refl
listed_other tx Post Main shards apart = refl
listed_other tx Post Post shards apart = absurd (apart refl)

-- the sessions are named as before
pub session_kept : (tx : TxState) (group other : Group) (shards : List ℕ) → session_of (with_session tx group shards) other ≡ session_of tx other
session_kept tx Pre other shards = refl
session_kept tx Main other shards = refl
session_kept tx Post other shards = refl

pub session_enlisted : (tx new : TxState) (group other : Group) (shard : ℕ) (added : Bool) → Enlists tx group shard added new → session_of new other ≡ session_of tx other
session_enlisted tx new group other shard true h = ap (λ (t : TxState). session_of t other) h.1 ∙ session_kept tx group other (listed tx group ++ shard ∷ [])
session_enlisted tx new group other shard false h = ap (λ (t : TxState). session_of t other) h.1

-- the group's list afterwards
pub listed_enlisted : (tx new : TxState) (group : Group) (shard : ℕ) → Enlists tx group shard true new → listed new group ≡ listed tx group ++ shard ∷ []
listed_enlisted tx new group shard h = ap (λ (t : TxState). listed t group) h.1 ∙ listed_own tx group (listed tx group ++ shard ∷ [])

other_enlisted : (tx new : TxState) (group other : Group) (shard : ℕ) (added : Bool) → Enlists tx group shard added new → other ≢ group → listed new other ≡ listed tx other
other_enlisted tx new group other shard true h apart = ap (λ (t : TxState). listed t other) h.1 ∙ listed_other tx group other (listed tx group ++ shard ∷ []) apart
other_enlisted tx new group other shard false h apart = ap (λ (t : TxState). listed t other) h.1

-- the shard is listed afterwards
pub is_listed : (tx new : TxState) (group : Group) (shard : ℕ) (added : Bool) → Enlists tx group shard added new → Contains (listed new group) shard
is_listed tx new group shard true h = subst (λ (xs : List ℕ). Contains xs shard) (sym (listed_enlisted tx new group shard h)) (Contains-push (listed tx group) shard)
is_listed tx new group shard false h = subst (λ (t : TxState). Contains (listed t group) shard) (sym h.1) h.0

only_one : (x y : ℕ) → Contains (x ∷ []) y → y ≡ x
only_one x y (zero, within, is) = sym is
only_one x y (suc k, within, is) = absurd (omega (arith, within))

-- what was listed is, and nothing else but the shard
still_listed : (tx new : TxState) (group : Group) (shard : ℕ) (added : Bool) (other : ℕ) → Enlists tx group shard added new → Contains (listed tx group) other → Contains (listed new group) other
still_listed tx new group shard true other h here = subst (λ (xs : List ℕ). Contains xs other) (sym (listed_enlisted tx new group shard h)) (Contains-append_left (listed tx group) (shard ∷ []) other here)
still_listed tx new group shard false other h here = subst (λ (t : TxState). Contains (listed t group) other) (sym h.1) here

was_listed : (tx new : TxState) (group : Group) (shard : ℕ) (added : Bool) (other : ℕ) → Enlists tx group shard added new → Contains (listed new group) other → Contains (listed tx group) other ⊎ (other ≡ shard)
was_listed tx new group shard true other h here =
    ⊎_elim (λ before. inl before) (λ last. inr (only_one shard other last))
    (Contains-append_cases (listed tx group) (shard ∷ []) other (subst (λ (xs : List ℕ). Contains xs other) (listed_enlisted tx new group shard h) here))
was_listed tx new group shard false other h here = inl (subst (λ (t : TxState). Contains (listed t group) other) h.1 here)

-- ---- what a shard shows

-- a session is open afterwards that was, or that the act opened
abbrev opens : Who → Who → Option Opened → Bool
opens who other o = (has_group who.group && is_who who other) || is_some o

or_own : (b a : Bool) → b ≡ true → (b || a) ≡ true
or_own true a h = refl
or_own false a h = absurd (cc)

or_kept : (b a : Bool) → a ≡ true → (b || a) ≡ true
or_kept true a h = refl
or_kept false a h = h

or_none : (b a : Bool) → b ≡ false → (b || a) ≡ a
or_none true a h = absurd (cc)
or_none false a h = refl

or_twice : (b a : Bool) → (b || (b || a)) ≡ (b || a)
or_twice true a = refl
or_twice false a = refl

some_opened : (b : Bool) (incarnation : ℕ) (o : Option Opened) → is_some (cond b (opened_at incarnation o) o) ≡ (b || is_some o)
some_opened true incarnation o = opened_some incarnation o
some_opened false incarnation o = refl

some_marked : (b : Bool) (o : Option Opened) → is_some (cond b (marked fates.Cut o) o) ≡ is_some o
some_marked true o = marked_there fates.Cut o
some_marked false o = refl

opens_opened : (view : View) (who other : Who) → is_some ((opened who view).sessions other) ≡ opens who other (view.sessions other)
opens_opened view who other = some_opened (has_group who.group && is_who who other) view.incarnation (view.sessions other)

opens_cut : (view : View) (who other : Who) → is_some ((cut who view).sessions other) ≡ opens who other (view.sessions other)
opens_cut view who other = some_marked (has_group who.group && is_who who other) ((opened who view).sessions other) ∙ opens_opened view who other

-- every answer but Memory leaves the sessions that the act's opening left
opens_acted : (old new : View) (who : Who) (act : Act) (answer : Answer) (other : Who) → Acted old who act answer new → (answer ≡ Memory → ⊥) → is_some (new.sessions other) ≡ opens who other (old.sessions other)
opens_acted old new who act Done other h given = ap (λ (v : View). is_some (v.sessions other)) h.2 ∙ opens_opened old who other
opens_acted old new who act Unchanged other h given = ap (λ (v : View). is_some (v.sessions other)) h.2 ∙ opens_opened old who other
opens_acted old new who act (Rows rows) other h given = ap (λ (v : View). is_some (v.sessions other)) h.2 ∙ opens_opened old who other
opens_acted old new who act (Found key row) other h given = ap (λ (v : View). is_some (v.sessions other)) h.2 ∙ opens_opened old who other
opens_acted old new who act (Held by key) other h given = ap (λ (v : View). is_some (v.sessions other)) h.1 ∙ opens_opened old who other
opens_acted old new who act (Lost why) other h given = absurd h
opens_acted old new who act Device other h given = absurd h
opens_acted old new who act (Limit what count) other h given = ap (λ (v : View). is_some (v.sessions other)) h.2 ∙ opens_opened old who other
opens_acted old new who act Memory other h given = absurd (given refl)

own_of : (a b : Bool) → (a && b) ≡ true → b ≡ true
own_of true b h = h
own_of false b h = absurd (cc)

-- a lost session was open
opens_lost : (view : View) (who other : Who) (loss : LostWhy) → loss_of view who ≡ Some loss → is_some (view.sessions other) ≡ opens who other (view.sessions other)
opens_lost view who other loss lost =
    ⊎_elim
    (λ own. let same = is_who-true who other (own_of (has_group who.group) (is_who who other) own) in
    let is = subst (λ (w : Who). is_some (view.sessions w) ≡ true) same (lost_there view who loss lost) in
    is ∙ sym (or_kept (has_group who.group && is_who who other) (is_some (view.sessions other)) is))
    (λ apart. sym (or_none (has_group who.group && is_who who other) (is_some (view.sessions other)) apart))
    (cases_Bool (has_group who.group && is_who who other))

module _ (old new : View) (who : Who) (act : Act) (other : Who) where
  opens_there : (answer : Answer) → (answer ≡ Memory → ⊥) → ActsThere old who act answer new → is_some (new.sessions other) ≡ opens who other (old.sessions other)
  opens_there answer given h = opens_acted h.0 new who act answer other h.2 given ∙ ap (opens who other) (reached_sessions old h.0 other h.1)

  opens_does : (answer : Answer) → (answer ≡ Memory → ⊥) → Does old who act answer new → is_some (new.sessions other) ≡ opens who other (old.sessions other)
  opens_does Done given h = opens_there Done given h
  opens_does Unchanged given h = opens_there Unchanged given h
  opens_does (Rows rows) given h = opens_there (Rows rows) given h
  opens_does (Found key row) given h = opens_there (Found key row) given h
  opens_does (Held by key) given h = opens_there (Held by key) given h
  opens_does (Limit what count) given h = opens_there (Limit what count) given h
  opens_does (Lost why) given h = absurd h
  opens_does Device given h = ap (λ (v : View). is_some (v.sessions other)) h.1 ∙ opens_cut old who other
  opens_does Memory given h = absurd (given refl)

  opens_used : (loss : Option LostWhy) (answer : Answer) → (answer ≡ Memory → ⊥) → loss_of old who ≡ loss → Uses loss old who act answer new → is_some (new.sessions other) ≡ opens who other (old.sessions other)
  opens_used None answer given is h = opens_does answer given h
  opens_used (Some loss) answer given is h = ap (λ (v : View). is_some (v.sessions other)) h.1 ∙ opens_lost old who other loss is

  same_memory : (new ≡ old) ⊎ Reaches old new → new.sessions other ≡ old.sessions other
  same_memory (inl same) = ap (λ (v : View). v.sessions other) same
  same_memory (inr reaches) = reached_sessions old new other reaches

  same_used : (loss : Option LostWhy) → Uses loss old who act Memory new → new.sessions other ≡ old.sessions other
  same_used None h = same_memory h
  same_used (Some loss) h = ap (λ (v : View). v.sessions other) h.1

pub opens_carried : (way : Carried) (old new : View) (who : Who) (act : Act) (answer : Answer) (other : Who) → Carries way old who act answer new → (answer ≡ Memory → ⊥) → is_some (new.sessions other) ≡ opens who other (old.sessions other)
opens_carried Passed old new who act answer other h given = opens_used old new who act other (loss_of old who) answer given refl h
opens_carried LostBefore old new who act answer other (inl full) given = absurd (given full.0)
opens_carried LostBefore old new who act answer other (inr off) given = ap (λ (v : View). is_some (v.sessions other)) off.1 ∙ opens_cut old who other
opens_carried LostAfter old new who act answer other (inl full) given = absurd (given full.0)
opens_carried LostAfter old new who act answer other (inr lost) given =
    ap (λ (v : View). is_some (v.sessions other)) lost.4.1 ∙ opens_cut lost.1 who other
    ∙ ap (λ (b : Bool). (has_group who.group && is_who who other) || b) (opens_used old lost.1 who act other (loss_of old who) lost.0 lost.2 refl lost.3)
    ∙ or_twice (has_group who.group && is_who who other) (is_some (old.sessions other))

not_lost : (why : LostWhy) → Memory ≡ Lost why → ⊥
not_lost why h = cc

-- want of memory leaves the sessions
pub memory_carried : (way : Carried) (old new : View) (who : Who) (act : Act) (other : Who) → Carries way old who act Memory new → new.sessions other ≡ old.sessions other
memory_carried Passed old new who act other h = same_used old new who act other (loss_of old who) h
memory_carried LostBefore old new who act other (inl full) = ap (λ (v : View). v.sessions other) full.1
memory_carried LostBefore old new who act other (inr off) = absurd (not_lost _ off.0)
memory_carried LostAfter old new who act other (inl full) = same_used old new who act other (loss_of old who) full.1
memory_carried LostAfter old new who act other (inr lost) = absurd (not_lost _ lost.4.0)

-- a list stays one of different shards
not_there : (xs : List ℕ) (x : ℕ) → (Contains xs x → ⊥) → (k d : ℕ) → k < length xs → get_or xs k d ≢ x
not_there xs x absent k d within is = absent (subst (Contains xs) is (Contains-get_or xs k d within))

once_more : (tx new : TxState) (group : Group) (shard : ℕ) (added : Bool) → Enlists tx group shard added new → AllPairs (λ one other. one ≢ other) (listed tx group) → AllPairs (λ one other. one ≢ other) (listed new group)
once_more tx new group shard true h once =
    subst (AllPairs (λ one other. one ≢ other)) (sym (listed_enlisted tx new group shard h)) (all_pairs_push (λ one other. one ≢ other) (listed tx group) shard once (not_there (listed tx group) shard h.0))
once_more tx new group shard false h once = subst (λ (t : TxState). AllPairs (λ one other. one ≢ other) (listed t group)) (sym h.1) once

in_empty : (s : ℕ) → Contains [] s → ⊥
in_empty s (k, within, is) = omega (arith, within)

none_twice : AllPairs {X = ℕ} (λ one other. one ≢ other) []
none_twice i j d first within = absurd (omega (arith, within))

-- the list that stood before is put back
session_back : (tx : TxState) (group : Group) (shards : List ℕ) → with_session (with_session tx group shards) group (listed tx group) ≡ tx
session_back tx Pre shards = refl
session_back tx Main shards = refl
session_back tx Post shards = refl

-- ---- shards that didn't change

pub all_same : (old seen : Shards) (shard : ℕ) → seen shard ≡ old shard → ((other : ℕ) → other ≢ shard → seen other ≡ old other) → (s : ℕ) → seen s ≡ old s
all_same old seen shard same others s =
    ⊎_elim (λ at. subst (λ (n : ℕ). seen n ≡ old n) (sym (eqb-true s shard at)) same) (λ apart. others s (eqb-false s shard apart)) (cases_Bool (s == shard))

pub in_same : (tx : TxState) (count : ℕ) (old seen : Shards) → IsIn tx count old → ((s : ℕ) → seen s ≡ old s) → IsIn tx count seen
in_same tx count old seen isin same = record {
  known = λ g s within. subst (λ (v : View). Contains (listed tx g) s ↔ (is_some (v.sessions (session_of tx g)) ≡ true)) (sym (same s)) (isin.known g s within);
  within = isin.within;
  once = isin.once;
}

-- ---- before and after

module _ (tx new : TxState) (group : Group) (shard : ℕ) (added : Bool) (enlists : Enlists tx group shard added new) where
  listed_after : (g : Group) (s : ℕ) → Contains (listed tx g) s → Contains (listed new g) s
  listed_after g s here =
      ⊎_elim (λ same. subst (λ (x : Group). Contains (listed tx x) s → Contains (listed new x) s) same (still_listed tx new group shard added s enlists) here)
      (λ apart. subst (λ (xs : List ℕ). Contains xs s) (sym (other_enlisted tx new group g shard added enlists (λ back. apart_groups tx group g apart (sym back)))) here)
      (same_or_apart tx group g)

  listed_before : (g : Group) (s : ℕ) → Contains (listed new g) s → Contains (listed tx g) s ⊎ ((g ≡ group) × (s ≡ shard))
  listed_before g s here =
      ⊎_elim (λ same.
      ⊎_elim (λ before. inl (subst (λ (x : Group). Contains (listed tx x) s) same before)) (λ last. inr (sym same, last))
      (was_listed tx new group shard added s enlists (subst (λ (x : Group). Contains (listed new x) s) (sym same) here)))
      (λ apart. inl (subst (λ (xs : List ℕ). Contains xs s) (other_enlisted tx new group g shard added enlists (λ back. apart_groups tx group g apart (sym back))) here))
      (same_or_apart tx group g)

  listed_once : ((g : Group) → AllPairs (λ one other. one ≢ other) (listed tx g)) → (g : Group) → AllPairs (λ one other. one ≢ other) (listed new g)
  listed_once once g =
      ⊎_elim (λ same. subst (λ (x : Group). AllPairs (λ one other. one ≢ other) (listed new x)) same (once_more tx new group shard added enlists (once group)))
      (λ apart. subst (AllPairs (λ one other. one ≢ other)) (sym (other_enlisted tx new group g shard added enlists (λ back. apart_groups tx group g apart (sym back)))) (once g))
      (same_or_apart tx group g)

module _ (tx : TxState) (old new : PortView) (group : Group) (shard : ℕ) (act : Act) (answer : Answer) (acted : HasActed old (session_of tx group) shard act answer new) (given : answer ≡ Memory → ⊥) where
  opens_here : (who : Who) → is_some ((new.shards shard).sessions who) ≡ opens (session_of tx group) who ((old.shards shard).sessions who)
  opens_here who = opens_carried new.way (old.shards shard) (new.shards shard) (session_of tx group) act answer who acted.acted given

  open_own : is_some ((new.shards shard).sessions (session_of tx group)) ≡ true
  open_own = opens_here (session_of tx group) ∙ or_own (is_who (session_of tx group) (session_of tx group)) (is_some ((old.shards shard).sessions (session_of tx group))) (is_who-same (session_of tx group))

  open_after_there : (who : Who) → is_some ((old.shards shard).sessions who) ≡ true → is_some ((new.shards shard).sessions who) ≡ true
  open_after_there who was = opens_here who ∙ or_kept (is_who (session_of tx group) who) (is_some ((old.shards shard).sessions who)) was

  open_after : (who : Who) (s : ℕ) → is_some ((old.shards s).sessions who) ≡ true → is_some ((new.shards s).sessions who) ≡ true
  open_after who s was =
      ⊎_elim (λ same. subst (λ (n : ℕ). is_some ((old.shards n).sessions who) ≡ true → is_some ((new.shards n).sessions who) ≡ true) (sym (eqb-true s shard same)) (open_after_there who) was)
      (λ apart. subst (λ (v : View). is_some (v.sessions who) ≡ true) (sym (acted.others s (eqb-false s shard apart))) was)
      (cases_Bool (s == shard))

  open_before_there : (g : Group) → is_some ((new.shards shard).sessions (session_of tx g)) ≡ true → is_some ((old.shards shard).sessions (session_of tx g)) ≡ true ⊎ (g ≡ group)
  open_before_there g is =
      ⊎_elim (λ same. inr (sym same))
      (λ apart. inl (sym (or_none (is_who (session_of tx group) (session_of tx g)) (is_some ((old.shards shard).sessions (session_of tx g))) apart) ∙ sym (opens_here (session_of tx g)) ∙ is))
      (same_or_apart tx group g)

  open_before : (g : Group) (s : ℕ) → is_some ((new.shards s).sessions (session_of tx g)) ≡ true → is_some ((old.shards s).sessions (session_of tx g)) ≡ true ⊎ ((g ≡ group) × (s ≡ shard))
  open_before g s is =
      ⊎_elim (λ same.
      let at : s ≡ shard = eqb-true s shard same in
      ⊎_elim (λ was. inl (subst (λ (n : ℕ). is_some ((old.shards n).sessions (session_of tx g)) ≡ true) (sym at) was)) (λ own. inr (own, at))
      (open_before_there g (subst (λ (n : ℕ). is_some ((new.shards n).sessions (session_of tx g)) ≡ true) at is)))
      (λ apart. inl (subst (λ (v : View). is_some (v.sessions (session_of tx g)) ≡ true) (acted.others s (eqb-false s shard apart)) is))
      (cases_Bool (s == shard))

-- ---- the transaction

-- an act by a session that was listed first
pub in_acted : (tx new : TxState) (count : ℕ) (old port : PortView) (group : Group) (shard : ℕ) (added : Bool) (act : Act) (answer : Answer) → IsIn tx count old.shards → Enlists tx group shard added new → shard < count
    → HasActed old (session_of tx group) shard act answer port → (answer ≡ Memory → ⊥) → IsIn new count port.shards
in_acted tx new count old port group shard added act answer isin enlists below acted given = record {
  known = λ g s within. (
    λ here. subst (λ (w : Who). is_some ((port.shards s).sessions w) ≡ true) (sym (session_enlisted tx new group g shard added enlists))
        (⊎_elim (λ before. open_after tx old port group shard act answer acted given (session_of tx g) s ((isin.known g s within).0 before))
        (λ own. subst (λ (n : ℕ). is_some ((port.shards n).sessions (session_of tx g)) ≡ true) (sym own.1)
        (subst (λ (x : Group). is_some ((port.shards shard).sessions (session_of tx x)) ≡ true) (sym own.0) (open_own tx old port group shard act answer acted given)))
        (listed_before tx new group shard added enlists g s here)),
    λ is.
        ⊎_elim (λ was. listed_after tx new group shard added enlists g s ((isin.known g s within).1 was))
        (λ own. subst (λ (n : ℕ). Contains (listed new g) n) (sym own.1) (subst (λ (x : Group). Contains (listed new x) shard) (sym own.0) (is_listed tx new group shard added enlists)))
        (open_before tx old port group shard act answer acted given g s (subst (λ (w : Who). is_some ((port.shards s).sessions w) ≡ true) (session_enlisted tx new group g shard added enlists) is)),
  );
  within = λ g s here. ⊎_elim (λ before. isin.within g s before) (λ own. subst (λ (n : ℕ). n < count) (sym own.1) below) (listed_before tx new group shard added enlists g s here);
  once = listed_once tx new group shard added enlists isin.once;
}

-- where memory was refused
pub in_refused : (tx : TxState) (count : ℕ) (old port : PortView) (who : Who) (shard : ℕ) (act : Act) → IsIn tx count old.shards → HasActed old who shard act Memory port → IsIn tx count port.shards
in_refused tx count old port who shard act isin acted =
    in_stranger tx count old.shards port.shards isin
    (λ s g.
    ⊎_elim
    (λ same.
    subst (λ (n : ℕ). (port.shards n).sessions (session_of tx g) ≡ (old.shards n).sessions (session_of tx g)) (sym (eqb-true s shard same))
    (memory_carried port.way (old.shards shard) (port.shards shard) who act (session_of tx g) acted.acted))
    (λ apart. ap (λ (v : View). v.sessions (session_of tx g)) (acted.others s (eqb-false s shard apart))) (cases_Bool (s == shard)))

-- a write that is counted changes no list
listed_changed : (tx : TxState) (group : Group) → listed (with_change tx) group ≡ listed tx group
listed_changed tx Pre = refl
listed_changed tx Main = refl
listed_changed tx Post = refl

pub in_changed : (tx : TxState) (count : ℕ) (shards : Shards) → IsIn tx count shards → IsIn (with_change tx) count shards
in_changed tx count shards isin = record {
  known = λ g s within. subst (λ (xs : List ℕ). Contains xs s ↔ (is_some ((shards s).sessions (session_of tx g)) ≡ true)) (sym (listed_changed tx g)) (isin.known g s within);
  within = λ g s here. isin.within g s (subst (λ (xs : List ℕ). Contains xs s) (listed_changed tx g) here);
  once = λ g. subst (AllPairs (λ one other. one ≢ other)) (sym (listed_changed tx g)) (isin.once g);
}

module _ (tx new : TxState) (count : ℕ) (old port : PortView) (group : Group) (shard : ℕ) (act : Act) (isin : IsIn tx count old.shards) (below : shard < count) where
  in_listed : (answer : Answer) → HasActed old (session_of tx group) shard act answer port → (answer ≡ Memory → ⊥) → IsListed tx group shard new → IsIn new count port.shards
  in_listed answer acted given listing = in_acted tx new count old port group shard listing.0 act answer isin listing.1 below acted given

  -- an act that was answered
  pub in_answered : (answer : Answer) → HasAnswered old tx group shard act answer new port → IsIn new count port.shards
  in_answered Memory h = subst (λ (t : TxState). IsIn t count port.shards) (sym h.lists) (in_refused tx count old port (session_of tx group) shard act isin h.acts)
  in_answered Done h =
      subst (λ (t : TxState). IsIn t count port.shards) (sym h.lists.2)
      (in_changed h.lists.0 count port.shards (in_acted tx h.lists.0 count old port group shard h.lists.1.0 act Done isin h.lists.1.1 below h.acts (λ e. cc)))
  in_answered Unchanged h = in_listed Unchanged h.acts (λ e. cc) h.lists
  in_answered (Rows rows) h = in_listed (Rows rows) h.acts (λ e. cc) h.lists
  in_answered (Found key row) h = in_listed (Found key row) h.acts (λ e. cc) h.lists
  in_answered (Held by key) h = in_listed (Held by key) h.acts (λ e. cc) h.lists
  in_answered (Lost why) h = in_listed (Lost why) h.acts (λ e. cc) h.lists
  in_answered Device h = in_listed Device h.acts (λ e. cc) h.lists
  in_answered (Limit what number) h = in_listed (Limit what number) h.acts (λ e. cc) h.lists

-- ---- a read without locks

abbrev Knows : TxState → ℕ → Shards → Shards → Type 0
Knows tx count old new = (s : ℕ) (g : Group) → s < count → is_some ((new s).sessions (session_of tx g)) ≡ is_some ((old s).sessions (session_of tx g))

in_known : (tx : TxState) (count : ℕ) (old new : Shards) → IsIn tx count old → Knows tx count old new → IsIn tx count new
in_known tx count old new isin same = record {
  known = λ g s within. subst (λ (b : Bool). Contains (listed tx g) s ↔ (b ≡ true)) (sym (same s g within)) (isin.known g s within);
  within = isin.within;
  once = isin.once;
}

module _ (tx : TxState) (count : ℕ) (old port : PortView) (group : Group) (shard : ℕ) (act : Act) (isin : IsIn tx count old.shards) (below : shard < count) where
  -- the reader's session is one that was open
  reader_known : (there : Bool) → (there ≡ true → Contains (listed tx group) shard) → (answer : Answer) → (answer ≡ Memory → ⊥) → HasActed old (reader_in tx group there) shard act answer port → (g : Group)
      → is_some ((port.shards shard).sessions (session_of tx g)) ≡ is_some ((old.shards shard).sessions (session_of tx g))
  reader_known true here answer given acted g =
      opens_carried port.way (old.shards shard) (port.shards shard) (session_of tx group) act answer (session_of tx g) acted.acted given
      ∙ ⊎_elim
      (λ same.
      let is = subst (λ (x : Group). is_some ((old.shards shard).sessions (session_of tx x)) ≡ true) same ((isin.known group shard below).0 (here refl)) in
      or_kept (is_who (session_of tx group) (session_of tx g)) (is_some ((old.shards shard).sessions (session_of tx g))) is ∙ sym is)
      (λ apart. or_none (is_who (session_of tx group) (session_of tx g)) (is_some ((old.shards shard).sessions (session_of tx g))) apart) (same_or_apart tx group g)
  reader_known false here answer given acted g = opens_carried port.way (old.shards shard) (port.shards shard) (reader_in tx group false) act answer (session_of tx g) acted.acted given

  in_read : (there : Bool) → (there ≡ true → Contains (listed tx group) shard) → (answer : Answer) → (answer ≡ Memory → ⊥) → HasActed old (reader_in tx group there) shard act answer port → IsIn tx count port.shards
  in_read there here answer given acted =
      in_known tx count old.shards port.shards isin
      (λ s g within.
      ⊎_elim
      (λ same.
      subst (λ (n : ℕ). is_some ((port.shards n).sessions (session_of tx g)) ≡ is_some ((old.shards n).sessions (session_of tx g))) (sym (eqb-true s shard same)) (reader_known there here answer given acted g))
      (λ apart. ap (λ (v : View). is_some (v.sessions (session_of tx g))) (acted.others s (eqb-false s shard apart))) (cases_Bool (s == shard)))

  pub in_looked : (there : Bool) → (there ≡ true → Contains (listed tx group) shard) → (answer : Answer) → HasActed old (reader_in tx group there) shard act answer port → IsIn tx count port.shards
  in_looked there here Memory acted = in_refused tx count old port (reader_in tx group there) shard act isin acted
  in_looked there here Done acted = in_read there here Done (λ e. cc) acted
  in_looked there here Unchanged acted = in_read there here Unchanged (λ e. cc) acted
  in_looked there here (Rows rows) acted = in_read there here (Rows rows) (λ e. cc) acted
  in_looked there here (Found key row) acted = in_read there here (Found key row) (λ e. cc) acted
  in_looked there here (Held by key) acted = in_read there here (Held by key) (λ e. cc) acted
  in_looked there here (Lost why) acted = in_read there here (Lost why) (λ e. cc) acted
  in_looked there here Device acted = in_read there here Device (λ e. cc) acted
  in_looked there here (Limit what number) acted = in_read there here (Limit what number) (λ e. cc) acted

-- ---- lists

-- a strike takes the session off again that was listed last
pub struck_back : (tx new back : TxState) (group : Group) (shard : ℕ) → Enlists tx group shard true new → ((front : List ℕ) (last : ℕ) → listed new group ≡ front ++ last ∷ [] → back ≡ with_session new group front) → back ≡ tx
struck_back tx new back group shard enlists struck =
    struck (listed tx group) shard (listed_enlisted tx new group shard enlists) ∙ ap (λ (t : TxState). with_session t group (listed tx group)) enlists.1 ∙ session_back tx group (listed tx group ++ shard ∷ [])

-- a transaction without sessions, of which no shard knows any
pub in_new : (tx : TxState) (count : ℕ) (seen : Shards) → ((group : Group) → listed tx group ≡ []) → ((group : Group) (shard : ℕ) → shard < count → (seen shard).sessions (session_of tx group) ≡ None) → IsIn tx count seen
in_new tx count seen empty unknown = record {
  known = λ g s within. (
    λ here. absurd (in_empty s (subst (λ (xs : List ℕ). Contains xs s) (empty g) here)),
    λ is. absurd (no_both (is_some ((seen s).sessions (session_of tx g))) is (ap is_some (unknown g s within))),
  );
  within = λ g s here. absurd (in_empty s (subst (λ (xs : List ℕ). Contains xs s) (empty g) here));
  once = λ g. subst (AllPairs (λ one other. one ≢ other)) (sym (empty g)) none_twice;
}
