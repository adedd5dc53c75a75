-- What the steps and commits of a client leave of all that stand on the stage.
use Rattle.std.proofs.Common.{◌≡◌, ◌≢◌, ◌<◌, ◌≤◌, ◌↔◌, ◌-◌, ◌==◌, ◌⊎◌, ⊎_elim, inl, inr, ℕ, zero, suc, cond, Bool, true, false, Option, Some, None, List, [], ◌∷◌, ◌++◌, length, set, length-set, length-append, get_or, get_or-set_same, get_or-set_other, Contains, arith, refl, sym, ap, subst, ◌∙◌}
use Rattle.std.specs.Prelude.{◌&&◌, IfSome, slice_get}
use Rattle.std.specs.List.{AllPairs}
use Rattle.std.specs.Option.{is_some}
use Rattle.std.proofs.lemmas.Bool.{cases_Bool, eqb-true, eqb-false}
use Rattle.std.proofs.lemmas.List.{get_or_append_left, get_or_read}
use Rattle.std.proofs.lemmas.List.Elements.{Contains-append_left, Contains-push, Contains-push_cases}
use Rattle.std.proofs.lemmas.Option.{slice_get_within}
use Rattle.std.proofs.Math.Seq.{get_or-append_seam}
use Rattle.vl_values.specs.declared.group.Group.{Group}
use Rattle.vl_values.specs.declared.group.Group.TheVariants.{Pre, Main, Post}
use Rattle.vl_catalog.specs.declared.catalog.Catalog.{Catalog}
use Rattle.vl_catalog.specs.Place.{shard_count}
use Rattle.vl_rules.specs.Order.{Checked}
use Rattle.vl_values.specs.declared.lost_why.LostWhy.{LostWhy}
use Rattle.vl_port.specs.declared.carried.Carried.{Carried}
use Rattle.vl_port.specs.declared.carried.Carried.TheVariants.{Passed, LostBefore, LostAfter}
use Rattle.vl_port.specs.declared.committed.Committed.{Committed}
use Rattle.vl_port.specs.declared.committed.Committed.TheVariants as outcome
use Rattle.vl_port.specs.declared.fate.Fate.TheVariants as fates
use Rattle.vl_port.specs.declared.opened.Opened.{Opened}
use Rattle.vl_port.specs.declared.tx_state.TxState.{TxState}
use Rattle.vl_port.specs.declared.who.Who.{Who}
use Rattle.vl_port.specs.Calls.{HasClosed, HasCommitted, PortView}
use Rattle.vl_port.specs.Carrying.{Closes, CommitCarries, CommitUses, Commits}
use Rattle.vl_port.specs.Life.{downed_in, loss_of, lost_as, marked}
use Rattle.vl_port.specs.declared.limits.Limits.{Limits}
use Rattle.vl_lookup.specs.Stepping.{IsSameTxButClaims}
use Rattle.vl_port.specs.Serving.{Serves, Shards}
use Rattle.vl_port.specs.Transaction.{IsIn, last_tx, listed, session_of, with_session}
use Rattle.vl_port.specs.View.{View, has_group, is_who}
use Rattle.vl_port.proofs.Enlisting.{in_new}
use Rattle.vl_port.proofs.Naming.{is_who-same, is_who-true, no_both}
use Rattle.vl_port.proofs.Lives.{marked_there}
use Rattle.vl_port.proofs.Strangers.{apart_by_tx, in_stranger, stranger_closed, stranger_commit}
use Rattle.vl_shard.specs.Calls.{Drops}
use Rattle.vl_statement.specs.declared.program_told.ProgramTold.{ProgramTold}
use Rattle.vl_select.specs.Answering.{GoesOn}
use Rattle.vl_exec.specs.Making.{IsMade}
use Rattle.vl_exec.specs.declared.program.Program.{Program}
use Rattle.vl_exec.specs.Staging.{AreClients, Client, IsClient, IsNumbered}

-- ---- the last of a list

some_same : (x y : ℕ) → Some x ≡ Some y → x ≡ y
some_same x y h = cc

last_at : (xs : List ℕ) (n y : ℕ) → length xs ≡ suc n → slice_get xs n ≡ Some y → (front : List ℕ) × (xs ≡ front ++ y ∷ [])
last_at [] n y long h = absurd (omega (arith, long))
last_at (x ∷ []) zero y long h = ([], ap (λ (z : ℕ). z ∷ []) (some_same x y h))
last_at (x ∷ z ∷ xs) zero y long h = absurd (omega (arith, long))
last_at (x ∷ xs) (suc n) y long h =
    let rest = last_at xs n y (omega (arith, long)) h in
    (x ∷ rest.0, ap (λ (l : List ℕ). x ∷ l) rest.1)

pub last_splits : (xs : List ℕ) (y : ℕ) → slice_get xs (length xs - 1) ≡ Some y → (front : List ℕ) × (xs ≡ front ++ y ∷ [])
last_splits xs y h = last_at xs (length xs - 1) y (omega (arith, slice_get_within xs (length xs - 1) y h)) h

front_once : (front : List ℕ) (last : ℕ) → AllPairs (λ one other. one ≢ other) (front ++ last ∷ []) → AllPairs (λ one other. one ≢ other) front
front_once front last once i j d first within same =
    once i j d first (omega (arith, within, length-append front (last ∷ [])))
    (get_or_append_left front (last ∷ []) d i (omega (arith, first, within)) ∙ same ∙ sym (get_or_append_left front (last ∷ []) d j within))

not_twice : (front : List ℕ) (last : ℕ) → AllPairs (λ one other. one ≢ other) (front ++ last ∷ []) → Contains front last → ⊥
not_twice front last once (k, within, is) =
    once k (length front) last within (omega (arith, length-append front (last ∷ [])))
    (get_or_append_left front (last ∷ []) last k within ∙ is ∙ sym (get_or-append_seam front last [] last))

-- ---- a session that is committed and struck off

some_group : (a b : Group) → Some a ≡ Some b → a ≡ b
some_group a b h = cc

group_is : (a b : Group) → (a ≡ b) ⊎ (a ≢ b)
group_is Pre Pre = inl refl
group_is Pre Main = inr (λ h. cc (h))
group_is Pre Post = inr (λ h. cc (h))
group_is Main Pre = inr (λ h. cc (h))
group_is Main Main = inl refl
group_is Main Post = inr (λ h. cc (h))
group_is Post Pre = inr (λ h. cc (h))
group_is Post Main = inr (λ h. cc (h))
group_is Post Post = inl refl

session_apart : (tx : TxState) (own group : Group) → group ≢ own → is_who (session_of tx own) (session_of tx group) ≡ false
session_apart tx own group apart =
    ⊎_elim (λ same. absurd (apart (sym (some_group own group (ap (λ (w : Who). w.group) (is_who-true (session_of tx own) (session_of tx group) same)))))) (λ other. other) (cases_Bool (is_who (session_of tx own) (session_of tx group)))

-- the transaction with another list of a group
number_with : (tx : TxState) (own : Group) (xs : List ℕ) → (with_session tx own xs).number ≡ tx.number
number_with tx Pre xs = refl
number_with tx Main xs = refl
number_with tx Post xs = refl

limits_with : (tx : TxState) (own : Group) (xs : List ℕ) → (with_session tx own xs).limits ≡ tx.limits
limits_with tx Pre xs = refl
limits_with tx Main xs = refl
limits_with tx Post xs = refl

session_with : (tx : TxState) (own : Group) (xs : List ℕ) (group : Group) → session_of (with_session tx own xs) group ≡ session_of tx group
session_with tx Pre xs group = refl
session_with tx Main xs group = refl
session_with tx Post xs group = refl

own_with : (tx : TxState) (own : Group) (xs : List ℕ) → listed (with_session tx own xs) own ≡ xs
own_with tx Pre xs = refl
own_with tx Main xs = refl
own_with tx Post xs = refl

other_with : (tx : TxState) (own : Group) (xs : List ℕ) (group : Group) → group ≢ own → listed (with_session tx own xs) group ≡ listed tx group
other_with tx Pre xs Pre apart = absurd (apart refl)
other_with tx Pre xs Main apart = refl
other_with tx Pre xs Post apart = refl
other_with tx Main xs Pre apart = refl
other_with tx Main xs Main apart = absurd (apart refl)
other_with tx Main xs Post apart = refl
other_with tx Post xs Pre apart = refl
other_with tx Post xs Main apart = refl
other_with tx Post xs Post apart = absurd (apart refl)

closed_ends : (old new : View) (who : Who) → Closes old who new → new.sessions who ≡ None
closed_ends old new who h = ap (λ (v : View). v.sessions who) h ∙ ap (λ (b : Bool). cond b None (old.sessions who)) (is_who-same who)

commits_end : (old new : View) (who : Who) (told : Committed) → Commits old who told new → new.sessions who ≡ None
commits_end old new who outcome.Done h = closed_ends _ new who h
commits_end old new who (outcome.Lost why) h = absurd h
commits_end old new who outcome.Device h = closed_ends (downed_in who old) new who h.1

uses_end : (loss : Option LostWhy) (old new : View) (who : Who) (told : Committed) → CommitUses loss old who told new → new.sessions who ≡ None
uses_end None old new who told h = commits_end old new who told h
uses_end (Some why) old new who told h = closed_ends old new who h.1

carried_ends : (way : Carried) (old new : View) (who : Who) (told : Committed) → CommitCarries way old who told new → new.sessions who ≡ None
carried_ends Passed old new who told h = uses_end (loss_of old who) old new who told h
carried_ends LostBefore old new who told h = closed_ends old new who h.1
carried_ends LostAfter old new who told h = uses_end (loss_of old who) old new who h.1.0 h.1.1

-- a call that ended a session on its shard
pub record HasEnded (old new : Shards) (who : Who) (shard : ℕ) : Type 0 where
  pub gone : (new shard).sessions who ≡ None
  pub stay : (other : Who) → is_who who other ≡ false → (new shard).sessions other ≡ (old shard).sessions other
  pub others : (other : ℕ) → other ≢ shard → new other ≡ old other

pub committed_ends : {port after : PortView} {who : Who} {shard : ℕ} {told : Committed} → HasCommitted port who shard told after → HasEnded port.shards after.shards who shard
committed_ends {port} {after} {who} {shard} {told} h = record {
  gone = carried_ends after.way (port.shards shard) (after.shards shard) who told h.settled;
  stay = λ other apart. stranger_commit after.way (port.shards shard) (after.shards shard) who other told apart h.settled;
  others = h.others;
}

pub close_ends : {port after : PortView} {who : Who} {shard : ℕ} → HasClosed port who shard after → HasEnded port.shards after.shards who shard
close_ends {port} {after} {who} {shard} h = record {
  gone = closed_ends (port.shards shard) (after.shards shard) who h.closed;
  stay = λ other apart. stranger_closed (port.shards shard) (after.shards shard) who other apart h.closed;
  others = h.others;
}

module _ (tx : TxState) (own : Group) (count : ℕ) (old new : Shards) (front : List ℕ) (shard : ℕ) (isin : IsIn tx count old) (ends : listed tx own ≡ front ++ shard ∷ []) (did : HasEnded old new (session_of tx own) shard) where
  session_stays : (group : Group) (s : ℕ) → group ≢ own → (new s).sessions (session_of tx group) ≡ (old s).sessions (session_of tx group)
  session_stays group s apart =
      ⊎_elim (λ same. subst (λ (n : ℕ). (new n).sessions (session_of tx group) ≡ (old n).sessions (session_of tx group)) (sym (eqb-true s shard same))
      (did.stay (session_of tx group) (session_apart tx own group apart)))
      (λ other. ap (λ (v : View). v.sessions (session_of tx group)) (did.others s (eqb-false s shard other)))
      (cases_Bool (s == shard))

  once : AllPairs (λ one other. one ≢ other) (front ++ shard ∷ [])
  once = subst (λ (xs : List ℕ). AllPairs (λ one other. one ≢ other) xs) ends (isin.once own)

  was_listed : (s : ℕ) → Contains front s → Contains (listed tx own) s
  was_listed s here = subst (λ (xs : List ℕ). Contains xs s) (sym ends) (Contains-append_left front (shard ∷ []) s here)

  still_listed : (s : ℕ) → s ≢ shard → Contains (listed tx own) s → Contains front s
  still_listed s apart here = ⊎_elim (λ it. it) (λ last. absurd (apart (sym last))) (Contains-push_cases front shard s (subst (λ (xs : List ℕ). Contains xs s) ends here))

  own_there : Contains front shard ↔ (is_some ((new shard).sessions (session_of tx own)) ≡ true)
  own_there = (
    λ here. absurd (not_twice front shard once here),
    λ is. absurd (no_both (is_some ((new shard).sessions (session_of tx own))) is (ap is_some did.gone)),
  )

  own_elsewhere : (s : ℕ) → s < count → s ≢ shard → Contains front s ↔ (is_some ((new s).sessions (session_of tx own)) ≡ true)
  own_elsewhere s within apart = (
    λ here. subst (λ (v : View). is_some (v.sessions (session_of tx own)) ≡ true) (sym (did.others s apart)) ((isin.known own s within).0 (was_listed s here)),
    λ is. still_listed s apart ((isin.known own s within).1 (subst (λ (v : View). is_some (v.sessions (session_of tx own)) ≡ true) (did.others s apart) is)),
  )

  known_own : (s : ℕ) → s < count → Contains front s ↔ (is_some ((new s).sessions (session_of tx own)) ≡ true)
  known_own s within =
      ⊎_elim (λ same. subst (λ (n : ℕ). Contains front n ↔ (is_some ((new n).sessions (session_of tx own)) ≡ true)) (sym (eqb-true s shard same)) own_there)
      (λ apart. own_elsewhere s within (eqb-false s shard apart))
      (cases_Bool (s == shard))

  known_other : (group : Group) (s : ℕ) → group ≢ own → s < count → Contains (listed tx group) s ↔ (is_some ((new s).sessions (session_of tx group)) ≡ true)
  known_other group s apart within = subst (λ (o : Option Opened). Contains (listed tx group) s ↔ (is_some o ≡ true)) (sym (session_stays group s apart)) (isin.known group s within)

  known_by : (group : Group) (s : ℕ) → s < count → (group ≡ own) ⊎ (group ≢ own) → Contains (listed (with_session tx own front) group) s ↔ (is_some ((new s).sessions (session_of tx group)) ≡ true)
  known_by group s within (inl same) =
      subst (λ (g : Group). Contains (listed (with_session tx own front) g) s ↔ (is_some ((new s).sessions (session_of tx g)) ≡ true)) (sym same)
      (subst (λ (xs : List ℕ). Contains xs s ↔ (is_some ((new s).sessions (session_of tx own)) ≡ true)) (sym (own_with tx own front)) (known_own s within))
  known_by group s within (inr apart) = subst (λ (xs : List ℕ). Contains xs s ↔ (is_some ((new s).sessions (session_of tx group)) ≡ true)) (sym (other_with tx own front group apart)) (known_other group s apart within)

  within_by : (group : Group) (s : ℕ) → (group ≡ own) ⊎ (group ≢ own) → Contains (listed (with_session tx own front) group) s → s < count
  within_by group s (inl same) here =
      isin.within own s (was_listed s (subst (λ (xs : List ℕ). Contains xs s) (own_with tx own front) (subst (λ (g : Group). Contains (listed (with_session tx own front) g) s) same here)))
  within_by group s (inr apart) here = isin.within group s (subst (λ (xs : List ℕ). Contains xs s) (other_with tx own front group apart) here)

  once_by : (group : Group) → (group ≡ own) ⊎ (group ≢ own) → AllPairs (λ one other. one ≢ other) (listed (with_session tx own front) group)
  once_by group (inl same) =
      subst (λ (g : Group). AllPairs (λ one other. one ≢ other) (listed (with_session tx own front) g)) (sym same)
      (subst (λ (xs : List ℕ). AllPairs (λ one other. one ≢ other) xs) (sym (own_with tx own front)) (front_once front shard once))
  once_by group (inr apart) = subst (λ (xs : List ℕ). AllPairs (λ one other. one ≢ other) xs) (sym (other_with tx own front group apart)) (isin.once group)

  pub in_ended : IsIn (with_session tx own front) count new
  in_ended = record {
    known = λ group s within. subst (λ (w : Who). Contains (listed (with_session tx own front) group) s ↔ (is_some ((new s).sessions w) ≡ true)) (sym (session_with tx own front group)) (known_by group s within (group_is group own));
    within = λ group s here. within_by group s (group_is group own) here;
    once = λ group. once_by group (group_is group own);
  }

pub client_ended : (catalog : Catalog) (old new : Shards) (client : Client) (own : Group) (back : TxState) (who : Who) (shard : ℕ) → IsClient catalog old client → slice_get (listed client.0 own) (length (listed client.0 own) - 1) ≡ Some shard
    → ((front : List ℕ) (last : ℕ) → listed client.0 own ≡ front ++ last ∷ [] → back ≡ with_session client.0 own front)
    → who ≡ session_of client.0 own → HasEnded old new who shard → IsClient catalog new (back, client.1)
client_ended catalog old new client own back who shard is last struck by_own did =
    let split = last_splits (listed client.0 own) shard last in
    subst (λ (t : TxState). IsClient catalog new (t, client.1)) (sym (struck split.0 shard split.1))
    (record {
      number = subst (λ (n : ℕ). n ≤ last_tx) (sym (number_with client.0 own split.0)) is.number;
      sessions = in_ended client.0 own (shard_count catalog.rings) old new split.0 shard is.sessions split.1 (subst (λ (w : Who). HasEnded old new w shard) by_own did);
      made = subst (λ (l : Limits). IfSome client.1 (λ program. IsMade catalog (shard_count catalog.rings) l.tries program)) (sym (limits_with client.0 own split.0)) is.made;
    })

pub struck_number : (tx back : TxState) (own : Group) (shard : ℕ) → slice_get (listed tx own) (length (listed tx own) - 1) ≡ Some shard → ((front : List ℕ) (last : ℕ) → listed tx own ≡ front ++ last ∷ [] → back ≡ with_session tx own front) → back.number ≡ tx.number
struck_number tx back own shard last struck =
    let split = last_splits (listed tx own) shard last in
    ap (λ (t : TxState). t.number) (struck split.0 shard split.1) ∙ number_with tx own split.0

-- the last that is listed is a session of the port, on one of its shards
pub last_within : (catalog : Catalog) (count : ℕ) (seen : Shards) (client : Client) (own : Group) (shard : ℕ) → IsClient catalog seen client → Serves catalog count seen → slice_get (listed client.0 own) (length (listed client.0 own) - 1) ≡ Some shard → shard < count
last_within catalog count seen client own shard is serves last =
    let split = last_splits (listed client.0 own) shard last in
    subst (λ (n : ℕ). shard < n) (sym serves.shards) (is.sessions.within own shard (subst (λ (xs : List ℕ). Contains xs shard) (sym split.1) (Contains-push split.0 shard)))

pub foreign_ended : (old new : Shards) (tx : TxState) (own : Group) (by : Who) (shard : ℕ) → by ≡ session_of tx own → HasEnded old new by shard → (s : ℕ) (who : Who) → who.tx ≢ tx.number → (new s).sessions who ≡ (old s).sessions who
foreign_ended old new tx own by shard by_own did s who apart =
    ⊎_elim (λ same. subst (λ (n : ℕ). (new n).sessions who ≡ (old n).sessions who) (sym (eqb-true s shard same))
    (did.stay who (apart_by_tx by who (λ equal. apart (sym equal ∙ ap (λ (w : Who). w.tx) by_own)))))
    (λ other. ap (λ (v : View). v.sessions who) (did.others s (eqb-false s shard other)))
    (cases_Bool (s == shard))

-- ---- all clients

pub nobody : (catalog : Catalog) (count : ℕ) (seen : Shards) → Checked catalog → Serves catalog count seen → ((shard : ℕ) (who : Who) → shard < count → (seen shard).sessions who ≡ None) → AreClients catalog count seen []
nobody catalog count seen checked serves empty = record {
  checked = checked;
  serves = serves;
  each = λ n any within. absurd (omega (arith, within));
  free = λ shard who within later. empty shard who (subst (λ (n : ℕ). shard < n) (sym serves.shards) within);
}

each_pushed : (P : ℕ → Client → Type 0) (clients : List Client) (more : Client) → ((n : ℕ) (any : Client) → n < length clients → P n (get_or clients n any)) → P (length clients) more
    → (n : ℕ) (any : Client) → n < length (clients ++ more ∷ []) → P n (get_or (clients ++ more ∷ []) n any)
each_pushed P [] more each last zero any within = last
each_pushed P [] more each last (suc n) any within = absurd (omega (arith, within))
each_pushed P (x ∷ clients) more each last zero any within = each 0 any (omega arith)
each_pushed P (x ∷ clients) more each last (suc n) any within = each_pushed (λ k. P (suc k)) clients more (λ k d below. each (suc k) d (omega (arith, below))) last n any (omega (arith, within))

-- a new one stands behind the others, without sessions and without a program
pub joined : (catalog : Catalog) (count : ℕ) (seen : Shards) (clients : List Client) (tx : TxState) → AreClients catalog count seen clients → tx.number ≡ length clients → tx.number ≤ last_tx → ((group : Group) → listed tx group ≡ [])
    → AreClients catalog count seen (clients ++ (tx, None) ∷ [])
joined catalog count seen clients tx are number low empty = record {
  checked = are.checked;
  serves = are.serves;
  each = each_pushed (IsNumbered catalog seen) clients (tx, None) are.each (
    number,
    record {
      number = low;
      sessions = in_new tx (shard_count catalog.rings) seen empty (λ group shard within. are.free shard (session_of tx group) within (omega (arith, number)));
      made = tt;
    },
  );
  free = λ shard who within later. are.free shard who within (omega (arith, later, length-append clients ((tx, None) ∷ [])));
}

client_stays : (catalog : Catalog) (old new : Shards) (client : Client) → IsClient catalog old client → ((shard : ℕ) (who : Who) → who.tx ≡ client.0.number → (new shard).sessions who ≡ (old shard).sessions who) → IsClient catalog new client
client_stays catalog old new client is same = record {
  number = is.number;
  sessions = in_stranger client.0 (shard_count catalog.rings) old new is.sessions (λ shard group. same shard (session_of client.0 group) refl);
  made = is.made;
}

module _ (catalog : Catalog) (count count_new : ℕ) (old new : Shards) (clients : List Client) (n : ℕ) (client next : Client) (are : AreClients catalog count old clients) (below : n < length clients) (read : client ≡ get_or clients n client) where
  pub client_at : IsNumbered catalog old n client
  client_at = subst (λ (c : Client). IsNumbered catalog old n c) (sym read) (are.each n client below)

  module _ (serves : Serves catalog count_new new) (is : IsClient catalog new next) (number : next.0.number ≡ client.0.number)
      (foreign : (shard : ℕ) (who : Who) → who.tx ≢ client.0.number → (new shard).sessions who ≡ (old shard).sessions who) where
    numbered : next.0.number ≡ n
    numbered = number ∙ client_at.0

    other_stays : (k : ℕ) (other : Client) → k ≢ n → IsNumbered catalog old k other → IsNumbered catalog new k other
    other_stays k other apart was = (was.0, client_stays catalog old new other was.1 (λ shard who own. foreign shard who (λ same. apart (sym was.0 ∙ sym own ∙ same ∙ client_at.0))))

    each_turned : (k : ℕ) (any : Client) → k < length (set clients n next) → IsNumbered catalog new k (get_or (set clients n next) k any)
    each_turned k any within =
        ⊎_elim (λ same. subst (λ (i : ℕ). IsNumbered catalog new i (get_or (set clients n next) i any)) (sym (eqb-true k n same))
        (subst (λ (c : Client). IsNumbered catalog new n c) (sym (get_or-set_same clients n next any below)) (numbered, is)))
        (λ apart. subst (λ (c : Client). IsNumbered catalog new k c) (sym (get_or-set_other clients n k next any (eqb-false k n apart)))
        (other_stays k (get_or clients k any) (eqb-false k n apart) (are.each k any (omega (arith, within, length-set clients n next)))))
        (cases_Bool (k == n))

    -- a client's turn, with what it did on the shards
    pub turned : AreClients catalog count_new new (set clients n next)
    turned = record {
      checked = are.checked;
      serves = serves;
      each = each_turned;
      free = λ shard who within later.
          let past : length clients ≤ who.tx = omega (arith, later, length-set clients n next) in
          foreign shard who (λ same. omega (arith, same, past, below, client_at.0)) ∙ are.free shard who within past;
    }

-- the client's next program
pub program_started : (catalog : Catalog) (seen : Shards) (client : Client) (program : Program) → IsClient catalog seen client → ((limit : ℕ) → 1 ≤ limit → IsMade catalog (shard_count catalog.rings) limit program) → 1 ≤ client.0.limits.tries → IsClient catalog seen (client.0, Some program)
program_started catalog seen client program is made least = record { number = is.number; sessions = is.sessions; made = made client.0.limits.tries least }

-- a new transaction lists nothing
pub new_lists : (tx : TxState) → tx.pre ≡ [] → tx.main ≡ [] → tx.post ≡ [] → (group : Group) → listed tx group ≡ []
new_lists tx pre main post Pre = pre
new_lists tx pre main post Main = main
new_lists tx pre main post Post = post

-- a place that is read twice
pub same_read : (clients : List Client) (n : ℕ) (one other : Client) → n < length clients → one ≡ get_or clients n one → other ≡ get_or clients n other → one ≡ other
same_read clients n one other below first second = get_or_read clients n one below first other ∙ sym second

-- ---- a step of a client's program

pub sessions_ready : (catalog : Catalog) (count : ℕ) (seen : Shards) (client : Client) → IsClient catalog seen client → Serves catalog count seen → IsIn client.0 count seen
sessions_ready catalog count seen client is serves = subst (λ (n : ℕ). IsIn client.0 n seen) (sym serves.shards) is.sessions

pub program_ready : (catalog : Catalog) (count : ℕ) (seen : Shards) (client : Client) (program : Program) → IsClient catalog seen client → Serves catalog count seen → client.1 ≡ Some program → IsMade catalog count client.0.limits.tries program
program_ready catalog count seen client program is serves has =
    subst (λ (n : ℕ). IsMade catalog n client.0.limits.tries program) (sym serves.shards)
    (subst (λ (o : Option Program). IfSome o (λ p. IsMade catalog (shard_count catalog.rings) client.0.limits.tries p)) has is.made)

left_made : (catalog : Catalog) (count limit : ℕ) (told : ProgramTold) (program : Program) (left : Option Program) → (GoesOn told → IsMade catalog count limit program) → IfSome left (λ it. GoesOn told × (it ≡ program)) → IfSome left (λ it. IsMade catalog count limit it)
left_made catalog count limit told program None made is = tt
left_made catalog count limit told program (Some it) made is = subst (λ (p : Program). IsMade catalog count limit p) (sym is.1) (made is.0)

pub client_stepped : (catalog : Catalog) (count : ℕ) (old new : Shards) (client : Client) (tx : TxState) (told : ProgramTold) (program : Program) (left : Option Program) → IsClient catalog old client → IsSameTxButClaims client.0 tx → Serves catalog count new → IsIn tx count new
    → (GoesOn told → IsMade catalog count tx.limits.tries program) → IfSome left (λ it. GoesOn told × (it ≡ program)) → IsClient catalog new (tx, left)
client_stepped catalog count old new client tx told program left is same serves sessions made over = record {
  number = subst (λ (n : ℕ). n ≤ last_tx) (sym same.number) is.number;
  sessions = subst (λ (n : ℕ). IsIn tx n new) serves.shards sessions;
  made = left_made catalog (shard_count catalog.rings) tx.limits.tries told program left (λ well. subst (λ (n : ℕ). IsMade catalog n tx.limits.tries program) serves.shards (made well)) over;
}

-- ---- a session that is killed

-- each session is there that was there, and no other
abbrev pub AreAlike : Shards → Shards → Type 0
AreAlike old new = (shard : ℕ) (who : Who) → is_some ((new shard).sessions who) ≡ is_some ((old shard).sessions who)

lost_alike : (old new : View) (who other : Who) → new ≡ lost_as fates.Dropped who old → is_some (new.sessions other) ≡ is_some (old.sessions other)
lost_alike old new who other is = ap (λ (v : View). is_some (v.sessions other)) is ∙ chosen_alike (has_group who.group && is_who who other) (old.sessions other)
  where
    chosen_alike : (b : Bool) (o : Option Opened) → is_some (cond b (marked fates.Dropped o) o) ≡ is_some o
    chosen_alike true o = marked_there fates.Dropped o
    chosen_alike false o = refl

drops_alike : (b : Bool) (old new : View) (session : ℕ) (group : Group) (who : Who) → Drops old session group b new → is_some (new.sessions who) ≡ is_some (old.sessions who)
drops_alike true old new session group who h = lost_alike old new h.0 who h.2
drops_alike false old new session group who h = ap (λ (v : View). is_some (v.sessions who)) h.1

pub dropped_alike : (b : Bool) (old new : Shards) (shard session : ℕ) (group : Group) → Drops (old shard) session group b (new shard) → ((other : ℕ) → other ≢ shard → new other ≡ old other) → AreAlike old new
dropped_alike b old new shard session group drops others s who =
    ⊎_elim (λ same. subst (λ (n : ℕ). is_some ((new n).sessions who) ≡ is_some ((old n).sessions who)) (sym (eqb-true s shard same)) (drops_alike b (old shard) (new shard) session group who drops))
    (λ other. ap (λ (v : View). is_some (v.sessions who)) (others s (eqb-false s shard other)))
    (cases_Bool (s == shard))

none_there : (o : Option Opened) → is_some o ≡ false → o ≡ None
none_there None h = refl
none_there (Some session) h = absurd (cc (h))

client_alike : (catalog : Catalog) (old new : Shards) (client : Client) → IsClient catalog old client → AreAlike old new → IsClient catalog new client
client_alike catalog old new client is alike = record {
  number = is.number;
  sessions = record {
    known = λ group shard within. subst (λ (b : Bool). Contains (listed client.0 group) shard ↔ (b ≡ true)) (sym (alike shard (session_of client.0 group))) (is.sessions.known group shard within);
    within = is.sessions.within;
    once = is.sessions.once;
  };
  made = is.made;
}

pub clients_alike : (catalog : Catalog) (count count_new : ℕ) (old new : Shards) (clients : List Client) → AreClients catalog count old clients → Serves catalog count_new new → AreAlike old new → AreClients catalog count_new new clients
clients_alike catalog count count_new old new clients are serves alike = record {
  checked = are.checked;
  serves = serves;
  each = λ n any within. let is = are.each n any within in (is.0, client_alike catalog old new (get_or clients n any) is.1 alike);
  free = λ shard who within later. none_there ((new shard).sessions who) (alike shard who ∙ ap is_some (are.free shard who within later));
}
