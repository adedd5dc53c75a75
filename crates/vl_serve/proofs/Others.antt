-- What the events of other sessions leave as it is.
use Rattle.std.proofs.Common.{◌≡◌, ◌≢◌, ◌∙◌, ap, sym, refl, subst, ℕ, ◌+◌, ◌-◌, ◌<◌, ◌≤◌, inl, inr, List, [], ◌∷◌, ◌++◌, true, false, Some, length, get_or, set, Contains, arith, nat_eq, Bool}
use Rattle.std.specs.Prelude.{remove, Ok, Err, IfOk}
use Rattle.std.specs.declared.result.Result.{Result}
use Rattle.std.proofs.Math.Dec.{ltb}
use Rattle.std.proofs.lemmas.Bool.{eqb-true, eqb-false, ltb-true, ltb-false}
use Rattle.std.proofs.lemmas.List.{get_or_default, get_or-set_same, get_or-set_other}
use Rattle.std.proofs.lemmas.List.Edits.{get_or-remove_below, get_or-remove_above, length-remove}
use Rattle.std.proofs.lemmas.List.Elements.{All-contains, Contains-append_left, Contains-push}
use Rattle.std.proofs.Math.ListN.{length-set}
use Rattle.vl_sql.specs.declared.stmt.Stmt.{Stmt}
use Rattle.vl_cluster.specs.View.{View, Joins, Acted, Leaves, last_event, next_event}
use Rattle.vl_cluster.specs.declared.session.Session.{Session}
use Rattle.vl_cluster.specs.declared.what.What.{What}
use Rattle.vl_cluster.specs.declared.what.What.TheVariants.{Reply, Stray}
use Rattle.vl_serve.specs.History.{Ran, own_deeds, Deed}
use Rattle.vl_serve.specs.History.Deed.{Join, Say, Leave}
use Rattle.vl_serve.specs.Playing.{Played}
use Rattle.vl_serve.proofs.Runs.{run_more, own_more, ran_own}

-- two places with different numbers are two
apart : (joined : List Session) (i k : ℕ) (p q : Session) → i < length joined → get_or joined i p ≡ p → get_or joined k q ≡ q → q.number ≢ p.number → k ≢ i
apart joined i k p q below at_i at_k ne same =
    ne (ap (λ (s : Session). s.number) (sym at_k ∙ ap (λ n. get_or joined n q) same ∙ get_or_default joined i q p below ∙ at_i))

-- another session's place is changed
kept_by_set : (joined : List Session) (i : ℕ) (p next q : Session) → i < length joined → get_or joined i p ≡ p → q.number ≢ p.number → Contains joined q → Contains (set joined i next) q
kept_by_set joined i p next q below at_i ne h =
    let other : h.0 ≢ i = apart joined i h.0 p q below at_i h.2 ne in
    (h.0, omega (arith, length-set joined i next, h.1), get_or-set_other joined i h.0 next q other ∙ h.2)

-- another session is taken out
kept_by_remove : (joined : List Session) (i : ℕ) (p q : Session) → i < length joined → get_or joined i p ≡ p → q.number ≢ p.number → Contains joined q → Contains (remove joined i) q
kept_by_remove joined i p q below at_i ne h = split (ltb h.0 i) refl
  where
    other : h.0 ≢ i
    other = apart joined i h.0 p q below at_i h.2 ne

    split : (b : Bool) → ltb h.0 i ≡ b → Contains (remove joined i) q
    split false f =
        let le : i ≤ h.0 = ltb-false h.0 i f in
        let k : ℕ = h.0 - 1 in
        let next : k + 1 ≡ h.0 = omega (arith, other) in
        (k, omega (arith, length-remove joined i below, h.1, other), get_or-remove_above joined i q k (omega (arith, other)) below ∙ ap (λ n. get_or joined n q) next ∙ h.2)
    split true t =
        let lt : h.0 < i = ltb-true h.0 i t in
        (h.0, omega (arith, length-remove joined i below, below), get_or-remove_below joined i q h.0 lt below ∙ h.2)

pub set_here : (joined : List Session) (i : ℕ) (next : Session) → i < length joined → Contains (set joined i next) next
set_here joined i next below = (i, omega (arith, length-set joined i next), get_or-set_same joined i next next below)

-- the pass that an event gives is a joined session's, where the one that it was given is
pub acted_due : (old : View) (by : Session) (stmt : Stmt) (next : Session) (what : What) (new : View) → Acted old by stmt next what new → Contains old.joined by → Contains new.joined next
acted_due old by stmt next Stray new a h = subst (λ (v : View). Contains v.joined next) (sym a.2) (subst (λ (s : Session). Contains old.joined s) (sym a.1) h)
acted_due old by stmt next (Reply reply) new a h =
    subst (λ (l : List Session). Contains l next) (sym a.sessions.3) (set_here old.joined a.sessions.0 next a.sessions.1)

-- a joined session is told Stray at the last event number alone
pub stray_last : (old : View) (by : Session) (stmt : Stmt) (next : Session) (what : What) (new : View) → Acted old by stmt next what new → Contains old.joined by → what ≡ Stray → new.at ≡ last_event
stray_last old by stmt next Stray new a h e =
    ap (λ (v : View). v.at) a.2 ∙ elim a.0 [ inl none ↦ absurd (none h) | inr last ↦ last ]
stray_last old by stmt next (Reply reply) new a h e = absurd (cc)

next_last : (at : ℕ) → at ≡ last_event → next_event at ≡ last_event
next_last at e = ap next_event e

joins_last : (old : View) (pass : Session) (new : View) → Joins old pass new → old.at ≡ last_event → new.at ≡ last_event
joins_last old pass new j e = j.at ∙ next_last old.at e

acted_last : (old : View) (by : Session) (stmt : Stmt) (next : Session) (what : What) (new : View) → Acted old by stmt next what new → old.at ≡ last_event → new.at ≡ last_event
acted_last old by stmt next Stray new a e = ap (λ (v : View). v.at) a.2 ∙ e
acted_last old by stmt next (Reply reply) new a e = absurd (omega (arith, a.before_last, e))

pub leaves_last : (old : View) (pass : Session) (new : View) → Leaves old pass new → old.at ≡ last_event → new.at ≡ last_event
leaves_last old pass new l e = same (nat_eq new.at last_event) refl
  where
    same : (b : Bool) → nat_eq new.at last_event ≡ b → new.at ≡ last_event
    same true t = eqb-true new.at last_event t
    same false f =
        let other : new.at ≢ last_event = eqb-false new.at last_event f in
        let gone : Contains old.joined pass → ⊥ = λ h. other ((l.joined h).0 ∙ next_last old.at e) in
        absurd (other (ap (λ (v : View). v.at) (l.stray gone) ∙ e))

pub played_more : (old mid new : View) → Played old mid → Played mid new → Played old new
played_more old mid new a b = record {
  events = a.events ++ b.events;
  run = run_more old mid new a.events b.events a.run b.run;
  others = own_more a.events b.events ∙ ap (λ v. v ++ own_deeds b.events) a.others ∙ b.others;
  kept = λ pass h. b.kept pass (a.kept pass h);
  last = λ e. b.last (a.last e);
}

-- what follows other sessions' events
pub ran_behind : (old mid new : View) (deeds : List Deed) → Played old mid → Ran (Some mid) deeds (Some new) → Ran (Some old) deeds (Some new)
ran_behind old mid new deeds a r = (
  a.events ++ r.0,
  run_more old mid new a.events r.0 a.run r.1,
  own_more a.events r.0 ∙ ap (λ v. v ++ own_deeds r.0) a.others ∙ r.2,
)

-- a session that isn't the one which says a statement
said_kept : (old : View) (by : Session) (stmt : Stmt) (next : Session) (what : What) (new : View) (pass : Session) → Acted old by stmt next what new → pass.number ≢ by.number → Contains old.joined pass → Contains new.joined pass
said_kept old by stmt next Stray new pass a ne h = subst (λ (v : View). Contains v.joined pass) (sym a.2) h
said_kept old by stmt next (Reply reply) new pass a ne h =
    subst (λ (l : List Session). Contains l pass) (sym a.sessions.3) (kept_by_set old.joined a.sessions.0 by next pass a.sessions.1 a.sessions.2 ne h)

said_number : (old : View) (by : Session) (stmt : Stmt) (next : Session) (what : What) (new : View) → Acted old by stmt next what new → next.number ≡ by.number
said_number old by stmt next Stray new a = ap (λ (s : Session). s.number) a.1
said_number old by stmt next (Reply reply) new a = ap (λ (s : Session). s.number) a.next_is

-- another session joins, says a statement and leaves
pub played_one : (a b c d : View) (pass : Session) (stmt : Stmt) (next : Session) (what : What) → Joins a pass b → Acted b pass stmt next what c → Leaves c next d → Played a d
played_one a b c d pass stmt next what j s l = record {
  events = record { own = false; deed = Join pass } ∷ record { own = false; deed = Say pass stmt what next } ∷ record { own = false; deed = Leave next } ∷ [];
  run = (b, j, (c, s, (d, l, refl)));
  others = refl;
  kept = λ q h. keeps q h;
  last = λ e. leaves_last c next d l (acted_last b pass stmt next what c s (joins_last a pass b j e));
}
  where
    keeps : (q : Session) → Contains a.joined q → Contains d.joined q
    keeps q h =
        let fresh : q.number ≢ pass.number = All-contains (λ session. session.number ≢ pass.number) a.joined q j.fresh h in
        let joined : Contains b.joined q = subst (λ (v : List Session). Contains v q) (sym j.sessions) (Contains-append_left a.joined (pass ∷ []) q h) in
        let here : Contains b.joined pass = subst (λ (v : List Session). Contains v pass) (sym j.sessions) (Contains-push a.joined pass) in
        let said : Contains c.joined q = said_kept b pass stmt next what c q s fresh joined in
        let left = (l.joined (acted_due b pass stmt next what c s here)).1 in
        let other : q.number ≢ next.number = λ e. fresh (e ∙ said_number b pass stmt next what c s) in
        subst (λ (v : List Session). Contains v q) (sym left.3) (kept_by_remove c.joined left.0 next q left.1 left.2 other said)

-- the connection's own calls, behind what other sessions did
pub join_ran : {E : Type 0} (a b c : View) (r : Result Session E) → Played a b → IfOk r (λ pass. Joins b pass c) → IfOk r (λ pass. Ran (Some a) (Join pass ∷ []) (Some c))
join_ran a b c (Ok pass) p j = ran_behind a b c (Join pass ∷ []) p (ran_own b c (Join pass) j)
join_ran a b c (Err e) p j = tt

pub join_due : {E : Type 0} (b c : View) (r : Result Session E) → IfOk r (λ pass. Joins b pass c) → IfOk r (λ pass. Contains c.joined pass)
join_due b c (Ok pass) j = subst (λ (v : List Session). Contains v pass) (sym j.sessions) (Contains-push b.joined pass)
join_due b c (Err e) j = tt

pub act_ran : (a b c : View) (by : Session) (stmt : Stmt) (next : Session) (what : What) → Played a b → Acted b by stmt next what c → Ran (Some a) (Say by stmt what next ∷ []) (Some c)
act_ran a b c by stmt next what p s = ran_behind a b c (Say by stmt what next ∷ []) p (ran_own b c (Say by stmt what next) s)

pub leave_ran : (a b c : View) (by : Session) → Played a b → Leaves b by c → Ran (Some a) (Leave by ∷ []) (Some c)
leave_ran a b c by p l = ran_behind a b c (Leave by ∷ []) p (ran_own b c (Leave by) l)
