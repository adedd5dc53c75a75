-- Which sessions are left after one of them has ended.
use Rattle.std.proofs.Common.{zero, suc, [], ◌∷◌, ◌≡◌, ◌≢◌, ℕ, ◌+◌, ◌≤◌, ◌⊎◌, inl, inr, true, List, length, Option, Some, None, refl, sym, ap, ◌∙◌, subst, arith}
use Rattle.std.specs.Prelude.{Contains, slice_get}
use Rattle.std.specs.Option.{is_some}
use Rattle.std.proofs.lemmas.Bool.{cases_Bool}
use Rattle.std.proofs.lemmas.Option.{get_or_from_slice_get, same_Some, slice_get-get_or, slice_get_within}
use Rattle.vl_port.specs.declared.tx_state.TxState.{TxState}
use Rattle.vl_port.specs.Serving.{Shards}
use Rattle.vl_port.specs.Transaction.{IsIn, listed, session_of}
use Rattle.vl_port.specs.View.{View, is_who}
use Rattle.vl_port.proofs.Enlisting.{groups_apart}
use Rattle.vl_port.proofs.Leaving.{same_or_other}
use Rattle.vl_port.proofs.Naming.{is_who-true}
use Rattle.vl_commit.specs.Sessions.{AreLeft, HasEnded, Session, sessions, start_of}
use Rattle.vl_commit.proofs.Endings.{EndsOne}
use Rattle.vl_commit.proofs.Places.{one_place, place_at, place_of}

-- ---- at first all are left

contains_at : (xs : List ℕ) (n x : ℕ) → slice_get xs n ≡ Some x → Contains xs x
contains_at xs n x at = (n, slice_get_within xs n x at, get_or_from_slice_get xs n x x at)

at_contains : (xs : List ℕ) (x : ℕ) → (among : Contains xs x) → slice_get xs among.0 ≡ Some x
at_contains xs x among = slice_get-get_or xs among.0 x among.1 ∙ ap (λ (y : ℕ). Some y) among.2

pub all_left : (tx : TxState) (count : ℕ) (seen : Shards) → IsIn tx count seen → AreLeft tx 0 count seen
all_left tx count seen isin = record {
  opened = λ n session from at.
      let p = place_of tx n session at in
      let among = contains_at (listed tx session.0) p.k session.1 p.at in
      let within = isin.within session.0 session.1 among in
      (within, (isin.known session.0 session.1 within).0 among);
  only = λ session is.
      let among = (isin.known session.0 session.1 is.0).1 is.1 in
      (start_of tx session.0 + among.0, omega arith, place_at tx session.0 among.0 session.1 (at_contains (listed tx session.0) session.1 among));
  once = λ m n session at_m at_n. one_place tx m n session isin.once at_m at_n;
}

-- ---- one of them ends

-- a session of the transaction that isn't this one is as it was
kept_or_same : (tx : TxState) (old new : Shards) (session other : Session) → EndsOne old new (session_of tx session.0) session.1
    → ((new other.1).sessions (session_of tx other.0) ≡ (old other.1).sessions (session_of tx other.0)) ⊎ ((session.0 ≡ other.0) × (session.1 ≡ other.1))
kept_or_same tx old new session other ends =
    elim (same_or_other other.1 session.1) [
      | inr apart ↦ inl (ap (λ (v : View). v.sessions (session_of tx other.0)) (ends.others other.1 apart))
      | inl at ↦ elim (cases_Bool (is_who (session_of tx session.0) (session_of tx other.0))) [
        | inl same ↦ inr (groups_apart tx session.0 other.0 (is_who-true (session_of tx session.0) (session_of tx other.0) same), sym at)
        | inr stranger ↦ inl (subst (λ (s : ℕ). (new s).sessions (session_of tx other.0) ≡ (old s).sessions (session_of tx other.0)) (sym at) (ends.strangers (session_of tx other.0) stranger))
      ]
    ]

pair_is : (one other : Session) → one.0 ≡ other.0 → one.1 ≡ other.1 → one ≡ other
pair_is (g, s) (h, t) first second = cc (first, second)

none_open : {X : Type 0} (o : Option X) → o ≡ None → is_some o ≡ true → ⊥
none_open None is open_ = cc open_
none_open (Some x) is open_ = cc is

behind : (m n : ℕ) → m ≤ n → m ≢ n → m + 1 ≤ n
behind m n from apart = grind (arith, from, apart)

pub left_next : (tx : TxState) (from count : ℕ) (old new : Shards) (session : Session) → AreLeft tx from count old → slice_get (sessions tx) from ≡ Some session → EndsOne old new (session_of tx session.0) session.1
    → AreLeft tx (from + 1) count new
left_next tx from count old new session left at ends = record {
  opened = λ n other behind_it other_at.
      let was = left.opened n other (omega (arith, behind_it)) other_at in
      elim (kept_or_same tx old new session other ends) [
        | inl kept ↦ (was.0, ap is_some kept ∙ was.1)
        | inr same ↦
            let e : from ≡ n = left.once from n other (at ∙ ap (λ (s : Session). Some s) (pair_is session other same.0 same.1)) other_at in
            absurd (omega (arith, e, behind_it))
      ];
  only = λ other is. elim (kept_or_same tx old new session other ends) [
    | inl kept ↦
        let was = left.only other (is.0, ap is_some (sym kept) ∙ is.1) in (
          was.0,
          behind from was.0 was.1 (λ (e : from ≡ was.0).
              let its : session ≡ other = same_Some session other (sym at ∙ ap (slice_get (sessions tx)) e ∙ was.2) in
              none_open ((new other.1).sessions (session_of tx other.0)) (subst (λ (s : Session). (new s.1).sessions (session_of tx s.0) ≡ None) its ends.ended) is.1),
          was.2,
        )
    | inr same ↦
        absurd (none_open ((new other.1).sessions (session_of tx other.0)) (subst (λ (s : Session). (new s.1).sessions (session_of tx s.0) ≡ None) (pair_is session other same.0 same.1) ends.ended) is.1)
  ];
  once = left.once;
}

-- ---- at last none is

pub past_all : (xs : List Session) (n : ℕ) → slice_get xs n ≡ None → length xs ≤ n
past_all [] n none = omega arith
past_all (x ∷ xs) zero none = absurd (cc none)
past_all (x ∷ xs) (suc n) none = omega (arith, past_all xs n none)

pub none_or_open : {X : Type 0} (o : Option X) → (o ≡ None) ⊎ (is_some o ≡ true)
none_or_open None = inl refl
none_or_open (Some x) = inr refl

pub none_left : (tx : TxState) (from count : ℕ) (seen : Shards) → AreLeft tx from count seen → length (sessions tx) ≤ from → HasEnded tx count seen
none_left tx from count seen left past group shard within =
    elim (none_or_open ((seen shard).sessions (session_of tx group))) [
      | inl none ↦ none
      | inr open_ ↦
          let at = left.only (group, shard) (within, open_) in
          absurd (omega (arith, past, at.1, slice_get_within (sessions tx) at.0 (group, shard) at.2))
    ]
