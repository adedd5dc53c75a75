-- The list of claimed keys stands aside: what an action makes of a transaction, it makes of that with any list.
use Rattle.std.proofs.Common.{◌≡◌, ◌↔◌, ◌≤◌, ◌<◌, ◌≢◌, ℕ, Bool, true, false, List, [], ◌∷◌, ◌++◌, refl, sym, ap, subst, arith}
use Rattle.std.specs.Prelude.{Contains}
use Rattle.std.specs.List.{AllPairs}
use Rattle.std.specs.Option.{is_some}
use Rattle.vl_values.specs.declared.group.Group.{Group}
use Rattle.vl_values.specs.declared.group.Group.TheVariants.{Pre, Main, Post}
use Rattle.vl_port.specs.declared.act.Act.{Act}
use Rattle.vl_port.specs.declared.answer.Answer.{Answer}
use Rattle.vl_port.specs.declared.answer.Answer.TheVariants.{Done, Unchanged, Rows, Found, Held, Lost, Device, Limit, Memory}
use Rattle.vl_port.specs.declared.asked.Asked.{Asked}
use Rattle.vl_port.specs.declared.asked.Asked.TheVariants.{Unlisted, Answered}
use Rattle.vl_port.specs.declared.claimed.Claimed.{Claimed}
use Rattle.vl_port.specs.declared.tx_state.TxState.{TxState}
use Rattle.vl_port.specs.Asking.{HasAsked, IsListed, IsSameTx, Lists}
use Rattle.vl_port.specs.Calls.{PortView}
use Rattle.vl_port.specs.Serving.{Shards}
use Rattle.vl_port.specs.Transaction.{Enlists, IsIn, listed, session_of}
use Rattle.vl_lookup.specs.Stepping.{IsSameTxButClaims, with_claimed}

-- ---- what an answer makes of a transaction

enlists_with : (c : List Claimed) (tx new : TxState) (group : Group) (shard : ℕ) (added : Bool) → Enlists tx group shard added new → Enlists (with_claimed c tx) group shard added (with_claimed c new)
enlists_with c tx new Pre shard true it = (it.0, ap (with_claimed c) it.1)
enlists_with c tx new Main shard true it = (it.0, ap (with_claimed c) it.1)
enlists_with c tx new Post shard true it = (it.0, ap (with_claimed c) it.1)
enlists_with c tx new Pre shard false it = (it.0, ap (with_claimed c) it.1)
enlists_with c tx new Main shard false it = (it.0, ap (with_claimed c) it.1)
enlists_with c tx new Post shard false it = (it.0, ap (with_claimed c) it.1)

is_listed_with : (c : List Claimed) (tx new : TxState) (group : Group) (shard : ℕ) → IsListed tx group shard new → IsListed (with_claimed c tx) group shard (with_claimed c new)
is_listed_with c tx new group shard it = (it.0, enlists_with c tx new group shard it.0 it.1)

lists_with : (c : List Claimed) (tx new : TxState) (group : Group) (shard : ℕ) (answer : Answer) → Lists tx group shard answer new → Lists (with_claimed c tx) group shard answer (with_claimed c new)
lists_with c tx new group shard Memory it = ap (with_claimed c) it
lists_with c tx new group shard Done it = (with_claimed c it.0, is_listed_with c tx it.0 group shard it.1, ap (with_claimed c) it.2)
lists_with c tx new group shard Unchanged it = is_listed_with c tx new group shard it
lists_with c tx new group shard (Rows rows) it = is_listed_with c tx new group shard it
lists_with c tx new group shard (Found key row) it = is_listed_with c tx new group shard it
lists_with c tx new group shard (Held by key) it = is_listed_with c tx new group shard it
lists_with c tx new group shard (Lost why) it = is_listed_with c tx new group shard it
lists_with c tx new group shard Device it = is_listed_with c tx new group shard it
lists_with c tx new group shard (Limit what count) it = is_listed_with c tx new group shard it

pub asked_with : (c : List Claimed) (tx new : TxState) (group : Group) (shard : ℕ) (act : Act) (asked : Asked) (old after : PortView) → HasAsked old tx group shard act asked new after
    → HasAsked old (with_claimed c tx) group shard act asked (with_claimed c new) after
asked_with c tx new group shard act Unlisted old after it = record { same = ap (with_claimed c) it.same; shown = it.shown }
asked_with c tx new group shard act (Answered answer) old after it = record { acts = it.acts; lists = lists_with c tx new group shard answer it.lists }

-- ---- the sessions of a transaction

listed_with : (c : List Claimed) (tx : TxState) (group : Group) → listed (with_claimed c tx) group ≡ listed tx group
listed_with c tx Pre = refl
listed_with c tx Main = refl
listed_with c tx Post = refl

pub in_with : (c : List Claimed) (tx : TxState) (count : ℕ) (seen : Shards) → IsIn tx count seen → IsIn (with_claimed c tx) count seen
in_with c tx count seen it = record {
  known = λ group shard within. subst (λ (xs : List ℕ). Contains xs shard ↔ (is_some ((seen shard).sessions (session_of tx group)) ≡ true)) (sym (listed_with c tx group)) (it.known group shard within);
  within = λ group shard among. it.within group shard (subst (λ (xs : List ℕ). Contains xs shard) (listed_with c tx group) among);
  once = λ group. subst (λ (xs : List ℕ). AllPairs (λ one other. one ≢ other) xs) (sym (listed_with c tx group)) (it.once group);
}

-- a list that was taken out and given back
pub in_through : (c : List Claimed) (tx aside new : TxState) (count after : ℕ) (seen seen_after : Shards) → aside ≡ with_claimed [] tx → (IsIn aside count seen → IsIn new after seen_after) → IsIn tx count seen → IsIn (with_claimed c new) after seen_after
in_through c tx aside new count after seen seen_after is through it =
    in_with c new after seen_after (through (subst (λ (t : TxState). IsIn t count seen) (sym is) (in_with [] tx count seen it)))

-- ---- the same transaction but for the list

pub same_with : (c : List Claimed) (tx new : TxState) → IsSameTx tx new → IsSameTxButClaims tx (with_claimed c new)
same_with c tx new it = record { number = it.number; session = it.session; limits = it.limits; auto = it.auto; single = it.single; changes = it.changes; claimed = refl; removed = it.removed }

pub same_through : (c : List Claimed) (tx aside new : TxState) → aside ≡ with_claimed [] tx → IsSameTx aside new → IsSameTxButClaims tx (with_claimed c new)
same_through c tx aside new is it =
    let same = subst (λ (t : TxState). IsSameTx t new) is it in
    record { number = same.number; session = same.session; limits = same.limits; auto = same.auto; single = same.single; changes = same.changes; claimed = refl; removed = same.removed }

pub same_all : (tx new : TxState) → new ≡ tx → IsSameTxButClaims tx new
same_all tx new is =
    subst (IsSameTxButClaims tx) (sym is) (record { number = refl; session = refl; limits = refl; auto = refl; single = refl; changes = omega (arith); claimed = refl; removed = refl })
