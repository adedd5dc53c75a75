-- What an act of an INSERT makes of its transaction: its sessions, its writes, and the entries that it claims.
use Rattle.std.proofs.Common.{◌≡◌, ◌∙◌, ◌==◌, ◌<◌, ◌^◌, ◌&&◌, ◌++◌, ◌∷◌, if◌then◌else◌, nat_lt, ℕ, Bool, true, false, List, [], map, Some, refl, sym, ap, subst}
use Rattle.std.proofs.Math.Bool.{and-false}
use Rattle.std.proofs.lemmas.Bool.{eq-eqb}
use Rattle.std.proofs.lemmas.List.{map-append}
use Rattle.vl_values.specs.declared.group.Group.{Group}
use Rattle.vl_values.specs.declared.group.Group.TheVariants.{Main, Post, Pre}
use Rattle.vl_values.specs.declared.key.Key.{Key}
use Rattle.vl_values.specs.Keyed.{is_key}
use Rattle.vl_port.specs.declared.act.Act.TheVariants.{Insert, Put}
use Rattle.vl_port.specs.declared.claimed.Claimed.{Claimed}
use Rattle.vl_port.specs.declared.limits.Limits.{Limits}
use Rattle.vl_port.specs.declared.tx_state.TxState.{TxState}
use Rattle.vl_port.specs.declared.who.Who.{Who}
use Rattle.vl_port.specs.Asking.{IsListed, with_change}
use Rattle.vl_port.specs.Transaction.{listed, session_of}
use Rattle.vl_port.specs.View.{Values, is_group}
use Rattle.vl_lookup.specs.Answering.{with_claim, with_passed}
use Rattle.vl_lookup.specs.Stepping.{with_claimed}
use Rattle.vl_run.specs.declared.deed.Deed.{Deed}
use Rattle.vl_run.specs.declared.deed.Deed.TheVariants as deeds
use Rattle.vl_run.specs.declared.event.Event.{Event}
use Rattle.vl_run.specs.declared.mark.Mark.{Mark}
use Rattle.vl_run.specs.declared.mark.Mark.TheVariants as marks
use Rattle.vl_run.specs.Allowed.{now_of}
use Rattle.vl_run.specs.Progress.{changes, claimed, claims_in_pre, counted, listed_by, removed, removes_in_post}
use Rattle.vl_run.specs.Run.{Run, is_of, used, uses}
use Rattle.vl_run.specs.Run.Point.{Happened}
use Rattle.vl_run.specs.Session.{Owned}
use Rattle.vl_course.specs.Course.{IsTx}
use Rattle.vl_course.proofs.Listed.{kept_listed, session_listed, tx_acted, tx_wrote}

-- ---- the keys of a list of claims

abbrev pub keys_of : List Claimed → List Key
keys_of claims = map (λ (claim : Claimed). claim.key) claims

pub keys_claimed : (key : Key) (passed : Bool) (claims : List Claimed) → keys_of (with_claim key passed claims) ≡ keys_of claims ++ key ∷ []
keys_claimed key passed claims = map-append (λ (claim : Claimed). claim.key) claims (record { key = key; passed = passed } ∷ [])

key_passed : (claim : Claimed) (b : Bool) → (if b then record { key = claim.key; passed = true } else claim).key ≡ claim.key
key_passed claim true = refl
key_passed claim false = refl

pub keys_passed : (key : Key) (claims : List Claimed) → keys_of (with_passed key claims) ≡ keys_of claims
keys_passed key [] = refl
keys_passed key (claim ∷ claims) =
    ap (λ (it : Key). it ∷ keys_of (with_passed key claims)) (key_passed claim (is_key claim.key key)) ∙ ap (λ (keys : List Key). claim.key ∷ keys) (keys_passed key claims)

-- ---- another list of claims

same_listed : (claims : List Claimed) (tx : TxState) (group : Group) → listed tx group ≡ listed (with_claimed claims tx) group
same_listed claims tx Pre = refl
same_listed claims tx Main = refl
same_listed claims tx Post = refl

-- the list has the same keys
pub tx_relisted : (bounds : Limits) (now : Run) (n : ℕ) (own : Owned) (tx new : TxState) (claims : List Claimed) → IsTx bounds now n own tx → new ≡ with_claimed claims tx → keys_of claims ≡ keys_of tx.claimed
    → IsTx bounds now n own new
tx_relisted bounds now n own tx new claims is same keys =
    subst (IsTx bounds now n own) (sym same)
    (record {
      number = is.number;
      session = is.session;
      single = is.single;
      limits = is.limits;
      used = λ group. is.used group ∙ same_listed claims tx group;
      changes = is.changes;
      below = is.below;
      claimed = keys ∙ is.claimed;
      removed = is.removed;
    })

-- ---- an Insert

-- the same event with a Put of the key, which claims nothing
abbrev with_put : Event → Who → ℕ → Key → Values → Mark → Event
with_put e who shard key row mark = record e { deed = deeds.Acts who shard (Put key row) mark }

module _ (bounds : Limits) (e : Event) (past : Run) (n : ℕ) (own : Owned) (tx : TxState) (is : IsTx bounds (now_of e past) n own tx) (group : Group) (shard : ℕ) (key : Key) (row : Values) where
  abbrev who : Who
  who = session_of tx group

  module _ (mark : Mark) (deed : e.deed ≡ deeds.Acts who shard (Insert key row) mark) where
    -- all but the claims is as with a Put
    tx_as : (mid new : TxState) (claims : List Claimed) → IsTx bounds (Happened (with_put e who shard key row mark) ∷ past) n own mid → removes_in_post mark (Insert key row) ≡ removes_in_post mark (Put key row)
        → new ≡ with_claimed claims mid
        → keys_of claims ≡ claimed (Happened e ∷ past) own.number → IsTx bounds (Happened e ∷ past) n own new
    tx_as mid new claims like removes same keys =
        subst (IsTx bounds (Happened e ∷ past) n own) (sym same)
        (record {
          number = like.number;
          session = like.session;
          single = like.single;
          limits = like.limits;
          used = λ of. ap (λ (d : Deed). uses d own.number of (used past own.number of)) deed ∙ like.used of ∙ same_listed claims mid of;
          changes = like.changes ∙ sym (ap (λ (d : Deed). counted own.number d (changes past own.number)) deed);
          below = like.below;
          claimed = keys;
          removed = like.removed ∙ ap (λ (ks : List Key). if is_of own.number Post who then removed past own.number ++ ks else removed past own.number) (sym removes)
              ∙ sym (ap (λ (d : Deed). listed_by Post removes_in_post own.number d (removed past own.number)) deed);
        })

    claims_by : claimed (Happened e ∷ past) own.number ≡ (if is_of own.number Pre who then claimed past own.number ++ claims_in_pre mark (Insert key row) else claimed past own.number)
    claims_by = ap (λ (d : Deed). listed_by Pre claims_in_pre own.number d (claimed past own.number)) deed

    claims_pre : group ≡ Pre → claims_in_pre mark (Insert key row) ≡ key ∷ [] → claimed (Happened e ∷ past) own.number ≡ keys_of tx.claimed ++ key ∷ []
    claims_pre pre takes =
        claims_by
        ∙ ap (λ (g : Group). if (tx.number == own.number) && is_group (Some g) (Some Pre) then claimed past own.number ++ claims_in_pre mark (Insert key row) else claimed past own.number) pre
        ∙ ap (λ b. if b && true then claimed past own.number ++ claims_in_pre mark (Insert key row) else claimed past own.number) (eq-eqb tx.number own.number is.number)
        ∙ ap (λ (ks : List Key). claimed past own.number ++ ks) takes ∙ ap (λ (ks : List Key). ks ++ key ∷ []) (sym is.claimed)

    claims_main : group ≡ Main → claimed (Happened e ∷ past) own.number ≡ keys_of tx.claimed
    claims_main main =
        claims_by
        ∙ ap (λ (g : Group). if (tx.number == own.number) && is_group (Some g) (Some Pre) then claimed past own.number ++ claims_in_pre mark (Insert key row) else claimed past own.number) main
        ∙ ap (λ b. if b then claimed past own.number ++ claims_in_pre mark (Insert key row) else claimed past own.number) (and-false (tx.number == own.number))
        ∙ sym is.claimed

  -- its key was obtained, and nothing was written
  module _ (mid : TxState) (lists : IsListed tx group shard mid) (deed : e.deed ≡ deeds.Acts who shard (Insert key row) marks.Takes) where
    like_taken : IsTx bounds (Happened (with_put e who shard key row marks.Takes) ∷ past) n own mid
    like_taken =
        tx_acted bounds (with_put e who shard key row marks.Takes) past n own tx is mid who shard (Put key row) marks.Takes refl refl refl refl (session_listed tx mid group shard own.number is.number lists)
        (kept_listed tx mid group shard lists)

    pub tx_claimed : (new : TxState) (passed : Bool) → group ≡ Pre → new ≡ with_claimed (with_claim key passed tx.claimed) mid → IsTx bounds (Happened e ∷ past) n own new
    tx_claimed new passed pre same =
        tx_as marks.Takes deed mid new (with_claim key passed tx.claimed) like_taken refl same (keys_claimed key passed tx.claimed ∙ sym (claims_pre marks.Takes deed pre refl))

    pub tx_found : group ≡ Main → IsTx bounds (Happened e ∷ past) n own mid
    tx_found main = tx_as marks.Takes deed mid mid mid.claimed like_taken refl refl (ap keys_of (kept_listed tx mid group shard lists).claimed ∙ sym (claims_main marks.Takes deed main))

  -- its row was written
  module _ (before mid : TxState) (lists : IsListed tx group shard before) (counts : mid ≡ with_change before) (room : nat_lt tx.changes tx.limits.changes ≡ true) (fits : bounds.changes < 2 ^ 32)
      (deed : e.deed ≡ deeds.Acts who shard (Insert key row) marks.Writes) where
    like_written : IsTx bounds (Happened (with_put e who shard key row marks.Writes) ∷ past) n own mid
    like_written =
        tx_wrote bounds (with_put e who shard key row marks.Writes) past n own tx is before mid who shard (Put key row) refl refl refl is.number (session_listed tx before group shard own.number is.number lists)
        (kept_listed tx before group shard lists) counts room fits

    pub tx_inserted : (new : TxState) (passed : Bool) → group ≡ Pre → new ≡ with_claimed (with_claim key passed tx.claimed) mid → IsTx bounds (Happened e ∷ past) n own new
    tx_inserted new passed pre same =
        tx_as marks.Writes deed mid new (with_claim key passed tx.claimed) like_written refl same (keys_claimed key passed tx.claimed ∙ sym (claims_pre marks.Writes deed pre refl))

    pub tx_row : group ≡ Main → IsTx bounds (Happened e ∷ past) n own mid
    tx_row main =
        tx_as marks.Writes deed mid mid mid.claimed like_written refl refl
        (ap (λ (t : TxState). keys_of t.claimed) counts ∙ ap keys_of (kept_listed tx before group shard lists).claimed ∙ sym (claims_main marks.Writes deed main))
