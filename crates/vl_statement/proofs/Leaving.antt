-- What an act that was answered leaves of pending versions and locks. This speaks of the port alone, too.
use Rattle.std.proofs.Common.{◌≡◌, ◌⊎◌, ℕ, inl, inr, Some, refl, sym, ap, ◌∙◌, subst}
use Rattle.vl_values.specs.declared.key.Key.{Key}
use Rattle.vl_port.specs.declared.act.Act.{Act}
use Rattle.vl_port.specs.declared.answer.Answer.{Answer}
use Rattle.vl_port.specs.declared.answer.Answer.TheVariants.{Done, Unchanged, Rows, Found, Held, Lost, Device, Limit, Memory}
use Rattle.vl_port.specs.declared.who.Who.{Who}
use Rattle.vl_port.specs.Acting.{Acted}
use Rattle.vl_port.specs.Calls.{HasActed, PortView}
use Rattle.vl_port.specs.Life.{Reaches}
use Rattle.vl_port.specs.View.{View}
use Rattle.vl_port.proofs.Leaving.{same_or_other}
use Rattle.vl_statement.proofs.Reached.{IsOfAct, acted_holds, done_there, memory_leaves, reached_holder, reached_pending}

-- the answers after which the session lives on
abbrev pub IsSpared : Answer → Type 0
IsSpared Memory = Unit {0}
IsSpared answer = IsOfAct answer

-- ---- pending versions

-- an act that wrote nothing leaves the pending versions of its shard
not_written : (old new : View) (who : Who) (act : Act) (answer : Answer) (key : Key) → (answer ≡ Done → ⊥) → Acted old who act answer new → new.pending key ≡ old.pending key
not_written old new who act Done key never acted = absurd (never refl)
not_written old new who act Unchanged key never acted = ap (λ (v : View). v.pending key) acted.2
not_written old new who act (Rows rows) key never acted = ap (λ (v : View). v.pending key) acted.2
not_written old new who act (Found k row) key never acted = ap (λ (v : View). v.pending key) acted.2
not_written old new who act (Held by k) key never acted = ap (λ (v : View). v.pending key) acted.1
not_written old new who act (Limit what count) key never acted = ap (λ (v : View). v.pending key) acted.2
not_written old new who act (Lost why) key never acted = absurd acted
not_written old new who act Device key never acted = absurd acted
not_written old new who act Memory key never acted = ap (λ (v : View). v.pending key) acted

memory_pends : (old new : View) (key : Key) → (new ≡ old) ⊎ Reaches old new → new.pending key ≡ old.pending key
memory_pends old new key (inl same) = ap (λ (v : View). v.pending key) same
memory_pends old new key (inr reached) = reached_pending old new key reached

of_act_pends : (port after : PortView) (who : Who) (shard : ℕ) (act : Act) (answer : Answer) (key : Key) → IsOfAct answer → (answer ≡ Done → ⊥) → HasActed port who shard act answer after
    → (after.shards shard).pending key ≡ (port.shards shard).pending key
of_act_pends port after who shard act answer key of never acts =
    let done = done_there port after who shard act answer of acts in
    not_written done.there (after.shards shard) who act answer key never done.acted ∙ reached_pending (port.shards shard) done.there key done.reached

there_pends : (port after : PortView) (who : Who) (shard : ℕ) (act : Act) (answer : Answer) (key : Key) → IsSpared answer → (answer ≡ Done → ⊥) → HasActed port who shard act answer after
    → (after.shards shard).pending key ≡ (port.shards shard).pending key
there_pends port after who shard act Memory key spared never acts = memory_pends (port.shards shard) (after.shards shard) key (memory_leaves after.way (port.shards shard) (after.shards shard) who act acts.acted)
there_pends port after who shard act Done key spared never acts = of_act_pends port after who shard act Done key tt never acts
there_pends port after who shard act Unchanged key spared never acts = of_act_pends port after who shard act Unchanged key tt never acts
there_pends port after who shard act (Rows rows) key spared never acts = of_act_pends port after who shard act (Rows rows) key tt never acts
there_pends port after who shard act (Found k row) key spared never acts = of_act_pends port after who shard act (Found k row) key tt never acts
there_pends port after who shard act (Held by k) key spared never acts = of_act_pends port after who shard act (Held by k) key tt never acts
there_pends port after who shard act (Limit what count) key spared never acts = of_act_pends port after who shard act (Limit what count) key tt never acts
there_pends port after who shard act (Lost why) key spared never acts = absurd spared
there_pends port after who shard act Device key spared never acts = absurd spared

-- what isn't `Done` leaves the pending versions of each shard
pub act_pends : (port after : PortView) (who : Who) (shard : ℕ) (act : Act) (answer : Answer) (s : ℕ) (key : Key) → IsSpared answer → (answer ≡ Done → ⊥) → HasActed port who shard act answer after
    → (after.shards s).pending key ≡ (port.shards s).pending key
act_pends port after who shard act answer s key spared never acts =
    elim (same_or_other s shard) [
      | inl at ↦ subst (λ (n : ℕ). (after.shards n).pending key ≡ (port.shards n).pending key) (sym at) (there_pends port after who shard act answer key spared never acts)
      | inr other ↦ ap (λ (v : View). v.pending key) (acts.others s other)
    ]

-- ---- locks

memory_holds : (old new : View) (other : Who) (key : Key) → (new ≡ old) ⊎ Reaches old new → old.holder key ≡ Some other → new.holder key ≡ Some other
memory_holds old new other key (inl same) held = ap (λ (v : View). v.holder key) same ∙ held
memory_holds old new other key (inr reached) held = reached_holder old new key reached ∙ held

of_act_holds : (port after : PortView) (who other : Who) (shard : ℕ) (act : Act) (answer : Answer) (key : Key) → IsOfAct answer → HasActed port who shard act answer after → (port.shards shard).holder key ≡ Some other
    → (after.shards shard).holder key ≡ Some other
of_act_holds port after who other shard act answer key of acts held =
    let done = done_there port after who shard act answer of acts in
    acted_holds done.there (after.shards shard) who other act answer key (reached_holder (port.shards shard) done.there key done.reached ∙ held) done.acted

there_holds : (port after : PortView) (who other : Who) (shard : ℕ) (act : Act) (answer : Answer) (key : Key) → IsSpared answer → HasActed port who shard act answer after → (port.shards shard).holder key ≡ Some other
    → (after.shards shard).holder key ≡ Some other
there_holds port after who other shard act Memory key spared acts held =
    memory_holds (port.shards shard) (after.shards shard) other key (memory_leaves after.way (port.shards shard) (after.shards shard) who act acts.acted) held
there_holds port after who other shard act Done key spared acts held = of_act_holds port after who other shard act Done key tt acts held
there_holds port after who other shard act Unchanged key spared acts held = of_act_holds port after who other shard act Unchanged key tt acts held
there_holds port after who other shard act (Rows rows) key spared acts held = of_act_holds port after who other shard act (Rows rows) key tt acts held
there_holds port after who other shard act (Found k row) key spared acts held = of_act_holds port after who other shard act (Found k row) key tt acts held
there_holds port after who other shard act (Held by k) key spared acts held = of_act_holds port after who other shard act (Held by k) key tt acts held
there_holds port after who other shard act (Limit what count) key spared acts held = of_act_holds port after who other shard act (Limit what count) key tt acts held
there_holds port after who other shard act (Lost why) key spared acts held = absurd spared
there_holds port after who other shard act Device key spared acts held = absurd spared

-- it leaves each lock to its session
pub act_holds : (port after : PortView) (who other : Who) (shard : ℕ) (act : Act) (answer : Answer) (s : ℕ) (key : Key) → IsSpared answer → HasActed port who shard act answer after → (port.shards s).holder key ≡ Some other
    → (after.shards s).holder key ≡ Some other
act_holds port after who other shard act answer s key spared acts held =
    elim (same_or_other s shard) [
      | inl at ↦
          subst (λ (n : ℕ). (after.shards n).holder key ≡ Some other) (sym at)
          (there_holds port after who other shard act answer key spared acts (subst (λ (n : ℕ). (port.shards n).holder key ≡ Some other) at held))
      | inr apart ↦ ap (λ (v : View). v.holder key) (acts.others s apart) ∙ held
    ]
