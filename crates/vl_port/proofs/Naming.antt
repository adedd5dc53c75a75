-- Shard sessions are one where their three parts are.
use Rattle.std.proofs.Common.{◌≡◌, ◌==◌, Bool, true, false, ◌&&◌, inl, inr, refl, sym, subst, Option, Some, None}
use Rattle.std.proofs.lemmas.Bool.{and_parts, and_from, eqb-true, eq-eqb, cases_Bool}
use Rattle.vl_values.specs.declared.group.Group.{Group}
use Rattle.vl_values.specs.declared.group.Group.TheVariants.{Pre, Main, Post}
use Rattle.vl_port.specs.declared.act.Act.{Act}
use Rattle.vl_port.specs.declared.act.Act.TheVariants.{Insert, Put, Remove, RemoveIf, Find}
use Rattle.vl_port.specs.declared.who.Who.{Who}
use Rattle.vl_values.specs.declared.key.Key.{Key}
use Rattle.vl_port.specs.View.{View, is_group, is_who}
use Rattle.vl_port.specs.Holding.{needs}
use Rattle.vl_port.specs.Taking.{takes_keys}

group_true : (a b : Option Group) → is_group a b ≡ true → a ≡ b
group_true None None h = refl
group_true None (Some b) h = absurd (cc)
group_true (Some Pre) None h = absurd (cc)
group_true (Some Main) None h = absurd (cc)
group_true (Some Post) None h = absurd (cc)
group_true (Some Pre) (Some Pre) h = refl
group_true (Some Pre) (Some Main) h = absurd (cc)
group_true (Some Pre) (Some Post) h = absurd (cc)
group_true (Some Main) (Some Pre) h = absurd (cc)
group_true (Some Main) (Some Main) h = refl
group_true (Some Main) (Some Post) h = absurd (cc)
group_true (Some Post) (Some Pre) h = absurd (cc)
group_true (Some Post) (Some Main) h = absurd (cc)
group_true (Some Post) (Some Post) h = refl

group_same : (a : Option Group) → is_group a a ≡ true
group_same None = refl
group_same (Some Pre) = refl
group_same (Some Main) = refl
group_same (Some Post) = refl

of_parts : (a b : Who) → a.session ≡ b.session → a.tx ≡ b.tx → a.group ≡ b.group → a ≡ b
of_parts a b s t g = λ i. record { session = s i; tx = t i; group = g i }

pub is_who-true : (a b : Who) → is_who a b ≡ true → a ≡ b
is_who-true a b h =
    let p = and_parts (a.session == b.session) ((a.tx == b.tx) && is_group a.group b.group) h in
    let q = and_parts (a.tx == b.tx) (is_group a.group b.group) p.1 in
    of_parts a b (eqb-true a.session b.session p.0) (eqb-true a.tx b.tx q.0) (group_true a.group b.group q.1)

pub is_who-same : (a : Who) → is_who a a ≡ true
is_who-same a = and_from _ _ (eq-eqb a.session a.session refl) (and_from _ _ (eq-eqb a.tx a.tx refl) (group_same a.group))

pub no_both : (b : Bool) → b ≡ true → b ≡ false → ⊥
no_both b yes_ no_ = cc

-- two are one in either order
pub apart_back : (a b : Who) → is_who a b ≡ false → is_who b a ≡ false
apart_back a b h = elim (cases_Bool (is_who b a)) [ inl same ↦ absurd (no_both (is_who a b) (subst (λ (w : Who). is_who a w ≡ true) (sym (is_who-true b a same)) (is_who-same a)) h) | inr apart ↦ apart ]

-- an act that needs a key takes keys
pub needs_takes : (view : View) (act : Act) (key : Key) → needs view act key ≡ true → takes_keys act ≡ true
needs_takes view (Insert k row) key h = refl
needs_takes view (Put k row) key h = refl
needs_takes view (Remove k) key h = refl
needs_takes view (RemoveIf k column value) key h = refl
needs_takes view (Find pred locking) key h = (and_parts locking _ h).0
