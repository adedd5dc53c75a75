-- Runs of the core's events, one behind another.
use Rattle.std.proofs.Common.{◌≡◌, ◌∙◌, ap, refl, subst, List, [], ◌∷◌, ◌++◌, true, Option, Some, None}
use Rattle.std.proofs.lemmas.List.Elements.{filter_map-append}
use Rattle.vl_cluster.specs.View.{View}
use Rattle.vl_cluster.specs.declared.session.Session.{Session}
use Rattle.vl_serve.specs.History.{Deed, Event, Does, Run, Ran, Chained, own_deed, own_deeds}
use Rattle.vl_serve.specs.History.Deed.{Say}

pub run_more : (old mid new : View) (es fs : List Event) → Run old es mid → Run mid fs new → Run old (es ++ fs) new
run_more old mid new [] fs r s = subst (λ (v : View). Run v fs new) r s
run_more old mid new (e ∷ es) fs r s = (r.0, r.1, run_more r.0 mid new es fs r.2 s)

pub own_more : (es fs : List Event) → own_deeds (es ++ fs) ≡ own_deeds es ++ own_deeds fs
own_more es fs = filter_map-append (λ event. own_deed event.own event.deed) es fs

-- what happened until a moment, and from there on
pub ran_more : (old mid new : Option View) (ds es : List Deed) → Ran old ds mid → Ran mid es new → Ran old (ds ++ es) new
ran_more None mid new ds es r s = tt
ran_more (Some o) None new ds es r s = absurd r
ran_more (Some o) (Some m) None ds es r s = absurd s
ran_more (Some o) (Some m) (Some n) ds es r s = (
  r.0 ++ s.0,
  run_more o m n r.0 s.0 r.1 s.1,
  own_more r.0 s.0 ∙ ap (λ v. v ++ own_deeds s.0) r.2 ∙ ap (λ v. ds ++ v) s.2,
)

-- nothing happened
pub ran_none : (old : Option View) → Ran old [] old
ran_none None = tt
ran_none (Some o) = ([], refl, refl)

-- one event of the connection's own
pub ran_own : (old new : View) (deed : Deed) → Does old deed new → Ran (Some old) (deed ∷ []) (Some new)
ran_own old new deed d = (record { own = true; deed = deed } ∷ [], (new, d, refl), refl)

-- what a session says further
pub chained_more : (first pass last : Session) (ds es : List Deed) → Chained first ds pass → Chained pass es last → Chained first (ds ++ es) last
chained_more first pass last [] es c d = subst (λ (p : Session). Chained p es last) c d
chained_more first pass last (Say by stmt what next ∷ ds) es c d = (c.0, chained_more next pass last ds es c.1 d)
chained_more first pass last (deed ∷ ds) es c d = absurd c
