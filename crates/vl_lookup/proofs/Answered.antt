-- Which answers the acts of a claim may get.
use Rattle.std.proofs.Common.{◌≡◌, ℕ, inl, inr, true, Option, Some, None, List, sym, subst}
use Rattle.vl_values.specs.declared.key.Key.{Key}
use Rattle.vl_values.specs.declared.pred.Pred.{Pred}
use Rattle.vl_values.specs.declared.lost_why.LostWhy.{LostWhy}
use Rattle.vl_port.specs.declared.act.Act.{Act}
use Rattle.vl_port.specs.declared.act.Act.TheVariants.{Insert, Put, Find}
use Rattle.vl_port.specs.declared.answer.Answer.{Answer}
use Rattle.vl_port.specs.declared.answer.Answer.TheVariants.{Done, Unchanged, Rows, Found, Held, Lost, Device, Limit, Memory}
use Rattle.vl_port.specs.declared.carried.Carried.{Carried}
use Rattle.vl_port.specs.declared.carried.Carried.TheVariants.{Passed, LostBefore, LostAfter}
use Rattle.vl_port.specs.declared.who.Who.{Who}
use Rattle.vl_port.specs.Acting.{Acted}
use Rattle.vl_port.specs.Carrying.{ActsThere, Carries, Does, Uses}
use Rattle.vl_port.specs.Life.{loss_of}
use Rattle.vl_port.specs.View.{View, Values}
use Rattle.vl_lookup.specs.Answering.{IsCheckAnswer, IsFirstAnswer, IsPutAnswer, IsRefusing}

-- an answer that is never lost, and what follows of it
module _ (act : Act) (Of : Answer → Type 0) (lost : (why : LostWhy) → Of (Lost why)) (memory : Of Memory) (device : Of Device)
    (acted : (view after : View) (who : Who) (answer : Answer) → Acted view who act answer after → Of answer) where
  of_does : (old new : View) (who : Who) (answer : Answer) → Does old who act answer new → Of answer
  of_does old new who Done it = acted it.0 new who Done it.2
  of_does old new who Unchanged it = acted it.0 new who Unchanged it.2
  of_does old new who (Rows rows) it = acted it.0 new who (Rows rows) it.2
  of_does old new who (Found key row) it = acted it.0 new who (Found key row) it.2
  of_does old new who (Held by key) it = acted it.0 new who (Held by key) it.2
  of_does old new who (Limit what count) it = acted it.0 new who (Limit what count) it.2
  of_does old new who (Lost why) it = absurd it
  of_does old new who Device it = device
  of_does old new who Memory it = memory

  of_uses : (o : Option LostWhy) (old new : View) (who : Who) (answer : Answer) → Uses o old who act answer new → Of answer
  of_uses None old new who answer it = of_does old new who answer it
  of_uses (Some why) old new who answer it = subst (λ (a : Answer). Of a) (sym it.0) (lost why)

  of_carries : (way : Carried) (old new : View) (who : Who) (answer : Answer) → Carries way old who act answer new → Of answer
  of_carries Passed old new who answer it = of_uses (loss_of old who) old new who answer it
  of_carries LostBefore old new who answer (inl it) = subst (λ (a : Answer). Of a) (sym it.0) memory
  of_carries LostBefore old new who answer (inr it) = subst (λ (a : Answer). Of a) (sym it.0) (lost _)
  of_carries LostAfter old new who answer (inl it) = subst (λ (a : Answer). Of a) (sym it.0) memory
  of_carries LostAfter old new who answer (inr it) = subst (λ (a : Answer). Of a) (sym it.4.0) (lost _)

insert_acted : (key : Key) (row : Values) (view after : View) (who : Who) (answer : Answer) → Acted view who (Insert key row) answer after → IsFirstAnswer answer
insert_acted key row view after who Done it = tt
insert_acted key row view after who Unchanged it = absurd it.1
insert_acted key row view after who (Rows rows) it = absurd it.1
insert_acted key row view after who (Found k found) it = tt
insert_acted key row view after who (Held by k) it = tt
insert_acted key row view after who (Limit what count) it = tt
insert_acted key row view after who (Lost why) it = absurd it
insert_acted key row view after who Device it = absurd it
insert_acted key row view after who Memory it = tt

put_acted : (key : Key) (row : Values) (view after : View) (who : Who) (answer : Answer) → Acted view who (Put key row) answer after → IsPutAnswer answer
put_acted key row view after who Done it = tt
put_acted key row view after who Unchanged it = absurd it.1
put_acted key row view after who (Rows rows) it = absurd it.1
put_acted key row view after who (Found k found) it = absurd it.1
put_acted key row view after who (Held by k) it = tt
put_acted key row view after who (Limit what count) it = tt
put_acted key row view after who (Lost why) it = absurd it
put_acted key row view after who Device it = absurd it
put_acted key row view after who Memory it = tt

find_acted : (pred : Pred) (view after : View) (who : Who) (answer : Answer) → Acted view who (Find pred true) answer after → IsCheckAnswer answer
find_acted pred view after who Done it = absurd it.1
find_acted pred view after who Unchanged it = absurd it.1
find_acted pred view after who (Rows rows) it = tt
find_acted pred view after who (Found k found) it = absurd it.1
find_acted pred view after who (Held by k) it = tt
find_acted pred view after who (Limit what count) it = absurd it.1
find_acted pred view after who (Lost why) it = absurd it
find_acted pred view after who Device it = absurd it
find_acted pred view after who Memory it = tt

pub first_answer : (way : Carried) (old new : View) (who : Who) (key : Key) (row : Values) (answer : Answer) → Carries way old who (Insert key row) answer new → IsFirstAnswer answer
first_answer way old new who key row answer it =
    of_carries (Insert key row) (λ (a : Answer). IsFirstAnswer a) (λ why. tt) tt tt (insert_acted key row) way old new who answer it

pub put_answer : (way : Carried) (old new : View) (who : Who) (key : Key) (row : Values) (answer : Answer) → Carries way old who (Put key row) answer new → IsPutAnswer answer
put_answer way old new who key row answer it =
    of_carries (Put key row) (λ (a : Answer). IsPutAnswer a) (λ why. tt) tt tt (put_acted key row) way old new who answer it

pub check_answer : (way : Carried) (old new : View) (who : Who) (pred : Pred) (answer : Answer) → Carries way old who (Find pred true) answer new → IsCheckAnswer answer
check_answer way old new who pred answer it =
    of_carries (Find pred true) (λ (a : Answer). IsCheckAnswer a) (λ why. tt) tt tt (find_acted pred) way old new who answer it
