-- Two facts of an answer give a third.
use Rattle.std.proofs.Common.{Result, Ok, Err, IfOk}

pub both_ok : {A E : Type 0} (r : Result A E) (P Q R : A → Type 0) → ((a : A) → P a → Q a → R a) → IfOk r P → IfOk r Q → IfOk r R
both_ok (Ok a) P Q R from p q = from a p q
both_ok (Err e) P Q R from p q = tt
