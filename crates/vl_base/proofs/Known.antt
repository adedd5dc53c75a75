-- Known bytes in steps: what stands in a sink after two writes, and what is left of a source after two reads.
use Rattle.std.proofs.Common.{◌≡◌, ◌+◌, ◌-◌, ◌∙◌, ap, sym, subst, refl, ℕ, List, [], ◌++◌, Option, None, Some, take, drop, length, append_assoc}
use Rattle.std.proofs.lemmas.List.{append-nil, take-append-drop}
use Rattle.std.specs.Io.KnownBytes.{Appends, Consumes, Keeps, IsAtEnd}
use Rattle.vl_base.specs.Sink.{WrotePart}
use Rattle.vl_base.proofs.Pieces.{front_more}

-- two writes append both
pub appends_more : (old mid new : Option (List ℕ)) (xs ys : List ℕ) → Appends old mid xs → Appends mid new ys → Appends old new (xs ++ ys)
appends_more None mid new xs ys a b = tt
appends_more (Some o) None new xs ys a b = absurd a
appends_more (Some o) (Some m) None xs ys a b = absurd b
appends_more (Some o) (Some m) (Some n) xs ys a b = b ∙ ap (λ v. v ++ ys) a ∙ append_assoc o xs ys

-- nothing was appended
pub appends_none : (old : Option (List ℕ)) → Appends old old []
appends_none None = tt
appends_none (Some o) = sym (append-nil o)

-- what keeps the bytes appends nothing
pub keeps_appends : (old new : Option (List ℕ)) → Keeps old new → Appends old new []
keeps_appends None new k = tt
keeps_appends (Some o) None k = absurd k
keeps_appends (Some o) (Some n) k = k ∙ sym (append-nil o)

-- a write that keeps what is there, after one that appends
pub keeps_after : (old mid new : Option (List ℕ)) (xs : List ℕ) → Appends old mid xs → Keeps mid new → Appends old new xs
keeps_after None mid new xs a k = tt
keeps_after (Some o) None new xs a k = absurd a
keeps_after (Some o) (Some m) None xs a k = absurd k
keeps_after (Some o) (Some m) (Some n) xs a k = k ∙ a

-- all of the bytes are a part of them
pub wrote_all : (old new : Option (List ℕ)) (xs : List ℕ) → Appends old new xs → WrotePart old new xs
wrote_all old new xs a = (xs, [], sym (append-nil xs), a)

-- none of the bytes are a part of them
pub wrote_none : (old new : Option (List ℕ)) (xs : List ℕ) → Keeps old new → WrotePart old new xs
wrote_none old new xs k = ([], xs, refl, keeps_appends old new k)

-- a front of what comes next, after bytes that were appended whole
pub wrote_more : (old mid new : Option (List ℕ)) (xs ys : List ℕ) → Appends old mid xs → WrotePart mid new ys → WrotePart old new (xs ++ ys)
wrote_more old mid new xs ys a w = (
  xs ++ w.0,
  w.1,
  ap (λ v. xs ++ v) w.2 ∙ sym (append_assoc xs w.0 w.1),
  appends_more old mid new xs w.0 a w.3,
)

-- a front of some bytes is a front of those bytes and more
pub wrote_less : (old new : Option (List ℕ)) (xs ys : List ℕ) → WrotePart old new xs → WrotePart old new (xs ++ ys)
wrote_less old new xs ys w = (w.0, w.1 ++ ys, ap (λ v. v ++ ys) w.2 ∙ append_assoc w.0 w.1 ys, w.3)

-- a front of the bytes, as a number of them
pub wrote_front : (old new : Option (List ℕ)) (n : ℕ) (xs : List ℕ) → Appends old new (take n xs) → WrotePart old new xs
wrote_front old new n xs a = (take n xs, drop n xs, sym (take-append-drop n xs), a)

-- after the first n bytes, m of the rest
pub appends_next : (old mid new : Option (List ℕ)) (n m : ℕ) (xs : List ℕ) → Appends old mid (take n xs) → Appends mid new (take m (take (length xs - n) (drop n xs))) → Appends old new (take (n + m) xs)
appends_next old mid new n m xs a b =
    subst
    (λ (v : List ℕ). Appends old new v)
    (front_more n m xs)
    (appends_more old mid new (take n xs) (take m (take (length xs - n) (drop n xs))) a b)

-- two reads consume both
pub consumes_more : (old mid new : Option (List ℕ)) (xs ys : List ℕ) → Consumes old mid xs → Consumes mid new ys → Consumes old new (xs ++ ys)
consumes_more None mid new xs ys a b = tt
consumes_more (Some o) None new xs ys a b = absurd a
consumes_more (Some o) (Some m) None xs ys a b = absurd b
consumes_more (Some o) (Some m) (Some n) xs ys a b =
    a ∙ ap (λ v. xs ++ v) b ∙ sym (append_assoc xs ys n)

-- a read that keeps what is left, after one that consumes
pub keeps_after_read : (old mid new : Option (List ℕ)) (xs : List ℕ) → Consumes old mid xs → Keeps mid new → Consumes old new xs
keeps_after_read None mid new xs a k = tt
keeps_after_read (Some o) None new xs a k = absurd a
keeps_after_read (Some o) (Some m) None xs a k = absurd k
keeps_after_read (Some o) (Some m) (Some n) xs a k = a ∙ ap (λ v. xs ++ v) (sym k)

-- where the source tells what it has, what was consumed stands at its front
pub consumed : (old new : Option (List ℕ)) (xs bytes : List ℕ) → old ≡ Some bytes → Consumes old new xs → (rest : List ℕ) × (new ≡ Some rest) × (bytes ≡ xs ++ rest)
consumed old new xs bytes old_is c =
    known new (subst (λ (v : Option (List ℕ)). Consumes v new xs) old_is c)
  where
    known : (after : Option (List ℕ)) → Consumes (Some bytes) after xs → (rest : List ℕ) × (after ≡ Some rest) × (bytes ≡ xs ++ rest)
    known None a = absurd a
    known (Some rest) a = (rest, refl, a)

-- where the source tells what it has and is at its end, all of it was consumed
pub at_end : (old new : Option (List ℕ)) (xs bytes : List ℕ) → old ≡ Some bytes → Consumes old new xs → IsAtEnd new → bytes ≡ xs
at_end old new xs bytes old_is c ended =
    known new (subst (λ (v : Option (List ℕ)). Consumes v new xs) old_is c) ended
  where
    known : (after : Option (List ℕ)) → Consumes (Some bytes) after xs → IsAtEnd after → bytes ≡ xs
    known None a e = absurd a
    known (Some rest) a e = a ∙ ap (λ v. xs ++ v) e ∙ append-nil xs

-- known bytes that are kept twice are kept
pub keeps_more : (old mid new : Option (List ℕ)) → Keeps old mid → Keeps mid new → Keeps old new
keeps_more None mid new k m = tt
keeps_more (Some o) None new k m = absurd k
keeps_more (Some o) (Some m) None k n = absurd n
keeps_more (Some o) (Some m) (Some n) k e = e ∙ k

-- what a step keeps that has no effect
pub keeps_itself : (old : Option (List ℕ)) → Keeps old old
keeps_itself None = tt
keeps_itself (Some o) = refl

-- a write after one that kept what was there
pub appends_after : (old mid new : Option (List ℕ)) (xs : List ℕ) → Keeps old mid → Appends mid new xs → Appends old new xs
appends_after None mid new xs k a = tt
appends_after (Some o) None new xs k a = absurd k
appends_after (Some o) (Some m) None xs k a = absurd a
appends_after (Some o) (Some m) (Some n) xs k a = a ∙ ap (λ v. v ++ xs) k

-- a read after one that took nothing
pub consumes_after : (old mid new : Option (List ℕ)) (xs : List ℕ) → Keeps old mid → Consumes mid new xs → Consumes old new xs
consumes_after None mid new xs k c = tt
consumes_after (Some o) None new xs k c = absurd k
consumes_after (Some o) (Some m) None xs k c = absurd c
consumes_after (Some o) (Some m) (Some n) xs k c = sym k ∙ c
