-- A text as a whole: a statement, and a `;` or nothing.
use Rattle.std.proofs.Common.{◌≡◌, ℕ, Bool, true, false, not, List, [], ◌∷◌, ◌++◌, length, Result, Ok, Err, refl, sym, ap, subst, ◌∙◌, inl, inr, append_assoc, arith}
use Rattle.std.proofs.lemmas.List.{append-nil}
use Rattle.vl_token.specs.Tok.{Tok}
use Rattle.vl_grammar.specs.Item.{Item, Spells}
use Rattle.vl_grammar.specs.Reading.{◌>>=◌}
use Rattle.vl_grammar.specs.Terminal.{is_mark}
use Rattle.vl_grammar.proofs.Spelling.{spells_both, Splits, spells_split, bind_ok, bind_err, err_is}
use Rattle.vl_grammar.proofs.Rule.{first, Alive, Stuck}
use Rattle.vl_sql.specs.declared.stmt.Stmt.{Stmt}
use Rattle.vl_sql.specs.Grammar.{Fits, statement, IsStatement}
use Rattle.vl_sql.specs.Reading.{statement_at, end_at, whole_at}
use Rattle.vl_sql.specs.Fault.{Begins, IsFault}
use Rattle.vl_sql.proofs.StatementRules.{statement_rule}

-- ---- the end

data End (ts : List Tok) : Type 0 where
  none : ts ≡ [] → end_at ts ≡ Ok tt → End ts
  semicolon : (t : Tok) → ts ≡ t ∷ [] → is_mark 59 t ≡ true → end_at ts ≡ Ok tt → End ts
  wrong : (t : Tok) (rest : List Tok) → ts ≡ t ∷ rest → is_mark 59 t ≡ false → end_at ts ≡ Err (length ts) → End ts
  behind : (t u : Tok) (rest : List Tok) → ts ≡ t ∷ u ∷ rest → is_mark 59 t ≡ true → end_at ts ≡ Err (length (u ∷ rest)) → End ts

end_of : (ts : List Tok) → End ts
end_of [] = none refl refl
end_of (t ∷ []) = by (is_mark 59 t) refl
  where
    by : (b : Bool) → is_mark 59 t ≡ b → End (t ∷ [])
    by true e = semicolon t refl e (rw e refl)
    by false e = wrong t [] refl e (rw e refl)
end_of (t ∷ u ∷ rest) = by (is_mark 59 t) refl
  where
    by : (b : Bool) → is_mark 59 t ≡ b → End (t ∷ u ∷ rest)
    by true e = behind t u rest refl e (rw e refl)
    by false e = wrong t (u ∷ rest) refl e (rw e refl)

end_wrong : (t : Tok) (other : List Tok) → is_mark 59 t ≡ false → end_at (t ∷ other) ≡ Err (length (t ∷ other))
end_wrong t [] e = rw e refl
end_wrong t (u ∷ other) e = rw e refl

end_behind : (t u : Tok) (other : List Tok) → is_mark 59 t ≡ true → end_at (t ∷ u ∷ other) ≡ Err (length (u ∷ other))
end_behind t u other e = rw e refl

-- ---- the whole by its parts

abbrev done : Stmt → Result Stmt ℕ
done s = Ok s

whole_parts : (k : ℕ) (ts : List Tok) → whole_at k ts ≡ (statement_at k ts >>= λ s. end_at s.1 >>= λ e. done s.0)
unfolding whole_at
whole_parts k ts = refl

whole_ok : (k : ℕ) (ts rest : List Tok) (s : Stmt) → statement_at k ts ≡ Ok (s, rest) → end_at rest ≡ Ok tt → whole_at k ts ≡ Ok s
whole_ok k ts rest s h e = whole_parts k ts ∙ rw (h, e) refl

whole_end : (k : ℕ) (ts rest : List Tok) (s : Stmt) (n : ℕ) → statement_at k ts ≡ Ok (s, rest) → end_at rest ≡ Err n → whole_at k ts ≡ Err n
whole_end k ts rest s n h e = whole_parts k ts ∙ rw (h, e) refl

whole_err : (k : ℕ) (ts : List Tok) (n : ℕ) → statement_at k ts ≡ Err n → whole_at k ts ≡ Err n
whole_err k ts n h = whole_parts k ts ∙ rw h refl

clash : {A : Type 0} (r : Result Stmt ℕ) (s : Stmt) (n : ℕ) → r ≡ Ok s → r ≡ Err n → A
clash r s n a b = absurd (let c : done s ≡ Err n = sym a ∙ b in cc)

-- ---- what is read is a statement, and each statement is read

pub whole_only : (k : ℕ) (s : Stmt) (ts : List Tok) → IsStatement k s ts → whole_at k ts ≡ Ok s
whole_only k s ts h = elim h.1 [
  | inl spelled ↦ whole_ok k ts [] s (ap (statement_at k) (sym (append-nil ts)) ∙ statement_rule.only k s ts [] h.0 spelled refl) refl
  | inr spelled ↦ by (spells_split (statement s) (Item.Sign 59 ∷ []) ts spelled)
]
  where
    parted : (x y : List Tok) → ts ≡ x ++ y → Spells (statement s) x → Spells (Item.Sign 59 ∷ []) y → whole_at k ts ≡ Ok s
    parted x [] e a b = absurd b
    parted x (t ∷ []) e a b = whole_ok k ts (t ∷ []) s (ap (statement_at k) e ∙ statement_rule.only k s x (t ∷ []) h.0 a (ap not b.0)) (rw b.0 refl)
    parted x (t ∷ u ∷ y) e a b = absurd b.1

    by : Splits (statement s) (Item.Sign 59 ∷ []) ts → whole_at k ts ≡ Ok s
    by z = parted z.front z.back z.parts z.first z.then_

done_is : (s q : Stmt) → done s ≡ done q → s ≡ q
done_is s q e = cc

pub whole_found : (k : ℕ) (ts : List Tok) (s : Stmt) → whole_at k ts ≡ Ok s → IsStatement k s ts
whole_found k ts s h =
    let r = bind_ok (statement_at k ts) (λ x. end_at x.1 >>= λ e. done x.0) s (sym (whole_parts k ts) ∙ h) in
    by r.value.0 r.value.1 r.first (end_of r.value.1)
  where
    same : (q : Stmt) (rest : List Tok) → statement_at k ts ≡ Ok (q, rest) → end_at rest ≡ Ok tt → q ≡ s
    same q rest g e = done_is q s (sym (whole_ok k ts rest q g e) ∙ h)

    by : (q : Stmt) (rest : List Tok) → statement_at k ts ≡ Ok (q, rest) → End rest → IsStatement k s ts
    by q rest g (none e good) =
        let l = statement_rule.found k ts q rest g in
        let is : l.witness ≡ s = l.is ∙ same q rest g good in
        let whole : l.front ≡ ts = sym (append-nil l.front) ∙ ap (λ (x : List Tok). l.front ++ x) (sym e) ∙ sym l.parts in
        (subst (Fits k) is l.fits, inl (subst (λ x. Spells (statement x) ts) is (subst (Spells (statement l.witness)) whole l.spelled)))
    by q rest g (semicolon t e m good) =
        let l = statement_rule.found k ts q rest g in
        let is : l.witness ≡ s = l.is ∙ same q rest g good in
        let whole : l.front ++ t ∷ [] ≡ ts = ap (λ (x : List Tok). l.front ++ x) (sym e) ∙ sym l.parts in
        (subst (Fits k) is l.fits, inr (subst (λ x. Spells (statement x ++ Item.Sign 59 ∷ []) ts) is (subst (Spells (statement l.witness ++ Item.Sign 59 ∷ [])) whole (spells_both (statement l.witness) (Item.Sign 59 ∷ []) l.front (t ∷ []) l.spelled (m, tt)))))
    by q rest g (wrong t r e m bad) = clash (whole_at k ts) s (length rest) h (whole_end k ts rest q (length rest) g bad)
    by q rest g (behind t u r e m bad) = clash (whole_at k ts) s (length (u ∷ r)) h (whole_end k ts rest q (length (u ∷ r)) g bad)

-- ---- where reading fails

begins_of : (k : ℕ) (before : List Tok) → Alive Fits statement k before → Begins k before
begins_of k before a = record { statement = a.witness; behind = a.more; real = a.real; is = (a.fits, inl a.spelled) }

stuck_fault : (ts : List Tok) (n : ℕ) → Stuck statement_at Fits statement 0 ts n → IsFault ts n
stuck_fault ts n s = record {
  before = s.before;
  rest = s.rest;
  parts = s.parts;
  left = s.left;
  cause = elim s.cause [
    | inl off ↦ inl (record {
      begun = begins_of 0 s.before off.alive;
      dead = λ t behind other k q e h. clash (whole_at k (s.before ++ t ∷ other)) q (length (t ∷ other)) (whole_only k q (s.before ++ t ∷ other) h)
          (whole_err k (s.before ++ t ∷ other) (length (t ∷ other)) (off.local k (t ∷ other) (omega arith) (ap first e)));
    })
    | inr over ↦ inr (record {
      front = over.past.front;
      last = over.past.last;
      parts = over.past.parts;
      begun = begins_of 0 over.past.front over.past.within;
      more = over.past.slack;
      beyond = begins_of over.past.slack s.before over.past.beyond;
      dead = λ other q h. clash (whole_at 0 (s.before ++ other)) q (length other) (whole_only 0 q (s.before ++ other) h) (whole_err 0 (s.before ++ other) (length other) (over.local other));
    })
  ];
}

pub whole_fault : (ts : List Tok) (n : ℕ) → whole_at 0 ts ≡ Err n → IsFault ts n
whole_fault ts n h =
    elim (bind_err (statement_at 0 ts) (λ x. end_at x.1 >>= λ e. done x.0) n (sym (whole_parts 0 ts) ∙ h)) [
      | inl f ↦ stuck_fault ts n (statement_rule.fault 0 ts n f)
      | inr r ↦ by r.value.0 r.value.1 r.first (end_of r.value.1)
    ]
  where
    by : (q : Stmt) (rest : List Tok) → statement_at 0 ts ≡ Ok (q, rest) → End rest → IsFault ts n
    by q rest g (none e good) = clash (whole_at 0 ts) q n (whole_ok 0 ts rest q g good) h
    by q rest g (semicolon t e m good) = clash (whole_at 0 ts) q n (whole_ok 0 ts rest q g good) h
    by q rest g (wrong t r e m bad) =
        let l = statement_rule.found 0 ts q rest g in record {
          before = l.front;
          rest = rest;
          parts = l.parts;
          left = err_is {B = Stmt} (length rest) n (sym (whole_end 0 ts rest q (length rest) g bad) ∙ h);
          cause = inl (record {
            begun = record { statement = l.witness; behind = []; real = tt; is = (l.fits, inl (subst (Spells (statement l.witness)) (sym (append-nil l.front)) l.spelled)) };
            dead = λ t' behind other k s e' z. off t' other k s l.front (sym e ∙ e') (l.local k (t' ∷ other) (omega arith) (ap first e')) z;
          });
        }
      where
        off : (t' : Tok) (other : List Tok) (k : ℕ) (s : Stmt) (front : List Tok) {b : List Tok} → t ∷ r ≡ t' ∷ b → statement_at k (front ++ t' ∷ other) ≡ Ok (q, t' ∷ other) → IsStatement k s (front ++ t' ∷ other) → ⊥
        off t' other k s front e' local z =
            let same : t ≡ t' = cc in
            clash (whole_at k (front ++ t' ∷ other)) s (length (t' ∷ other)) (whole_only k s (front ++ t' ∷ other) z)
            (whole_end k (front ++ t' ∷ other) (t' ∷ other) q (length (t' ∷ other)) local (end_wrong t' other (ap (is_mark 59) (sym same) ∙ m)))
    by q rest g (behind t u r e m bad) =
        let l = statement_rule.found 0 ts q rest g in record {
          before = l.front ++ t ∷ [];
          rest = u ∷ r;
          parts = l.parts ∙ ap (λ (x : List Tok). l.front ++ x) e ∙ sym (append_assoc l.front (t ∷ []) (u ∷ r));
          left = err_is {B = Stmt} (length (u ∷ r)) n (sym (whole_end 0 ts rest q (length (u ∷ r)) g bad) ∙ h);
          cause = inl (record {
            begun = record {
              statement = l.witness;
              behind = [];
              real = tt;
              is = (l.fits, inr (subst (Spells (statement l.witness ++ Item.Sign 59 ∷ [])) (sym (append-nil (l.front ++ t ∷ []))) (spells_both (statement l.witness) (Item.Sign 59 ∷ []) l.front (t ∷ []) l.spelled (m, tt))));
            };
            dead = λ u' behind other k s e' z. off u' other k s l.front (l.local k (t ∷ u' ∷ other) (omega arith) (ap first e)) (subst (IsStatement k s) (append_assoc l.front (t ∷ []) (u' ∷ other)) z);
          });
        }
      where
        off : (u' : Tok) (other : List Tok) (k : ℕ) (s : Stmt) (front : List Tok) → statement_at k (front ++ t ∷ u' ∷ other) ≡ Ok (q, t ∷ u' ∷ other) → IsStatement k s (front ++ t ∷ u' ∷ other) → ⊥
        off u' other k s front local z =
            clash (whole_at k (front ++ t ∷ u' ∷ other)) s (length (u' ∷ other)) (whole_only k s (front ++ t ∷ u' ∷ other) z)
            (whole_end k (front ++ t ∷ u' ∷ other) (t ∷ u' ∷ other) q (length (u' ∷ other)) local (end_behind t u' other m))

-- tokens are one statement at most
pub one_statement : (k : ℕ) (s q : Stmt) (ts : List Tok) → IsStatement k s ts → IsStatement k q ts → s ≡ q
one_statement k s q ts a b = done_is s q (sym (whole_only k s ts a) ∙ whole_only k q ts b)

-- what the program's answer says of the tokens
pub read_is : (ts read : List Tok) (s : Stmt) → whole_at 0 read ≡ Ok s → read ≡ ts → IsStatement 0 s ts
read_is ts read s h e = whole_found 0 ts s (ap (whole_at 0) (sym e) ∙ h)

pub read_only : (ts read : List Tok) (s : Stmt) → whole_at 0 read ≡ Ok s → read ≡ ts → (q : Stmt) → IsStatement 0 q ts → s ≡ q
read_only ts read s h e q is = done_is s q (sym (ap (whole_at 0) (sym e) ∙ h) ∙ whole_only 0 q ts is)

pub read_none : (ts read : List Tok) (n : ℕ) → whole_at 0 read ≡ Err n → read ≡ ts → (q : Stmt) → IsStatement 0 q ts → ⊥
read_none ts read n h e q is = clash (whole_at 0 ts) q n (whole_only 0 q ts is) (ap (whole_at 0) (sym e) ∙ h)

pub read_fault : (ts read : List Tok) (n : ℕ) → whole_at 0 read ≡ Err n → read ≡ ts → IsFault ts n
read_fault ts read n h e = whole_fault ts n (ap (whole_at 0) (sym e) ∙ h)
