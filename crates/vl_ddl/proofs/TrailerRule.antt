-- The law of a table's options, with their brackets matched, and the `;` behind them.
use Rattle.std.proofs.Common.{◌≡◌, ℕ, zero, suc, ◌==◌, eqb-true, Bool, true, false, ◌||◌, List, [], ◌∷◌, ◌++◌, length, Ok, Err, refl, sym, ap, subst, ◌∙◌, inl}
use Rattle.std.specs.List.{AllByRecursion}
use Rattle.vl_token.specs.Tok.{Tok}
use Rattle.vl_token.specs.Tok.Tok.{Word, Quoted, Text, Hex, Number, Variable, Mark, Bad}
use Rattle.vl_token.proofs.Lexing.{differs}
use Rattle.vl_grammar.specs.Item.{Item, IsA, Spells}
use Rattle.vl_grammar.specs.Terminal.{is_mark}
use Rattle.vl_grammar.proofs.Spelling.{okay, ok_parts, err_is}
use Rattle.vl_grammar.proofs.Rule.{IsReal, Rule, never, first}
use Rattle.vl_ddl.specs.Words.{is_option}
use Rattle.vl_ddl.specs.Grammar.{Piece, piece, pieces, are_matched}
use Rattle.vl_ddl.specs.Meaning.{has_pieces}
use Rattle.vl_ddl.specs.Reading.{trailer_at}
use Rattle.vl_ddl.proofs.PartRules.{mark_other, shut_real, end_real}

-- ---- what one token does

abbrev is_option_mark : ℕ → Bool
is_option_mark b = b == 61 || b == 44 || b == 46 || b == 43 || b == 45

no_bracket : (c : ℕ) (t : Tok) → is_option_mark c ≡ false → is_option t ≡ true → is_mark c t ≡ false
no_bracket c (Word w) apart h = refl
no_bracket c (Quoted w) apart h = refl
no_bracket c (Text w) apart h = refl
no_bracket c (Hex w) apart h = refl
no_bracket c (Number m w) apart h = refl
no_bracket c (Variable w) apart h = refl
no_bracket c (Mark b) apart h = differs is_option_mark b c h apart
no_bracket c Bad apart h = refl

end_no_option : (t : Tok) → is_mark 59 t ≡ true → is_option t ≡ false
end_no_option (Word w) h = absurd (let clash : false ≡ true = h in cc)
end_no_option (Quoted w) h = absurd (let clash : false ≡ true = h in cc)
end_no_option (Text w) h = absurd (let clash : false ≡ true = h in cc)
end_no_option (Hex w) h = refl
end_no_option (Number m w) h = absurd (let clash : false ≡ true = h in cc)
end_no_option (Variable w) h = refl
end_no_option (Mark b) h = ap is_option_mark (eqb-true b 59 h)
end_no_option Bad h = refl

opened : (d : ℕ) (b : Bool) (t : Tok) (ts : List Tok) → is_mark 40 t ≡ true → trailer_at d b (t ∷ ts) ≡ trailer_at (suc d) true ts
unfolding trailer_at
opened zero b t ts h = rw h refl
opened (suc d) b t ts h = rw h refl

shut : (d : ℕ) (b : Bool) (t : Tok) (ts : List Tok) → is_mark 41 t ≡ true → trailer_at (suc d) b (t ∷ ts) ≡ trailer_at d true ts
unfolding trailer_at
shut d b t ts h = rw (mark_other 41 40 t refl h, h) refl

shut_none : (b : Bool) (t : Tok) (ts : List Tok) → is_mark 41 t ≡ true → trailer_at 0 b (t ∷ ts) ≡ Err (length (t ∷ ts))
unfolding trailer_at
shut_none b t ts h = rw (mark_other 41 40 t refl h, h) refl

passed : (d : ℕ) (b : Bool) (t : Tok) (ts : List Tok) → is_option t ≡ true → trailer_at d b (t ∷ ts) ≡ trailer_at d true ts
unfolding trailer_at
passed zero b t ts h = rw (no_bracket 40 t refl h, no_bracket 41 t refl h, h) refl
passed (suc d) b t ts h = rw (no_bracket 40 t refl h, no_bracket 41 t refl h, h) refl

ended : (b : Bool) (t : Tok) (ts : List Tok) → is_mark 59 t ≡ true → trailer_at 0 b (t ∷ ts) ≡ Ok (b, ts)
unfolding trailer_at
ended b t ts h = rw (mark_other 59 40 t refl h, mark_other 59 41 t refl h, end_no_option t h, h) refl

stuck : (d : ℕ) (b : Bool) (t : Tok) (ts : List Tok) → is_mark 40 t ≡ false → is_mark 41 t ≡ false → is_option t ≡ false → trailer_at (suc d) b (t ∷ ts) ≡ Err (length (t ∷ ts))
unfolding trailer_at
stuck d b t ts e f g = rw (e, f, g) refl

stuck_none : (b : Bool) (t : Tok) (ts : List Tok) → is_mark 40 t ≡ false → is_mark 41 t ≡ false → is_option t ≡ false → is_mark 59 t ≡ false → trailer_at 0 b (t ∷ ts) ≡ Err (length (t ∷ ts))
unfolding trailer_at
stuck_none b t ts e f g h = rw (e, f, g, h) refl

nothing : (d : ℕ) (b : Bool) → trailer_at d b [] ≡ Err 0
unfolding trailer_at
nothing d b = refl

-- a token goes on with the options, ends them, or neither
data Turn (d : ℕ) (t : Tok) : Type 0 where
  on : (p : Piece) (d' : ℕ) → IsA (piece p) t → ((ps : List Piece) → are_matched d (p ∷ ps) ≡ are_matched d' ps) → ((b : Bool) (ts : List Tok) → trailer_at d b (t ∷ ts) ≡ trailer_at d' true ts) → Turn d t
  ends : are_matched d [] ≡ true → is_mark 59 t ≡ true → ((b : Bool) (ts : List Tok) → trailer_at d b (t ∷ ts) ≡ Ok (b, ts)) → Turn d t
  wrong : ((b : Bool) (ts : List Tok) → trailer_at d b (t ∷ ts) ≡ Err (length (t ∷ ts))) → Turn d t

turn_of : (d : ℕ) (t : Tok) → Turn d t
turn_of d t = by d (is_mark 40 t) (is_mark 41 t) (is_option t) (is_mark 59 t) refl refl refl refl
  where
    by : (d : ℕ) (v w x y : Bool) → is_mark 40 t ≡ v → is_mark 41 t ≡ w → is_option t ≡ x → is_mark 59 t ≡ y → Turn d t
    by zero true w x y e f g h = on Piece.Open 1 e (λ ps. refl) (λ b ts. opened zero b t ts e)
    by (suc d) true w x y e f g h = on Piece.Open (suc (suc d)) e (λ ps. refl) (λ b ts. opened (suc d) b t ts e)
    by zero false true x y e f g h = wrong (λ b ts. shut_none b t ts f)
    by (suc d) false true x y e f g h = on Piece.Shut d f (λ ps. refl) (λ b ts. shut d b t ts f)
    by zero false false true y e f g h = on Piece.Plain zero g (λ ps. refl) (λ b ts. passed zero b t ts g)
    by (suc d) false false true y e f g h = on Piece.Plain (suc d) g (λ ps. refl) (λ b ts. passed (suc d) b t ts g)
    by zero false false false true e f g h = ends refl h (λ b ts. ended b t ts h)
    by zero false false false false e f g h = wrong (λ b ts. stuck_none b t ts e f g h)
    by (suc d) false false false y e f g h = wrong (λ b ts. stuck d b t ts e f g)

-- ---- the law at any depth

abbrev trailer : List Piece → List Item
trailer ps = pieces ps ++ Item.Sign 59 ∷ []

record Reached (d : ℕ) (b : Bool) (ts : List Tok) (a : Bool) (rest : List Tok) : Type 0 where
  pub ps : List Piece
  pub front : List Tok
  pub parts : ts ≡ front ++ rest
  pub is : (b || has_pieces ps) ≡ a
  pub matched : are_matched d ps ≡ true
  pub spelled : Spells (trailer ps) front
  pub local : (other : List Tok) → trailer_at d b (front ++ other) ≡ Ok (a, other)

or_none : (b : Bool) → (b || false) ≡ b
or_none true = refl
or_none false = refl

or_some : (b : Bool) → (b || true) ≡ true
or_some true = refl
or_some false = refl

reached_on : (d d' : ℕ) (b : Bool) (t : Tok) (ts : List Tok) (a : Bool) (rest : List Tok) (p : Piece) → IsA (piece p) t → ((ps : List Piece) → are_matched d (p ∷ ps) ≡ are_matched d' ps)
    → ((b : Bool) (ts : List Tok) → trailer_at d b (t ∷ ts) ≡ trailer_at d' true ts) → Reached d' true ts a rest → Reached d b (t ∷ ts) a rest
reached_on d d' b t ts a rest p is m step r = record {
  ps = p ∷ r.ps;
  front = t ∷ r.front;
  parts = ap (λ (x : List Tok). t ∷ x) r.parts;
  is = or_some b ∙ r.is;
  matched = m r.ps ∙ r.matched;
  spelled = (is, r.spelled);
  local = λ other. step b (r.front ++ other) ∙ r.local other;
}

reached : (ts : List Tok) (d : ℕ) (b : Bool) (a : Bool) (rest : List Tok) → trailer_at d b ts ≡ Ok (a, rest) → Reached d b ts a rest
reached [] d b a rest h = absurd (let clash : Err 0 ≡ okay a rest = sym (nothing d b) ∙ h in cc)
reached (t ∷ ts) d b a rest h = by (turn_of d t) (λ d' e. reached ts d' true a rest e)
  where
    by : Turn d t → ((d' : ℕ) → trailer_at d' true ts ≡ Ok (a, rest) → Reached d' true ts a rest) → Reached d b (t ∷ ts) a rest
    by (on p d' is m step) rec = reached_on d d' b t ts a rest p is m step (rec d' (sym (step b ts) ∙ h))
    by (ends m is step) rec =
        let parts = ok_parts b a ts rest (sym (step b ts) ∙ h) in
        record {
          ps = [];
          front = t ∷ [];
          parts = ap (λ (x : List Tok). t ∷ x) parts.1;
          is = or_none b ∙ parts.0;
          matched = m;
          spelled = (is, tt);
          local = λ other. step b other ∙ ap (λ (x : Bool). okay x other) parts.0;
        }
    by (wrong step) rec = absurd (let clash : Err (length (t ∷ ts)) ≡ okay a rest = sym (step b ts) ∙ h in cc)

-- each piece that is spelled is passed
piece_step : (p : Piece) (d : ℕ) (b : Bool) (t : Tok) (ts : List Tok) (ps : List Piece) → IsA (piece p) t → are_matched d (p ∷ ps) ≡ true → (d' : ℕ) × (are_matched d' ps ≡ true) × (trailer_at d b (t ∷ ts) ≡ trailer_at d' true ts)
piece_step Piece.Open zero b t ts ps is m = (1, m, opened zero b t ts is)
piece_step Piece.Open (suc d) b t ts ps is m = (suc (suc d), m, opened (suc d) b t ts is)
piece_step Piece.Shut zero b t ts ps is m = absurd (let clash : false ≡ true = m in cc)
piece_step Piece.Shut (suc d) b t ts ps is m = (d, m, shut d b t ts is)
piece_step Piece.Plain zero b t ts ps is m = (zero, m, passed zero b t ts is)
piece_step Piece.Plain (suc d) b t ts ps is m = (suc d, m, passed (suc d) b t ts is)

read_all : (ps : List Piece) (d : ℕ) (b : Bool) (front rest : List Tok) → are_matched d ps ≡ true → Spells (trailer ps) front → trailer_at d b (front ++ rest) ≡ Ok (b || has_pieces ps, rest)
read_all [] zero b [] rest m s = absurd s
read_all [] (suc d) b front rest m s = absurd (let clash : false ≡ true = m in cc)
read_all [] zero b (t ∷ []) rest m s = ended b t rest s.0 ∙ ap (λ (x : Bool). okay x rest) (sym (or_none b))
read_all [] zero b (t ∷ u ∷ front) rest m s = absurd s.1
read_all (p ∷ ps) d b [] rest m s = absurd s
read_all (p ∷ ps) d b (t ∷ front) rest m s =
    let step = piece_step p d b t (front ++ rest) ps s.0 m in
    step.2 ∙ read_all ps step.0 true front rest step.1 s.1 ∙ ap (λ (x : Bool). okay x rest) (sym (or_some b))

-- so many brackets and the `;`
closing : ℕ → List Piece
closing zero = []
closing (suc d) = Piece.Shut ∷ closing d

closed : ℕ → List Tok
closed zero = Mark 59 ∷ []
closed (suc d) = Mark 41 ∷ closed d

closing_matched : (d : ℕ) → are_matched d (closing d) ≡ true
unfolding closing
closing_matched zero = refl
closing_matched (suc d) = closing_matched d

closed_spelled : (d : ℕ) → Spells (trailer (closing d)) (closed d)
unfolding closing closed
closed_spelled zero = (refl, tt)
closed_spelled (suc d) = (refl, closed_spelled d)

closed_real : (d : ℕ) → AllByRecursion IsReal (closed d)
unfolding closed
closed_real zero = (end_real, tt)
closed_real (suc d) = (shut_real, closed_real d)

record Stopped (d : ℕ) (b : Bool) (ts : List Tok) (n : ℕ) : Type 0 where
  pub before : List Tok
  pub rest : List Tok
  pub parts : ts ≡ before ++ rest
  pub left : length rest ≡ n
  pub ps : List Piece
  pub more : List Tok
  pub real : AllByRecursion IsReal more
  pub matched : are_matched d ps ≡ true
  pub spelled : Spells (trailer ps) (before ++ more)
  pub local : (other : List Tok) → first rest ≡ first other → trailer_at d b (before ++ other) ≡ Err (length other)

stopped_here : (d : ℕ) (b : Bool) (ts : List Tok) (n : ℕ) → length ts ≡ n → ((other : List Tok) → first ts ≡ first other → trailer_at d b other ≡ Err (length other)) → Stopped d b ts n
stopped_here d b ts n left local = record {
  before = [];
  rest = ts;
  parts = refl;
  left = left;
  ps = closing d;
  more = closed d;
  real = closed_real d;
  matched = closing_matched d;
  spelled = closed_spelled d;
  local = local;
}

stopped_on : (d d' : ℕ) (b : Bool) (t : Tok) (ts : List Tok) (n : ℕ) (p : Piece) → IsA (piece p) t → ((ps : List Piece) → are_matched d (p ∷ ps) ≡ are_matched d' ps)
    → ((b : Bool) (ts : List Tok) → trailer_at d b (t ∷ ts) ≡ trailer_at d' true ts) → Stopped d' true ts n → Stopped d b (t ∷ ts) n
stopped_on d d' b t ts n p is m step s = record {
  before = t ∷ s.before;
  rest = s.rest;
  parts = ap (λ (x : List Tok). t ∷ x) s.parts;
  left = s.left;
  ps = p ∷ s.ps;
  more = s.more;
  real = s.real;
  matched = m s.ps ∙ s.matched;
  spelled = (is, s.spelled);
  local = λ other same. step b (s.before ++ other) ∙ s.local other same;
}

nothing_more : (d : ℕ) (b : Bool) (other : List Tok) → first [] ≡ first other → trailer_at d b other ≡ Err (length other)
nothing_more d b [] same = nothing d b
nothing_more d b (t ∷ other) same = absurd cc

wrong_here : (d : ℕ) (b : Bool) (t : Tok) (ts other : List Tok) → ((b : Bool) (ts : List Tok) → trailer_at d b (t ∷ ts) ≡ Err (length (t ∷ ts))) → first (t ∷ ts) ≡ first other → trailer_at d b other ≡ Err (length other)
wrong_here d b t ts [] step same = absurd cc
wrong_here d b t ts (u ∷ other) step same = let h : t ≡ u = cc in subst (λ u. trailer_at d b (u ∷ other) ≡ Err (length (u ∷ other))) h (step b other)

stopped : (ts : List Tok) (d : ℕ) (b : Bool) (n : ℕ) → trailer_at d b ts ≡ Err n → Stopped d b ts n
stopped [] d b n h = stopped_here d b [] n (err_is {B = Bool × List Tok} 0 n (sym (nothing d b) ∙ h)) (nothing_more d b)
stopped (t ∷ ts) d b n h = by (turn_of d t) (λ d' e. stopped ts d' true n e)
  where
    by : Turn d t → ((d' : ℕ) → trailer_at d' true ts ≡ Err n → Stopped d' true ts n) → Stopped d b (t ∷ ts) n
    by (on p d' is m step) rec = stopped_on d d' b t ts n p is m step (rec d' (sym (step b ts) ∙ h))
    by (ends m is step) rec = absurd (let clash : okay b ts ≡ Err n = sym (step b ts) ∙ h in cc)
    by (wrong step) rec = stopped_here d b (t ∷ ts) n (err_is {B = Bool × List Tok} (length (t ∷ ts)) n (sym (step b ts) ∙ h)) (λ other same. wrong_here d b t ts other step same)

pub trailer_rule : Rule (λ k ts. trailer_at 0 false ts) has_pieces (λ k ps. are_matched 0 ps ≡ true) (λ ps. pieces ps ++ Item.Sign 59 ∷ []) never
unfolding closing closed
trailer_rule = record {
  found = λ k ts a rest e.
      let r = reached ts 0 false a rest e in
      record { witness = r.ps; front = r.front; parts = r.parts; is = r.is; fits = r.matched; spelled = r.spelled; local = λ m other le same. r.local other };
  only = λ k ps front rest fits s stops. read_all ps 0 false front rest fits s;
  fault = λ k ts n e.
      let s = stopped ts 0 false n e in
      record {
        before = s.before;
        rest = s.rest;
        parts = s.parts;
        left = s.left;
        cause = inl (record { alive = record { witness = s.ps; more = s.more; real = s.real; fits = s.matched; spelled = s.spelled }; local = λ m other le same. s.local other same });
      };
  wide = λ k m ps le fits. fits;
  some = λ k. record { witness = []; more = Mark 59 ∷ []; real = (end_real, tt); fits = refl; spelled = (refl, tt) };
}
