-- Lines that are answered, one after another.
use Rattle.std.proofs.Common.{◌∙◌, ◌+◌, ◌<◌, ◌≤◌, ap, sym, refl, subst, ℕ, List, [], ◌∷◌, ◌++◌, arith, append_assoc, append-nil, length}
use Rattle.vl_model.specs.Steps.{Rows}
use Rattle.vtgate_cl.specs.Script.{Plays, Answers, line_limit, count_limit}

-- one line more at the end
pub plays_push : (lines : List (List ℕ)) (n : ℕ) (old mid new : Rows) (text more line : List ℕ) → Plays n old lines text mid → length line ≤ line_limit → n + length lines < count_limit → Answers mid line new more
    → Plays n old (lines ++ line ∷ []) (text ++ more) new
plays_push [] n old mid new text more line played short early answered =
    (new, more, [], ap (λ v. v ++ more) played.0 ∙ sym (append-nil more), short, omega arith, subst (λ (v : Rows). Answers v line new more) played.1 answered, (refl, refl))
plays_push (first ∷ others) n old mid new text more line played short early answered =
    (played.0, played.1, played.2 ++ more, ap (λ v. v ++ more) played.3 ∙ append_assoc played.1 played.2 more, played.4, played.5, played.6, plays_push others (n + 1) played.0 mid new played.2 more line played.7 short (omega arith) answered)
