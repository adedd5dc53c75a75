-- Which texts are `run` lines, and which are passed over.
use Rattle.std.proofs.Common.{◌≡◌, ◌∙◌, ◌<◌, ◌≤◌, ◌↔◌, ap, sym, refl, subst, ℕ, true, List, [], ◌∷◌, ◌++◌, nat_eq, IsTrue, arith, eq-eqb, length, get_or, Option, IsSome}
use Rattle.std.specs.Prelude.{codes}
use Rattle.std.proofs.lemmas.Bool.{eqb-true}
use Rattle.std.proofs.lemmas.List.{append_cancel_left}
use Rattle.vl_insert_text.specs.Insert.{Says}
use Rattle.vl_model.specs.ScriptLine.{Asks, IsSkipped}
use Rattle.vl_model.specs.Taken.{IsTaken}
use Rattle.vl_model.specs.ScriptLine.IsSkipped.{Empty, Comment}
use Rattle.vl_sql.specs.declared.stmt.Stmt.{Stmt}

-- a `run` line is `run s1 ` and a text that says its statement
pub asks_said : (text said : List ℕ) (stmt : Stmt) → text ≡ codes "run s1 " ++ said → Says said stmt → Asks text stmt
asks_said text said stmt front says =
    (says.0, says.1, says.2.0, says.2.1, front ∙ ap (λ l. codes "run s1 " ++ l) says.2.2, says.2.3, says.2.4, says.3)

pub asks_begins : (text : List ℕ) (stmt : Stmt) → Asks text stmt → (said : List ℕ) × (text ≡ codes "run s1 " ++ said)
asks_begins text stmt asks = (codes "INSERT INTO t1(id,u) VALUES(" ++ (asks.2 ++ (codes "," ++ (asks.3 ++ codes ")"))), asks.4)

pub said_asks : (text said : List ℕ) (stmt : Stmt) → text ≡ codes "run s1 " ++ said → Asks text stmt → Says said stmt
said_asks text said stmt front asks =
    let spelled = append_cancel_left (codes "run s1 ") said (codes "INSERT INTO t1(id,u) VALUES(" ++ (asks.2 ++ (codes "," ++ (asks.3 ++ codes ")")))) (sym front ∙ asks.4) in
    (asks.0, asks.1, (asks.2, asks.3, spelled, asks.5, asks.6), asks.7)

-- the core takes the statement of a `run` line
pub asks_taken : (text : List ℕ) (stmt : Stmt) → Asks text stmt → IsTaken stmt
asks_taken text stmt asks = subst (λ (found : Option (ℕ × ℕ)). IsSome found) (sym asks.7) refl

-- the first byte of a skipped line that isn't empty
HasMark : List ℕ → Type 0
HasMark [] = Unit {0}
HasMark (b ∷ text) = b ≡ 35

skips_mark : (text : List ℕ) → IsSkipped text → HasMark text
unfolding HasMark
skips_mark _ Empty = tt
skips_mark _ (Comment text) = refl

skips_mark_is : (b : ℕ) (text : List ℕ) → IsSkipped (b ∷ text) → b ≡ 35
unfolding HasMark
skips_mark_is b text s = skips_mark (b ∷ text) s

-- an empty text is skipped
pub skips_empty : (text : List ℕ) → length text < 1 → IsTrue true ↔ IsSkipped text
skips_empty [] short = (λ t. Empty, λ s. refl)
skips_empty (b ∷ text) short = absurd (omega arith)

-- another is skipped exactly by its first byte
pub skips_first : (text : List ℕ) → 1 ≤ length text → IsTrue (nat_eq (get_or text 0 0) 35) ↔ IsSkipped text
skips_first [] long = absurd (omega arith)
skips_first (b ∷ text) long = (
  λ t. subst (λ (v : ℕ). IsSkipped (v ∷ text)) (sym (eqb-true b 35 t)) (Comment text),
  λ s. eq-eqb b 35 (skips_mark_is b text s),
)
