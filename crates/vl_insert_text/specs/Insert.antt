-- What a text says as a statement.
use Rattle.std.specs.Prelude.{◌≡◌, ℕ, List, ◌++◌, codes, Some}
use Rattle.vl_sql.specs.declared.stmt.Stmt.{Stmt}
use Rattle.vl_model.specs.ScriptLine.{IsNumber}
use Rattle.vl_model.specs.Taken.{insert_of}

-- the text is `INSERT INTO t1(id,u) VALUES(N,M)`, byte for byte, of these two numbers
abbrev pub Spells : List ℕ → ℕ → ℕ → Type 0
Spells text id u = (n : List ℕ) × (m : List ℕ)
    × (text ≡ codes "INSERT INTO t1(id,u) VALUES(" ++ (n ++ (codes "," ++ (m ++ codes ")")))) × IsNumber n id × IsNumber m u

-- and the statement is the INSERT of them
abbrev pub Says : List ℕ → Stmt → Type 0
Says text stmt = (id : ℕ) × (u : ℕ) × Spells text id u × (insert_of stmt ≡ Some (id, u))
