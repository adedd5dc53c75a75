-- Which statements are answered here.
use Rattle.std.specs.Prelude.{Bool, true, false}
use Rattle.vl_sql.specs.declared.stmt.Stmt.{Stmt}
use Rattle.vl_sql.specs.declared.stmt.Stmt.TheVariants as stmts

-- a statement with a result set that reads no table
abbrev pub is_local : Stmt → Bool
is_local (stmts.Insert t names rows) = false
is_local (stmts.Select what t tests orders limit lock) = false
is_local (stmts.Update t assignments tests) = false
is_local (stmts.Delete t tests) = false
is_local stmts.Begin = false
is_local stmts.StartTransaction = false
is_local stmts.Commit = false
is_local stmts.Rollback = false
is_local (stmts.SetAutocommit on) = false
is_local (stmts.SetNames charset) = false
is_local (stmts.Use name) = false
is_local stmts.ShowTables = true
is_local stmts.ShowDatabases = true
is_local stmts.ShowWarnings = true
is_local stmts.SelectVersionComment = true
is_local stmts.SelectDatabase = true
