-- What statements do to the transaction of their session, row by row.
use Rattle.std.proofs.Common.{◌≡◌, ℕ, Bool, true, false, [], Option, Some, None, refl}
use Rattle.vl_sql.specs.declared.stmt.Stmt.{Stmt}
use Rattle.vl_sql.specs.declared.stmt.Stmt.TheVariants as stmts
use Rattle.vl_sql.specs.declared.table.TableName.{TableName}
use Rattle.vl_run.specs.declared.request.Request.TheVariants as requests
use Rattle.vl_run.specs.declared.tag.Tag.{Tag}
use Rattle.vl_run.specs.declared.tag.Tag.TheVariants as tags
use Rattle.vl_run.specs.Session.{Owned, Session, fresh, is_committing, is_kept, kind_of, opens_first, session_after}

-- an open transaction of BEGIN, and that of a statement alone
abbrev open_tx : ℕ → Option Owned
open_tx number = Some (record { number = number; single = false })

abbrev single_tx : ℕ → Option Owned
single_tx number = Some (record { number = number; single = true })

abbrev with_tx : Option Owned → Session
with_tx owned = record fresh { owned = owned }

abbrev manual : Option Owned → Session
manual owned = record fresh { auto = false; owned = owned }

abbrev delete : TableName → Stmt
delete t = stmts.Delete t []

abbrev ok : Bool → Bool → Tag
ok tx auto = tags.Ok 0 0 0 tx auto

-- ---- BEGIN

pub begin_opens : session_after (requests.Say stmts.Begin) (ok true true) (Some 4) fresh ≡ with_tx (open_tx 4)
begin_opens = refl

-- in an open transaction it commits that one, and opens the next
pub begin_again : is_committing (kind_of stmts.Begin) (open_tx 4) ≡ true
begin_again = refl

pub begin_again_opens : session_after (requests.Say stmts.Begin) (ok true true) (Some 5) (with_tx (open_tx 4)) ≡ with_tx (open_tx 5)
begin_again_opens = refl

-- ---- COMMIT and ROLLBACK, and the same without a transaction

pub commit_ends : session_after (requests.Say stmts.Commit) (ok false true) None (with_tx (open_tx 4)) ≡ fresh
commit_ends = refl

pub commit_of_none : is_committing (kind_of stmts.Commit) None ≡ false
commit_of_none = refl

pub rollback_ends : session_after (requests.Say stmts.Rollback) (ok false false) None (manual (open_tx 4)) ≡ manual None
rollback_ends = refl

pub rollback_commits_nothing : is_committing (kind_of stmts.Rollback) (open_tx 4) ≡ false
rollback_commits_nothing = refl

-- ---- statements on a table

-- with autocommit on and no transaction a statement has one of its own, which ends with it
pub single_opens : (t : TableName) → (session_after (requests.Say (delete t)) tags.More (Some 4) fresh).owned ≡ single_tx 4
single_opens t = refl

pub single_commits : (t : TableName) → is_committing (kind_of (delete t)) (single_tx 4) ≡ true
single_commits t = refl

pub single_ends : (t : TableName) → session_after (requests.Say (delete t)) (ok false true) (Some 4) fresh ≡ fresh
single_ends t = refl

pub single_is_never_kept : (wrote whole : Bool) → is_kept wrote whole (single_tx 4) ≡ false
single_is_never_kept wrote whole = refl

-- in a transaction it opens none, and leaves it open
pub inner_opens_none : (t : TableName) → opens_first (kind_of (delete t)) (open_tx 4) ≡ false
inner_opens_none t = refl

pub inner_stays : (t : TableName) → session_after (requests.Say (delete t)) (ok true true) None (with_tx (open_tx 4)) ≡ with_tx (open_tx 4)
inner_stays t = refl

-- a refusal before the first write leaves it open, one after it ends it, and so does a session that was lost
pub refused_before_a_write : is_kept false false (open_tx 4) ≡ true
refused_before_a_write = refl

pub refused_after_a_write : is_kept true false (open_tx 4) ≡ false
refused_after_a_write = refl

pub refused_for_a_loss : is_kept false true (open_tx 4) ≡ false
refused_for_a_loss = refl

-- ---- autocommit

-- off, the first statement on a table opens a transaction, which stays
pub manual_opens : (t : TableName) → session_after (requests.Say (delete t)) (ok true false) (Some 4) (manual None) ≡ manual (open_tx 4)
manual_opens t = refl

pub off_commits_nothing : is_committing (kind_of (stmts.SetAutocommit false)) (open_tx 4) ≡ false
off_commits_nothing = refl

pub off_keeps : session_after (requests.Say (stmts.SetAutocommit false)) (ok true false) None (with_tx (open_tx 4)) ≡ manual (open_tx 4)
off_keeps = refl

pub on_commits : is_committing (kind_of (stmts.SetAutocommit true)) (open_tx 4) ≡ true
on_commits = refl

pub on_ends : session_after (requests.Say (stmts.SetAutocommit true)) (ok false true) None (manual (open_tx 4)) ≡ fresh
on_ends = refl

-- a SET that was refused leaves autocommit as it was
pub on_refused : session_after (requests.Say (stmts.SetAutocommit true)) (tags.Err 1105 false) None (manual (open_tx 4)) ≡ manual None
on_refused = refl

-- ---- Reset and Leave

pub reset_begins_anew : session_after requests.Reset (ok false true) None (manual (open_tx 4)) ≡ fresh
reset_begins_anew = refl

pub leave_leaves_nothing : session_after requests.Leave tags.Nothing None (manual (open_tx 4)) ≡ fresh
leave_leaves_nothing = refl
