-- How far the statement in progress of a client session has come: words of the run, each said of the session's own events
-- since it said the statement.
use Rattle.std.specs.Prelude.{◌==◌, ◌+◌, ◌||◌, not, if◌then◌else◌, ℕ, Bool, true, false, List, [], ◌∷◌, ◌++◌, Option, Some, None}
use Rattle.vl_values.specs.declared.group.Group.{Group}
use Rattle.vl_values.specs.declared.group.Group.TheVariants.{Pre, Main, Post}
use Rattle.vl_values.specs.declared.key.Key.{Key}
use Rattle.vl_values.specs.declared.warning.Warning.{Warning}
use Rattle.vl_values.specs.declared.warning.Warning.TheVariants as warnings
use Rattle.vl_sql.specs.declared.stmt.Stmt.{Stmt}
use Rattle.vl_sql.specs.declared.stmt.Stmt.TheVariants as stmts
use Rattle.vl_catalog.specs.declared.catalog.Catalog.{Catalog}
use Rattle.vl_text.specs.ShardText.{shard_text}
use Rattle.vl_port.specs.declared.act.Act.{Act}
use Rattle.vl_port.specs.declared.act.Act.TheVariants.{Insert, RemoveIf}
use Rattle.vl_port.specs.Acting.{row_left}
use Rattle.vl_port.specs.View.{Values}
use Rattle.vl_run.specs.declared.deed.Deed.{Deed}
use Rattle.vl_run.specs.declared.deed.Deed.TheVariants as deeds
use Rattle.vl_run.specs.declared.event.Event.{Event}
use Rattle.vl_run.specs.declared.fault.Fault.{Fault}
use Rattle.vl_run.specs.declared.fault.Fault.TheVariants as faults
use Rattle.vl_run.specs.declared.mark.Mark.{Mark}
use Rattle.vl_run.specs.declared.mark.Mark.TheVariants as marks
use Rattle.vl_run.specs.declared.request.Request.{Request}
use Rattle.vl_run.specs.declared.request.Request.TheVariants as requests
use Rattle.vl_run.specs.declared.tag.Tag.{Tag}
use Rattle.vl_run.specs.declared.tag.Tag.TheVariants as tags
use Rattle.vl_run.specs.Deeds.{written_key}
use Rattle.vl_run.specs.Run.{Run, events, is_of, with_once}
use Rattle.vl_run.specs.Session.{Session, fresh, session_after}

-- ---- the session

abbrev pub session_in : List Event → ℕ → Session
session_in [] n = fresh
session_in (e ∷ past) n = if e.session == n then session_after e.request e.told e.opens (session_in past n) else session_in past n

abbrev pub session : Run → ℕ → Session
session past n = session_in (events past) n

-- ---- what is counted of a statement

-- a statement begins anew with a Say, and a Step goes on; a kill is no event of the session's own
abbrev pub since : {A : Type 0} → Request → A → A → A
since requests.Join start before = start
since (requests.Say stmt) start before = start
since requests.Reset start before = start
since requests.Step start before = before
since requests.Leave start before = start
since (requests.Kill who shard) start before = before

-- what a statement's deeds add up to, from `start` on
abbrev pub summed_in : {A : Type 0} → A → (Deed → A → A) → List Event → ℕ → A
summed_in start more [] n = start
summed_in start more (e ∷ past) n = if e.session == n then more e.deed (since e.request start (summed_in start more past n)) else summed_in start more past n

abbrev pub summed : {A : Type 0} → A → (Deed → A → A) → Run → ℕ → A
summed start more past n = summed_in start more (events past) n

-- ---- rows

abbrev pub change_by : Act → Option Key → List (Key × Option Values)
change_by act None = []
change_by act (Some key) = (key, row_left act) ∷ []

abbrev pub changes_by : Mark → Option Group → Act → List (Key × Option Values)
changes_by marks.Writes (Some Main) act = change_by act (written_key act)
changes_by _ _ act = []

abbrev pub with_changes : Deed → List (Key × Option Values) → List (Key × Option Values)
with_changes deeds.Nothing before = before
with_changes (deeds.Acts who shard act mark) before = before ++ changes_by mark who.group act
with_changes (deeds.Commits who shard) before = before
with_changes (deeds.Fails who shard) before = before

-- the rows that the statement has written or removed, in order
abbrev pub wrote : Run → ℕ → List (Key × Option Values)
wrote past n = summed [] with_changes past n

abbrev pub is_writing : Mark → Bool
is_writing marks.Opens = false
is_writing marks.Takes = false
is_writing marks.Looks = false
is_writing marks.Reads = false
is_writing marks.Writes = true

abbrev pub or_written : Deed → Bool → Bool
or_written deeds.Nothing before = before
or_written (deeds.Acts who shard act mark) before = before || is_writing mark
or_written (deeds.Commits who shard) before = before
or_written (deeds.Fails who shard) before = before

-- whether it has made a pending version, of a row or of an entry
abbrev pub has_written : Run → ℕ → Bool
has_written past n = summed false or_written past n

-- ---- claims

-- an Insert in pre obtains the lock of an entry; the row ends the claims for it
abbrev pub claim_by : Mark → Option Group → Act → List Key → List Key
claim_by marks.Takes (Some Pre) (Insert key row) before = before ++ key ∷ []
claim_by marks.Writes (Some Pre) (Insert key row) before = before ++ key ∷ []
claim_by marks.Writes (Some Main) act before = []
claim_by _ _ act before = before

abbrev pub with_claim : Deed → List Key → List Key
with_claim deeds.Nothing before = before
with_claim (deeds.Acts who shard act mark) before = claim_by mark who.group act before
with_claim (deeds.Commits who shard) before = before
with_claim (deeds.Fails who shard) before = before

-- the entries that were claimed for the row at hand, in order; the claim of the last may be in progress
abbrev pub claimed_now : Run → ℕ → List Key
claimed_now past n = summed [] with_claim past n

abbrev pub act_or : Mark → Deed → Deed → Deed
act_or marks.Opens deed before = before
act_or marks.Takes deed before = deed
act_or marks.Looks deed before = deed
act_or marks.Reads deed before = deed
act_or marks.Writes deed before = deed

abbrev pub deed_or : Deed → Deed → Deed
deed_or deeds.Nothing before = before
deed_or (deeds.Acts who shard act mark) before = act_or mark (deeds.Acts who shard act mark) before
deed_or (deeds.Commits who shard) before = deeds.Commits who shard
deed_or (deeds.Fails who shard) before = deeds.Fails who shard

-- its last deed that was done; one that met a key of another is done again
abbrev pub last_deed : Run → ℕ → Deed
last_deed past n = summed deeds.Nothing deed_or past n

-- ---- reads

abbrev pub is_look : Mark → Bool
is_look marks.Opens = false
is_look marks.Takes = false
is_look marks.Looks = true
is_look marks.Reads = false
is_look marks.Writes = false

abbrev pub is_read : Mark → Bool
is_read marks.Opens = false
is_read marks.Takes = false
is_read marks.Looks = false
is_read marks.Reads = true
is_read marks.Writes = false

abbrev pub with_shard : (Mark → Bool) → Deed → List ℕ → List ℕ
with_shard is deeds.Nothing before = before
with_shard is (deeds.Acts who shard act mark) before = if is mark then before ++ shard ∷ [] else before
with_shard is (deeds.Commits who shard) before = before
with_shard is (deeds.Fails who shard) before = before

-- the shards on which it has read entries by its route, and rows of its table, in order
abbrev pub looked_on : Run → ℕ → List ℕ
looked_on past n = summed [] (with_shard is_look) past n

abbrev pub read_on : Run → ℕ → List ℕ
read_on past n = summed [] (with_shard is_read) past n

-- ---- commits, acts, tries, visits

abbrev pub with_commit : Deed → ℕ → ℕ
with_commit deeds.Nothing before = before
with_commit (deeds.Acts who shard act mark) before = before
with_commit (deeds.Commits who shard) before = before + 1
with_commit (deeds.Fails who shard) before = before + 1

-- how many of its transaction's shard sessions it has dealt with by a commit, done or not
abbrev pub commits : Run → ℕ → ℕ
commits past n = summed 0 with_commit past n

-- whether its commit has begun: one of them was dealt with
abbrev pub has_begun_to_commit : Run → ℕ → Bool
has_begun_to_commit past n = not (commits past n == 0)

abbrev pub acts_by : Mark → ℕ → ℕ
acts_by marks.Opens before = before
acts_by marks.Takes before = before + 1
acts_by marks.Looks before = before + 1
acts_by marks.Reads before = before + 1
acts_by marks.Writes before = before + 1

abbrev pub with_act : Deed → ℕ → ℕ
with_act deeds.Nothing before = before
with_act (deeds.Acts who shard act mark) before = acts_by mark before
with_act (deeds.Commits who shard) before = before
with_act (deeds.Fails who shard) before = before

-- how many acts it has done
abbrev pub acts : Run → ℕ → ℕ
acts past n = summed 0 with_act past n

abbrev pub tries_by : Tag → ℕ
tries_by tags.Nothing = 0
tries_by tags.More = 0
tries_by (tags.Held by tries) = tries
tries_by (tags.Ok affected found warnings tx auto) = 0
tries_by (tags.Rows tx auto) = 0
tries_by (tags.Err code tx) = 0

abbrev pub own_tries : Request → Tag → ℕ → ℕ
own_tries request tags.Nothing before = since request 0 before
own_tries request told before = tries_by told

abbrev pub tries_in : List Event → ℕ → ℕ
tries_in [] n = 0
tries_in (e ∷ past) n = if e.session == n then own_tries e.request e.told (tries_in past n) else tries_in past n

-- how often the action that is due was met by a key of another
abbrev pub tries : Run → ℕ → ℕ
tries past n = tries_in (events past) n

abbrev pub or_visit : Option ℕ → List ℕ → List ℕ
or_visit None shards = shards
or_visit (Some shard) shards = with_once shard shards

abbrev pub visited_in : List Event → ℕ → List ℕ
visited_in [] n = []
visited_in (e ∷ past) n = if e.session == n then or_visit e.visits (since e.request [] (visited_in past n)) else visited_in past n

-- the shards of the last statement, each once, by first visit
abbrev pub visited_by : Run → ℕ → List ℕ
visited_by past n = visited_in (events past) n

-- ---- writes of a transaction

abbrev pub count_by : Mark → ℕ → ℕ
count_by marks.Opens before = before
count_by marks.Takes before = before
count_by marks.Looks before = before
count_by marks.Reads before = before
count_by marks.Writes before = before + 1

abbrev pub counted : ℕ → Deed → ℕ → ℕ
counted tx deeds.Nothing before = before
counted tx (deeds.Acts who shard act mark) before = if who.tx == tx then count_by mark before else before
counted tx (deeds.Commits who shard) before = before
counted tx (deeds.Fails who shard) before = before

abbrev pub changes_in : List Event → ℕ → ℕ
changes_in [] tx = 0
changes_in (e ∷ past) tx = counted tx e.deed (changes_in past tx)

-- how many pending versions the transaction has made; a key that was written twice counts twice
abbrev pub changes : Run → ℕ → ℕ
changes past tx = changes_in (events past) tx

-- ---- warnings

abbrev pub warning_of : Catalog → ℕ → Fault → Warning
warning_of catalog shard (faults.Lost why) = warnings.PostLost (shard_text catalog shard) why
warning_of catalog shard faults.Device = warnings.PostDevice (shard_text catalog shard)

abbrev pub post_warnings : Catalog → Option Group → ℕ → Option Fault → List Warning
post_warnings catalog (Some Post) shard (Some fault) = warning_of catalog shard fault ∷ []
post_warnings catalog _ shard _ = []

-- a commit of post that failed leaves a warning
abbrev pub warnings_by : Catalog → Deed → Option Fault → List Warning
warnings_by catalog deeds.Nothing fault = []
warnings_by catalog (deeds.Acts who shard act mark) fault = []
warnings_by catalog (deeds.Commits who shard) fault = post_warnings catalog who.group shard fault
warnings_by catalog (deeds.Fails who shard) fault = post_warnings catalog who.group shard fault

abbrev pub is_show_warnings : Stmt → Bool
is_show_warnings stmts.ShowWarnings = true
is_show_warnings _ = false

-- SHOW WARNINGS keeps those of the statement before it, and so does what is no statement
abbrev pub warnings_before : Request → List Warning → List Warning
warnings_before requests.Join before = []
warnings_before (requests.Say stmt) before = if is_show_warnings stmt then before else []
warnings_before requests.Reset before = before
warnings_before requests.Step before = before
warnings_before requests.Leave before = []
warnings_before (requests.Kill who shard) before = before

abbrev pub warnings_in : Catalog → List Event → ℕ → List Warning
warnings_in catalog [] n = []
warnings_in catalog (e ∷ past) n = if e.session == n then warnings_before e.request (warnings_in catalog past n) ++ warnings_by catalog e.deed e.fault else warnings_in catalog past n

-- the warnings of the session's last statement other than SHOW WARNINGS
abbrev pub warned : Catalog → Run → ℕ → List Warning
warned catalog past n = warnings_in catalog (events past) n

-- ---- the two lists of a transaction

abbrev pub claims_in_pre : Mark → Act → List Key
claims_in_pre marks.Takes (Insert key row) = key ∷ []
claims_in_pre marks.Writes (Insert key row) = key ∷ []
claims_in_pre _ act = []

abbrev pub removes_in_post : Mark → Act → List Key
removes_in_post marks.Takes (RemoveIf key column value) = key ∷ []
removes_in_post marks.Writes (RemoveIf key column value) = key ∷ []
removes_in_post _ act = []

abbrev pub listed_by : Group → (Mark → Act → List Key) → ℕ → Deed → List Key → List Key
listed_by group of tx deeds.Nothing before = before
listed_by group of tx (deeds.Acts who shard act mark) before = if is_of tx group who then before ++ of mark act else before
listed_by group of tx (deeds.Commits who shard) before = before
listed_by group of tx (deeds.Fails who shard) before = before

abbrev pub listed_in : Group → (Mark → Act → List Key) → List Event → ℕ → List Key
listed_in group of [] tx = []
listed_in group of (e ∷ past) tx = listed_by group of tx e.deed (listed_in group of past tx)

-- the entries that the transaction claims: from the act in which pre obtained the lock, whether its session lives or not
abbrev pub claimed : Run → ℕ → List Key
claimed past tx = listed_in Pre claims_in_pre (events past) tx

-- and those that it removes
abbrev pub removed : Run → ℕ → List Key
removed past tx = listed_in Post removes_in_post (events past) tx
