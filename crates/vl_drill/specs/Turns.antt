-- The turns, as a function of the drill's state and of what is seen of the sessions.
use Rattle.std.specs.Prelude.{ℕ, ◌+◌, ◌-◌, Bool, false, ◌==◌, if◌then◌else◌, List, drop, position, slice_index_or, Option, Some, None}
use Rattle.std.specs.Option.{option_map, option_or}
use Rattle.vl_sql.specs.declared.stmt.Stmt.TheVariants as stmts
use Rattle.vl_drill.specs.declared.seen.Seen.{Seen}
use Rattle.vl_drill.specs.declared.turn.Turn.{Turn}
use Rattle.vl_drill.specs.declared.turn.Turn.TheVariants.{Step, Ask, End}
use Rattle.vl_drill.specs.Drilling.{Drilling}
use Rattle.vl_drill.specs.Generator.{drawn, following}
use Rattle.vl_drill.specs.Statements.{asked}

-- the first session, from this number on, that passes a test
abbrev pub first_from : (Seen → Bool) → ℕ → List Seen → Option ℕ
first_from test from seen = option_map (λ i. from + i) (position test (drop from seen))

-- the next session with a statement in progress: behind the last come the first again
abbrev pub next_busy : ℕ → List Seen → Option ℕ
next_busy from seen = option_or (first_from (λ s. s.busy) from seen) (first_from (λ s. s.busy) 0 seen)

-- once no statement is in progress, each session in order commits its open transaction
abbrev pub at_commit : Drilling → Option ℕ → Turn × Drilling
at_commit drill None = (End, drill)
at_commit drill (Some session) = (Ask session stmts.Commit, record drill { committed = session + 1 })

-- once all was asked, the sessions with a statement in progress make one step each, in order, again and again
abbrev pub at_end : Drilling → List Seen → Option ℕ → Turn × Drilling
at_end drill seen None = at_commit drill (first_from (λ s. s.tx) drill.committed seen)
at_end drill seen (Some session) = (Step session, record drill { stepped = session + 1 })

abbrev pub seen_of : List Seen → ℕ → Seen
seen_of seen session = slice_index_or seen session (record { busy = false; tx = false })

-- a session is drawn: it goes on with its statement, or asks a new one
abbrev pub at_work : Drilling → List Seen → Turn × Drilling
at_work drill seen =
    let state = drill.state in
    let session = drawn 8 state in
    let behind = following state in
    let statement = asked (seen_of seen session).tx behind in
    if (seen_of seen session).busy then (Step session, record drill { state = behind })
    else (Ask session statement.0, record drill { left = drill.left - 1; state = statement.1 })

-- the next turn, and the drill behind it
abbrev pub next : Drilling → List Seen → Turn × Drilling
next drill seen = if drill.left == 0 then at_end drill seen (next_busy drill.stepped seen) else at_work drill seen

-- a drill of so many statements, at its start
abbrev pub started : ℕ → ℕ → Drilling
started statements seed = record { left = statements; state = seed; stepped = 0; committed = 0 }
