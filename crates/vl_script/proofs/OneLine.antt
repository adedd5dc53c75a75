-- A text is at most one line: two keywords differ in their first two bytes, and what follows is cut in one way.
use Rattle.std.proofs.Common.{◌≡◌, ◌≤◌, ap, sym, refl, subst, ℕ, false, List, [], ◌∷◌, ◌++◌, ◌==◌, arith, codes, Bor, rules}
use Rattle.std.specs.Fmt.{decimal}
use Rattle.std.proofs.lemmas.Fmt.{decimal_injective}
use Rattle.std.proofs.lemmas.Bool.{false≢true}
use Rattle.std.proofs.lemmas.List.Elements.{All-contains, Contains-append_right}
use Rattle.vl_values.specs.Group.{group_name}
use Rattle.vl_values.specs.declared.group.Group.{Group}
use Rattle.vl_values.specs.declared.group.Group.TheVariants.{Pre, Main, Post}
use Rattle.vl_script.specs.Script.{HasNoSpace, IsCount, IsCrash, IsDrop, IsFailure, IsLine, IsLoss, IsOfSession, IsSame, IsSession, IsSkipped, Says, pick_name, session_name, side_name}
use Rattle.vl_script.specs.Script.IsSkipped.{Empty, Comment}
use Rattle.vl_script.specs.declared.line.Line.{Line}
use Rattle.vl_script.specs.declared.line.Line.TheVariants.{Skipped, Run, Ask, Step, Go, Close, Lose, DropSession, Restart, Fail, CrashAt, CrashNow, Checkpoint, Dump, Audit, Visited}
use Rattle.vl_script.specs.declared.pick.Pick.{Pick}
use Rattle.vl_script.specs.declared.pick.Pick.TheVariants.{None_, All as AllPick, Half, Gates}
use Rattle.vl_script.specs.declared.side.Side.{Side}
use Rattle.vl_script.specs.declared.side.Side.TheVariants.{Before, After}
use Rattle.vl_script.proofs.Cuts.{cut_once, one_rest}
use Rattle.vl_script.proofs.Names.{count_word, group_word, session_word}

-- the first two bytes
abbrev pub first : List ℕ → ℕ
first [] = 0
first (b ∷ text) = b

abbrev pub second : List ℕ → ℕ
second [] = 0
second (b ∷ text) = first text

-- with which two bytes a line begins
abbrev pub Begins : Line → ℕ → ℕ → Type 0
Begins Skipped a b = a ≤ 35
Begins (Run s q) a b = (a ≡ 114) × (b ≡ 117)
Begins (Ask s q) a b = (a ≡ 97) × (b ≡ 115)
Begins (Step s) a b = (a ≡ 115) × (b ≡ 116)
Begins (Go s) a b = (a ≡ 103) × (b ≡ 111)
Begins (Close s) a b = (a ≡ 99) × (b ≡ 108)
Begins (Lose w side n) a b = (a ≡ 108) × (b ≡ 111)
Begins (DropSession s g w) a b = (a ≡ 100) × (b ≡ 114)
Begins (Restart w) a b = (a ≡ 114) × (b ≡ 101)
Begins (Fail w n) a b = (a ≡ 102) × (b ≡ 97)
Begins (CrashAt w n p) a b = (a ≡ 99) × (b ≡ 114)
Begins (CrashNow p) a b = (a ≡ 99) × (b ≡ 114)
Begins (Checkpoint w) a b = (a ≡ 99) × (b ≡ 104)
Begins Dump a b = (a ≡ 100) × (b ≡ 117)
Begins Audit a b = (a ≡ 97) × (b ≡ 117)
Begins (Visited s) a b = (a ≡ 118) × (b ≡ 105)

skipped_begins : (text : List ℕ) → IsSkipped text → first text ≤ 35
skipped_begins _ Empty = omega arith
skipped_begins _ (Comment text) = omega arith

begins : (text : List ℕ) (line : Line) → IsLine text line → Begins line (first text) (second text)
begins text Skipped is = skipped_begins text is
begins text (Run s q) is = (ap first is.0, ap second is.0)
begins text (Ask s q) is = (ap first is.0, ap second is.0)
begins text (Step s) is = (ap first is.0, ap second is.0)
begins text (Go s) is = (ap first is.0, ap second is.0)
begins text (Close s) is = (ap first is.0, ap second is.0)
begins text (Lose w side n) is = (ap first is.0, ap second is.0)
begins text (DropSession s g w) is = (ap first is.0, ap second is.0)
begins text (Restart w) is = (ap first is.0, ap second is.0)
begins text (Fail w n) is = (ap first is.0, ap second is.0)
begins text (CrashAt w n p) is = (ap first is.0, ap second is.0)
begins text (CrashNow p) is = (ap first is, ap second is)
begins text (Checkpoint w) is = (ap first is.0, ap second is.0)
begins text Dump is = (ap first is, ap second is)
begins text Audit is = (ap first is, ap second is)
begins text (Visited s) is = (ap first is.0, ap second is.0)

one_session : (n m : ℕ) → IsSession n → IsSession m → session_name n ≡ session_name m → n ≡ m
one_session n m one other is =
    let digits : decimal n ≡ decimal m = cc in
    decimal_injective n m (omega (arith, one.most)) (omega (arith, other.most)) digits

one_count : (n m : ℕ) → IsCount n → IsCount m → decimal n ≡ decimal m → n ≡ m
one_count n m one other is = decimal_injective n m (omega (arith, one.most)) (omega (arith, other.most)) is

one_pick : (a b : Pick) → pick_name a ≡ pick_name b → a ≡ b
one_pick None_ None_ e = refl
one_pick None_ AllPick e = absurd (omega (arith, ap first e))
one_pick None_ Half e = absurd (omega (arith, ap first e))
one_pick None_ Gates e = absurd (omega (arith, ap first e))
one_pick AllPick None_ e = absurd (omega (arith, ap first e))
one_pick AllPick AllPick e = refl
one_pick AllPick Half e = absurd (omega (arith, ap first e))
one_pick AllPick Gates e = absurd (omega (arith, ap first e))
one_pick Half None_ e = absurd (omega (arith, ap first e))
one_pick Half AllPick e = absurd (omega (arith, ap first e))
one_pick Half Half e = refl
one_pick Half Gates e = absurd (omega (arith, ap first e))
one_pick Gates None_ e = absurd (omega (arith, ap first e))
one_pick Gates AllPick e = absurd (omega (arith, ap first e))
one_pick Gates Half e = absurd (omega (arith, ap first e))
one_pick Gates Gates e = refl

one_side : (a b : Side) → side_name a ≡ side_name b → a ≡ b
one_side Before Before e = refl
one_side Before After e = absurd (omega (arith, ap first e))
one_side After Before e = absurd (omega (arith, ap first e))
one_side After After e = refl

one_group : (a b : Group) → group_name a ≡ group_name b → a ≡ b
one_group Pre Pre e = refl
one_group Pre Main e = absurd (omega (arith, ap second e))
one_group Pre Post e = absurd (omega (arith, ap second e))
one_group Main Pre e = absurd (omega (arith, ap second e))
one_group Main Main e = refl
one_group Main Post e = absurd (omega (arith, ap second e))
one_group Post Pre e = absurd (omega (arith, ap second e))
one_group Post Main e = absurd (omega (arith, ap second e))
one_group Post Post e = refl

plain_side : (side : Side) → HasNoSpace (side_name side)
plain_side Before = search rules
plain_side After = search rules

plain_pick : (pick : Pick) → HasNoSpace (pick_name pick)
plain_pick None_ = search rules
plain_pick AllPick = search rules
plain_pick Half = search rules
plain_pick Gates = search rules

-- a text without a space isn't cut
no_cut : (text front back : List ℕ) → HasNoSpace text → text ≡ front ++ 32 ∷ back → ⊥
no_cut text front back plain e =
    let here : HasNoSpace (front ++ 32 ∷ back) = subst (λ (v : List ℕ). HasNoSpace v) e plain in
    false≢true (sym (All-contains (λ b. (b == 32) ≡ false) (front ++ 32 ∷ back) 32 here (Contains-append_right front (32 ∷ back) 32 (0, omega arith, refl))))

-- `crash PICK` has no second space
no_both : (text : List ℕ) (shard : List ℕ) (n : ℕ) (pick other : Pick) → IsCrash text shard n pick → text ≡ codes "crash " ++ pick_name other → ⊥
no_both text shard n pick other crash now =
    no_cut (pick_name other) shard (decimal n ++ 32 ∷ pick_name pick) (plain_pick other)
    (one_rest text (codes "crash ") (pick_name other) (shard ++ 32 ∷ (decimal n ++ 32 ∷ pick_name pick)) now crash.0)

one_said : (text keyword sql more : List ℕ) (n m : ℕ) → Says text keyword n sql → Says text keyword m more → (n ≡ m) × (sql ≡ more)
one_said text keyword sql more n m a b =
    let same : (session_name n ≡ session_name m) × (sql ≡ more) =
    cut_once (session_name n) sql (session_name m) more (one_rest text keyword (session_name n ++ 32 ∷ sql) (session_name m ++ 32 ∷ more) a.0 b.0) ((session_word n a.1).plain) ((session_word m b.1).plain) in
    (one_session n m a.1 b.1 same.0, same.1)

one_of_session : (text keyword : List ℕ) (n m : ℕ) → IsOfSession text keyword n → IsOfSession text keyword m → n ≡ m
one_of_session text keyword n m a b =
    one_session n m a.1 b.1 (one_rest text keyword (session_name n) (session_name m) a.0 b.0)

one_loss : (text shard word : List ℕ) (side other : Side) (n m : ℕ) → IsLoss text shard side n → IsLoss text word other m → (shard ≡ word) × (side ≡ other) × (n ≡ m)
one_loss text shard word side other n m a b =
    let same : (shard ≡ word) × ((side_name side ++ 32 ∷ decimal n) ≡ (side_name other ++ 32 ∷ decimal m)) =
    cut_once shard (side_name side ++ 32 ∷ decimal n) word (side_name other ++ 32 ∷ decimal m)
    (one_rest text (codes "lose ") (shard ++ 32 ∷ (side_name side ++ 32 ∷ decimal n)) (word ++ 32 ∷ (side_name other ++ 32 ∷ decimal m)) a.0 b.0) (a.1).plain (b.1).plain in
    let behind : (side_name side ≡ side_name other) × (decimal n ≡ decimal m) =
    cut_once (side_name side) (decimal n) (side_name other) (decimal m) same.1 (plain_side side) (plain_side other) in
    (same.0, one_side side other behind.0, one_count n m a.2 b.2 behind.1)

one_drop : (text shard word : List ℕ) (group other : Group) (n m : ℕ) → IsDrop text n group shard → IsDrop text m other word → (n ≡ m) × (group ≡ other) × (shard ≡ word)
one_drop text shard word group other n m a b =
    let same : (session_name n ≡ session_name m) × ((group_name group ++ 32 ∷ shard) ≡ (group_name other ++ 32 ∷ word)) =
    cut_once (session_name n) (group_name group ++ 32 ∷ shard) (session_name m) (group_name other ++ 32 ∷ word)
    (one_rest text (codes "drop ") (session_name n ++ 32 ∷ (group_name group ++ 32 ∷ shard)) (session_name m ++ 32 ∷ (group_name other ++ 32 ∷ word)) a.0 b.0)
    ((session_word n a.1).plain) ((session_word m b.1).plain) in
    let behind : (group_name group ≡ group_name other) × (shard ≡ word) =
    cut_once (group_name group) shard (group_name other) word same.1 ((group_word group).plain) ((group_word other).plain) in
    (one_session n m a.1 b.1 same.0, one_group group other behind.0, behind.1)

one_failure : (text shard word : List ℕ) (n m : ℕ) → IsFailure text shard n → IsFailure text word m → (shard ≡ word) × (n ≡ m)
one_failure text shard word n m a b =
    let same : (shard ≡ word) × (decimal n ≡ decimal m) =
    cut_once shard (decimal n) word (decimal m) (one_rest text (codes "fail ") (shard ++ 32 ∷ decimal n) (word ++ 32 ∷ decimal m) a.0 b.0) (a.1).plain (b.1).plain in
    (same.0, one_count n m a.2 b.2 same.1)

one_crash : (text shard word : List ℕ) (n m : ℕ) (pick other : Pick) → IsCrash text shard n pick → IsCrash text word m other → (shard ≡ word) × (n ≡ m) × (pick ≡ other)
one_crash text shard word n m pick other a b =
    let same : (shard ≡ word) × ((decimal n ++ 32 ∷ pick_name pick) ≡ (decimal m ++ 32 ∷ pick_name other)) =
    cut_once shard (decimal n ++ 32 ∷ pick_name pick) word (decimal m ++ 32 ∷ pick_name other)
    (one_rest text (codes "crash ") (shard ++ 32 ∷ (decimal n ++ 32 ∷ pick_name pick)) (word ++ 32 ∷ (decimal m ++ 32 ∷ pick_name other)) a.0 b.0) (a.1).plain (b.1).plain in
    let behind : (decimal n ≡ decimal m) × (pick_name pick ≡ pick_name other) =
    cut_once (decimal n) (pick_name pick) (decimal m) (pick_name other) same.1 ((count_word n a.2).plain) ((count_word m b.2).plain) in
    (same.0, one_count n m a.2 b.2 behind.0, one_pick pick other behind.1)

one_skipped_line : (text : List ℕ) (other : Line) → IsLine text Skipped → IsLine text other → IsSame Skipped other
one_skipped_line text Skipped a b = tt
one_skipped_line text other a b =
    let here : Begins Skipped (first text) (second text) = begins text Skipped a in
    let there : Begins other (first text) (second text) = begins text other b in
    absurd (omega arith)

one_run_line : (text : List ℕ) (s : ℕ) (q : Bor (List ℕ)) (other : Line) → IsLine text (Run s q) → IsLine text other → IsSame (Run s q) other
one_run_line text s q (Run s2 q2) a b = one_said text (codes "run ") q.now q2.now s s2 a b
one_run_line text s q other a b =
    let here : Begins (Run s q) (first text) (second text) = begins text (Run s q) a in
    let there : Begins other (first text) (second text) = begins text other b in
    absurd (omega arith)

one_ask_line : (text : List ℕ) (s : ℕ) (q : Bor (List ℕ)) (other : Line) → IsLine text (Ask s q) → IsLine text other → IsSame (Ask s q) other
one_ask_line text s q (Ask s2 q2) a b = one_said text (codes "ask ") q.now q2.now s s2 a b
one_ask_line text s q other a b =
    let here : Begins (Ask s q) (first text) (second text) = begins text (Ask s q) a in
    let there : Begins other (first text) (second text) = begins text other b in
    absurd (omega arith)

one_step_line : (text : List ℕ) (s : ℕ) (other : Line) → IsLine text (Step s) → IsLine text other → IsSame (Step s) other
one_step_line text s (Step s2) a b = one_of_session text (codes "step ") s s2 a b
one_step_line text s other a b =
    let here : Begins (Step s) (first text) (second text) = begins text (Step s) a in
    let there : Begins other (first text) (second text) = begins text other b in
    absurd (omega arith)

one_go_line : (text : List ℕ) (s : ℕ) (other : Line) → IsLine text (Go s) → IsLine text other → IsSame (Go s) other
one_go_line text s (Go s2) a b = one_of_session text (codes "go ") s s2 a b
one_go_line text s other a b =
    let here : Begins (Go s) (first text) (second text) = begins text (Go s) a in
    let there : Begins other (first text) (second text) = begins text other b in
    absurd (omega arith)

one_close_line : (text : List ℕ) (s : ℕ) (other : Line) → IsLine text (Close s) → IsLine text other → IsSame (Close s) other
one_close_line text s (Close s2) a b = one_of_session text (codes "close ") s s2 a b
one_close_line text s other a b =
    let here : Begins (Close s) (first text) (second text) = begins text (Close s) a in
    let there : Begins other (first text) (second text) = begins text other b in
    absurd (omega arith)

one_lose_line : (text : List ℕ) (w : Bor (List ℕ)) (side : Side) (n : ℕ) (other : Line) → IsLine text (Lose w side n) → IsLine text other → IsSame (Lose w side n) other
one_lose_line text w side n (Lose w2 side2 n2) a b = one_loss text w.now w2.now side side2 n n2 a b
one_lose_line text w side n other a b =
    let here : Begins (Lose w side n) (first text) (second text) = begins text (Lose w side n) a in
    let there : Begins other (first text) (second text) = begins text other b in
    absurd (omega arith)

one_drop_line : (text : List ℕ) (s : ℕ) (g : Group) (w : Bor (List ℕ)) (other : Line) → IsLine text (DropSession s g w) → IsLine text other → IsSame (DropSession s g w) other
one_drop_line text s g w (DropSession s2 g2 w2) a b = one_drop text w.now w2.now g g2 s s2 a b
one_drop_line text s g w other a b =
    let here : Begins (DropSession s g w) (first text) (second text) = begins text (DropSession s g w) a in
    let there : Begins other (first text) (second text) = begins text other b in
    absurd (omega arith)

one_restart_line : (text : List ℕ) (w : Bor (List ℕ)) (other : Line) → IsLine text (Restart w) → IsLine text other → IsSame (Restart w) other
one_restart_line text w (Restart w2) a b = one_rest text (codes "restart ") w.now w2.now a.0 b.0
one_restart_line text w other a b =
    let here : Begins (Restart w) (first text) (second text) = begins text (Restart w) a in
    let there : Begins other (first text) (second text) = begins text other b in
    absurd (omega arith)

one_fail_line : (text : List ℕ) (w : Bor (List ℕ)) (n : ℕ) (other : Line) → IsLine text (Fail w n) → IsLine text other → IsSame (Fail w n) other
one_fail_line text w n (Fail w2 n2) a b = one_failure text w.now w2.now n n2 a b
one_fail_line text w n other a b =
    let here : Begins (Fail w n) (first text) (second text) = begins text (Fail w n) a in
    let there : Begins other (first text) (second text) = begins text other b in
    absurd (omega arith)

one_crash_at : (text : List ℕ) (w : Bor (List ℕ)) (n : ℕ) (p : Pick) (other : Line) → IsLine text (CrashAt w n p) → IsLine text other → IsSame (CrashAt w n p) other
one_crash_at text w n p (CrashAt w2 n2 p2) a b = one_crash text w.now w2.now n n2 p p2 a b
one_crash_at text w n p (CrashNow p2) a b = absurd (no_both text w.now n p p2 a b)
one_crash_at text w n p other a b =
    let here : Begins (CrashAt w n p) (first text) (second text) = begins text (CrashAt w n p) a in
    let there : Begins other (first text) (second text) = begins text other b in
    absurd (omega arith)

one_crash_now : (text : List ℕ) (p : Pick) (other : Line) → IsLine text (CrashNow p) → IsLine text other → IsSame (CrashNow p) other
one_crash_now text p (CrashNow p2) a b = one_pick p p2 (one_rest text (codes "crash ") (pick_name p) (pick_name p2) a b)
one_crash_now text p (CrashAt w2 n2 p2) a b = absurd (no_both text w2.now n2 p2 p b a)
one_crash_now text p other a b =
    let here : Begins (CrashNow p) (first text) (second text) = begins text (CrashNow p) a in
    let there : Begins other (first text) (second text) = begins text other b in
    absurd (omega arith)

one_checkpoint_line : (text : List ℕ) (w : Bor (List ℕ)) (other : Line) → IsLine text (Checkpoint w) → IsLine text other → IsSame (Checkpoint w) other
one_checkpoint_line text w (Checkpoint w2) a b = one_rest text (codes "checkpoint ") w.now w2.now a.0 b.0
one_checkpoint_line text w other a b =
    let here : Begins (Checkpoint w) (first text) (second text) = begins text (Checkpoint w) a in
    let there : Begins other (first text) (second text) = begins text other b in
    absurd (omega arith)

one_dump_line : (text : List ℕ) (other : Line) → IsLine text Dump → IsLine text other → IsSame Dump other
one_dump_line text Dump a b = tt
one_dump_line text other a b =
    let here : Begins Dump (first text) (second text) = begins text Dump a in
    let there : Begins other (first text) (second text) = begins text other b in
    absurd (omega arith)

one_audit_line : (text : List ℕ) (other : Line) → IsLine text Audit → IsLine text other → IsSame Audit other
one_audit_line text Audit a b = tt
one_audit_line text other a b =
    let here : Begins Audit (first text) (second text) = begins text Audit a in
    let there : Begins other (first text) (second text) = begins text other b in
    absurd (omega arith)

one_visited_line : (text : List ℕ) (s : ℕ) (other : Line) → IsLine text (Visited s) → IsLine text other → IsSame (Visited s) other
one_visited_line text s (Visited s2) a b = one_of_session text (codes "visited ") s s2 a b
one_visited_line text s other a b =
    let here : Begins (Visited s) (first text) (second text) = begins text (Visited s) a in
    let there : Begins other (first text) (second text) = begins text other b in
    absurd (omega arith)

-- a text is at most one line
pub one_line : (text : List ℕ) (line other : Line) → IsLine text line → IsLine text other → IsSame line other
one_line text Skipped other a b = one_skipped_line text other a b
one_line text (Run s q) other a b = one_run_line text s q other a b
one_line text (Ask s q) other a b = one_ask_line text s q other a b
one_line text (Step s) other a b = one_step_line text s other a b
one_line text (Go s) other a b = one_go_line text s other a b
one_line text (Close s) other a b = one_close_line text s other a b
one_line text (Lose w side n) other a b = one_lose_line text w side n other a b
one_line text (DropSession s g w) other a b = one_drop_line text s g w other a b
one_line text (Restart w) other a b = one_restart_line text w other a b
one_line text (Fail w n) other a b = one_fail_line text w n other a b
one_line text (CrashAt w n p) other a b = one_crash_at text w n p other a b
one_line text (CrashNow p) other a b = one_crash_now text p other a b
one_line text (Checkpoint w) other a b = one_checkpoint_line text w other a b
one_line text Dump other a b = one_dump_line text other a b
one_line text Audit other a b = one_audit_line text other a b
one_line text (Visited s) other a b = one_visited_line text s other a b
