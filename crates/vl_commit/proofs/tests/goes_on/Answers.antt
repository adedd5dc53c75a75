use Rattle.std.proofs.Common.{◌≡◌, ◌≢◌, ◌≤◌, ℕ, arith, sym, ◌∙◌}
use Rattle.vl_shard.specs.Banks.{count_of, seen_of}
use Rattle.vl_commit.proofs.Asks.{in_beside}
use Rattle.vl_commit.proofs.tests.goes_on.Goals as goal

-- the two transactions are numbered apart
two_apart : (one two a b : ℕ) → one ≡ 1 → two ≡ 2 → a ≡ one → b ≡ two → b ≢ a
two_apart one two a b first second is_a is_b = λ e. omega (arith, first, second, is_a, is_b, e)

one_apart : (one two a b : ℕ) → one ≡ 1 → two ≡ 2 → a ≡ one → b ≡ two → a ≢ b
one_apart one two a b first second is_a is_b = λ e. omega (arith, first, second, is_a, is_b, e)

same_of : (n : ℕ) → n ≡ n
same_of n = omega (arith)

no_more : (a b c d e : ℕ) → a ≡ b → b ≡ c → c ≡ d → d ≡ e → e ≤ 1 → a ≤ 1
no_more a b c d e p q r s h = omega (arith, p, q, r, s, h)

pub insert_by-requires-clause-sessions : goal.insert_by-requires-clause-sessions
insert_by-requires-clause-sessions g c =
    in_beside c.in_ok-bank.two c.in_ok-bank.one.number (count_of c.in_ok-bank.bank) (count_of c.four_rows.new.bank) (seen_of c.in_ok-bank.bank) (seen_of c.four_rows.new.bank) c.in_ok-bank.ensures.two c.four_rows.ensures.others
    (two_apart c.in_ok-bank.one.number c.in_ok-bank.two.number c.in_ok-bank.one.number c.in_ok-bank.two.number c.in_ok-bank.ensures.numbers.0 c.in_ok-bank.ensures.numbers.1 (same_of _) (same_of _))
    (c.four_rows.ensures.count ∙ sym c.in_ok-bank.ensures.count)

pub roll_back-requires-clause-sessions : goal.roll_back-requires-clause-sessions
roll_back-requires-clause-sessions g c =
    in_beside c.four_rows.new.tx c.in_ok-bank.two.number (count_of c.four_rows.new.bank) (count_of c.insert_by.new.bank) (seen_of c.four_rows.new.bank) (seen_of c.insert_by.new.bank) c.four_rows.ensures.sessions
    c.insert_by.ensures.others
    (one_apart c.in_ok-bank.one.number c.in_ok-bank.two.number c.four_rows.new.tx.number c.in_ok-bank.two.number c.in_ok-bank.ensures.numbers.0 c.in_ok-bank.ensures.numbers.1 c.four_rows.ensures.number (same_of _))
    c.insert_by.ensures.count

pub insert_by-requires-2-clause-sessions : goal.insert_by-requires-2-clause-sessions
insert_by-requires-2-clause-sessions g c =
    in_beside c.insert_by.new.tx c.four_rows.new.tx.number (count_of c.insert_by.new.bank) (count_of c.roll_back.new.port) (seen_of c.insert_by.new.bank) (seen_of c.roll_back.new.port) c.insert_by.ensures.sessions c.roll_back.ensures.others
    (two_apart c.in_ok-bank.one.number c.in_ok-bank.two.number c.four_rows.new.tx.number c.insert_by.new.tx.number c.in_ok-bank.ensures.numbers.0 c.in_ok-bank.ensures.numbers.1 c.four_rows.ensures.number c.insert_by.ensures.number)
    c.roll_back.ensures.same.counts

pub commit_all-requires-clause-first : goal.commit_all-requires-clause-first
commit_all-requires-clause-first g c = λ s.
    no_more (seen_of c.insert_by-2.new.bank s).incarnation (seen_of c.roll_back.new.port s).incarnation (seen_of c.insert_by.new.bank s).incarnation (seen_of c.four_rows.new.bank s).incarnation (seen_of c.in_ok-bank.bank s).incarnation
    (c.insert_by-2.ensures.incarnations s) (c.roll_back.ensures.incarnations s) (c.insert_by.ensures.incarnations s) (c.four_rows.ensures.incarnations s) (c.in_ok-bank.ensures.first s)
