use Rattle.std.proofs.Common.{◌≡◌, ◌≤◌, ◌+◌, ℕ}
use Rattle.vl_port.specs.Transaction.{last_tx}
use Rattle.vl_commit.specs.Sessions.{AreLeft}
use Rattle.vl_shard.specs.Banks.{IsServing, count_of, seen_of}
use Rattle.vl_commit.proofs.tests.commit_all.Given as goal

abbrev pub invariant-loop : goal.invariant-loop
invariant-loop l =
    AreLeft l.commit.tx l.commit.at (count_of l.bank) (seen_of l.bank) × (l.commit.tx.number ≤ last_tx) × ((shard : ℕ) → (seen_of l.bank shard).incarnation ≤ 1 + l.counter) × IsServing l.bank
    × (l.bank.catalog ≡ l.fn.bank.catalog) × (count_of l.bank ≡ count_of l.fn.bank)
