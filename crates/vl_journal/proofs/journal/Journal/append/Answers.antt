use Rattle.std.proofs.Common.{◌≡◌, ◌+◌, length, arith}
use Rattle.vl_disk.specs.Moment.{EachLeft}
use Rattle.vl_disk.proofs.Moments.{weakened}
use Rattle.vl_record.specs.Spelling.{record_bytes}
use Rattle.vl_record.specs.Grammar.{content_bytes}
use Rattle.vl_journal.specs.Gate.{EndsWithOrWithout}
use Rattle.vl_journal.specs.Journals.{StoresWithOrWithout}
use Rattle.vl_journal.proofs.Appended.{stores_or, up_more}
use Rattle.vl_journal.proofs.journal.Journal.append.Goals as goal

pub returns-in-Ok-clause-appended : goal.returns-in-Ok-clause-appended
returns-in-Ok-clause-appended g c =
    rw (← c.self.view_is) (λ honest catalog shard content parts up is text.
    up_more catalog shard content parts (g.D.Disk.told c.self.inside.disk) (g.D.Disk.told c.put_behind.new.disk) c.self.inside.end c.args.bytes.now up is text
    (c.in-Ok.ensures.written honest (content_bytes shard content) (record_bytes parts) up.ends text up.stores.ends))

pub returns-in-Ok-clause-moments : goal.returns-in-Ok-clause-moments
returns-in-Ok-clause-moments g c =
    rw (← c.self.view_is) (λ honest catalog shard content parts up is text.
    weakened {P = EachLeft (EndsWithOrWithout (content_bytes shard content) (record_bytes parts))} {Q = EachLeft (StoresWithOrWithout catalog shard content parts)}
    (g.D.Disk.told c.self.inside.disk) (g.D.Disk.told c.put_behind.new.disk)
    (λ m each image left. stores_or catalog shard content parts image up.stores.is is (each image left))
    (c.put_behind.ensures.moments honest (content_bytes shard content) (record_bytes parts) up.ends text up.stores.ends))

pub returns-in-Err-clause-moments : goal.returns-in-Err-clause-moments
returns-in-Err-clause-moments g c =
    rw (← c.self.view_is) (λ honest catalog shard content parts up is text.
    weakened {P = EachLeft (EndsWithOrWithout (content_bytes shard content) (record_bytes parts))} {Q = EachLeft (StoresWithOrWithout catalog shard content parts)}
    (g.D.Disk.told c.self.inside.disk) (g.D.Disk.told c.put_behind.new.disk)
    (λ m each image left. stores_or catalog shard content parts image up.stores.is is (each image left))
    (c.put_behind.ensures.moments honest (content_bytes shard content) (record_bytes parts) up.ends text up.stores.ends))
