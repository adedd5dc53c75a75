use Rattle.std.proofs.Common.{◌≡◌, ◌++◌, ◌∷◌, [], length, ap, ◌∙◌, arith}
use Rattle.vl_disk.specs.Moment.{EachLeft}
use Rattle.vl_disk.proofs.Moments.{weakened}
use Rattle.vl_record.specs.Spelling.{header_bytes}
use Rattle.vl_journal.specs.Gate.{IsNewOrEndsAt}
use Rattle.vl_journal.specs.Opening.{IsMade}
use Rattle.vl_journal.proofs.Loaded.{made_held, side_size}
use Rattle.vl_journal.proofs.Made.{made_left}
use Rattle.vl_journal.proofs.loading.make.Goals as goal

pub create-requires-clause-room : goal.create-requires-clause-room
create-requires-clause-room g c =
    let size = ap length (c.as_slice.ensures.value ∙ c.in-Ok.ensures) in
    omega (arith, size, side_size c.args.shard, c.requires.room)

pub returns-in_default-create-clause-moments : goal.returns-in_default-create-clause-moments
returns-in_default-create-clause-moments g c =
    let text = header_bytes c.args.shard 1 0 [] in
    λ honest.
    weakened {P = EachLeft (IsNewOrEndsAt text)} {Q = EachLeft (IsMade c.args.shard)} (g.D.Disk.told c.args.disk.now) (g.D.Disk.told c.create.new.disk)
    (λ m each image left. made_left c.args.shard image (each image left))
    (c.create.ensures.moments honest text (c.as_slice.ensures.value ∙ c.in-Ok.ensures))

pub returns-clause-moments : goal.returns-clause-moments
returns-clause-moments g c =
    let text = header_bytes c.args.shard 1 0 [] in
    λ honest.
    weakened {P = EachLeft (IsNewOrEndsAt text)} {Q = EachLeft (IsMade c.args.shard)} (g.D.Disk.told c.args.disk.now) (g.D.Disk.told c.create.new.disk)
    (λ m each image left. made_left c.args.shard image (each image left))
    (c.create.ensures.moments honest text (c.as_slice.ensures.value ∙ c.in-Ok.ensures))

pub returns-clause-held : goal.returns-clause-held
returns-clause-held g c = rw (c.new.ensures, c.new-2.ensures) (made_held c.args.shard)
