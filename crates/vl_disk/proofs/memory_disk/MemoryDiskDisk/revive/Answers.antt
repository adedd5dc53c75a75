use Rattle.std.proofs.Common.{◌≡◌, ◌∷◌, length, ◌∙◌, ap, arith}
use Rattle.vl_disk.specs.Moment.{at_rest}
use Rattle.vl_disk.specs.Content.{ContentState, FileContent, image_of, moment_of}
use Rattle.vl_disk.specs.Images.{image_left}
use Rattle.vl_disk.specs.Past.{PastState}
use Rattle.vl_disk.specs.MemoryDisk.{MemoryState}
use Rattle.vl_disk.proofs.memory_disk.MemoryDiskDisk.revive.Goals as goal

pub returns-clause-revived : goal.returns-clause-revived
returns-clause-revived c =
    let a = c.self.inside in
    let d = c.args.self.now in
    let before : c.note.new.self.told.before ≡ moment_of d.content ∷ d.before =
    ap (λ (s : PastState). s.told.before) c.note.ensures
    ∙ (ap (λ (f : FileContent). moment_of f ∷ a.past.told.before) c.self.invariant.content
    ∙ ap (λ (s : MemoryState). moment_of s.content ∷ s.before) c.self.view_is) in
    record {
      before = before;
      age = omega (arith, ap length before);
      image = image_of c.args.pick d.content;
      is_left = image_left c.args.pick d.content;
      now = ap (λ (s : ContentState). moment_of s.file) c.revive.ensures
          ∙ ap (λ (s : MemoryState). at_rest (image_of c.args.pick s.content)) c.self.view_is;
    }
