-- What a disk in memory remembers: the moments that it had, from the calls that it met.
use Rattle.std.specs.Prelude.{◌+◌, [], ◌∷◌, ℕ, List, take, drop}
use Rattle.vl_disk.specs.Moment.{Moment}
use Rattle.vl_disk.specs.Content.{FileContent, image_of, moment_of, rested, shown, written}
use Rattle.vl_disk.specs.declared.call.Call.{Call}
use Rattle.vl_disk.specs.declared.call.Call.TheVariants.{Wrote, Missed, Synced, Revived}

pub record Told : Type 0 where
  pub content : FileContent
  -- the newest first
  pub before : List Moment

-- the content after this call, which wrote these bytes if it is a write
abbrev pub content_after : Call → List ℕ → FileContent → FileContent
content_after (Wrote offset len) bytes c = written offset bytes c
content_after Missed bytes c = c
content_after Synced bytes c = rested (shown c)
content_after (Revived pick) bytes c = rested (image_of pick c)

abbrev pub told_after : Call → List ℕ → Told → Told
told_after call bytes t = record {
  content = content_after call bytes t.content;
  before = moment_of t.content ∷ t.before;
}

abbrev pub call_len : Call → ℕ
call_len (Wrote offset len) = len
call_len Missed = 0
call_len Synced = 0
call_len (Revived pick) = 0

abbrev pub calls_len : List Call → ℕ
calls_len [] = 0
calls_len (call ∷ calls) = call_len call + calls_len calls

-- after these calls, whose bytes stand in a row
abbrev pub replay : Told → List Call → List ℕ → Told
replay t [] log = t
replay t (call ∷ calls) log = replay (told_after call (take (call_len call) log) t) calls (drop (call_len call) log)

abbrev pub begun : List ℕ → Told
begun bytes = record { content = rested bytes; before = [] }

pub record PastState : Type 0 where
  pub told : Told
  pub room : ℕ
  pub spare : ℕ
