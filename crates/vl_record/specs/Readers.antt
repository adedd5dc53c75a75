-- What the readers of the code give, by what reading on lists gives.
use Rattle.std.specs.Prelude.{◌≡◌, ℕ, Result, Ok, Err}
use Rattle.vl_record.specs.declared.reader.Reader.{Reader}
use Rattle.vl_record.specs.declared.read_error.ReadError.{ReadError}
use Rattle.vl_record.specs.declared.read_error.ReadError.TheVariants as errors
use Rattle.vl_record.specs.declared.held.Held.{Held as AHeld}
use Rattle.vl_record.specs.Reading.{Held, Rest}

abbrev pub rest_of : Reader → Rest
rest_of r = record { bytes = r.bytes.now; offset = r.offset; is_body = r.is_body }

-- the fault is that one, or memory was refused
abbrev pub Fails : {Y : Type 0} → ReadError → Result Y ℕ → Type 0
Fails errors.Memory read = Unit {0}
Fails (errors.NotOurs offset) read = read ≡ Err offset

-- what was returned, seen by view, is what reading gives, unless memory was refused
abbrev pub Gives : {X Y : Type 0} → (X → Y) → Result X ReadError → Result Y ℕ → Type 0
Gives view (Ok x) read = read ≡ Ok (view x)
Gives view (Err e) read = Fails e read

abbrev pub held_view : AHeld → Held
held_view held = record { epoch = held.epoch; last_tx = held.last_tx; rows = held.rows; first = held.first; parts = held.parts; end = held.end }
