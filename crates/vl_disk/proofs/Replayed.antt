-- One more call behind those that were met.
use Rattle.std.proofs.Common.{◌≡◌, ◌≤◌, ◌+◌, ◌++◌, [], ◌∷◌, ℕ, List, length, take, drop, ◌∙◌, ap, arith, length-drop}
use Rattle.std.proofs.lemmas.List.{take_all, take-append-le, drop-append-le}
use Rattle.vl_disk.specs.Past.{Told, call_len, calls_len, replay, told_after}
use Rattle.vl_disk.specs.declared.call.Call.{Call}

pub calls_len_more : (calls : List Call) (call : Call) → calls_len (calls ++ call ∷ []) ≡ calls_len calls + call_len call
calls_len_more [] call = omega arith
calls_len_more (first ∷ calls) call = omega (arith, calls_len_more calls call)

pub replay_more : (told : Told) (calls : List Call) (log : List ℕ) (call : Call) (bytes : List ℕ)
    → calls_len calls ≡ length log → call_len call ≡ length bytes
    → replay told (calls ++ call ∷ []) (log ++ bytes) ≡ told_after call bytes (replay told calls log)
replay_more told [] [] call bytes sized len =
    let all : take (call_len call) bytes ≡ bytes = take_all (call_len call) bytes (omega (arith, len)) in
    ap (λ (b : List ℕ). told_after call b told) all
replay_more told [] (byte ∷ log) call bytes sized len = absurd (omega arith)
replay_more told (first ∷ calls) log call bytes sized len =
    let fits : call_len first ≤ length log = omega arith in
    let left : calls_len calls ≡ length (drop (call_len first) log) = omega (arith, length-drop (call_len first) log) in
    let front : take (call_len first) (log ++ bytes) ≡ take (call_len first) log = take-append-le (call_len first) log bytes fits in
    let back : drop (call_len first) (log ++ bytes) ≡ drop (call_len first) log ++ bytes = drop-append-le (call_len first) log bytes fits in
    ap (λ (f : List ℕ). replay (told_after first f told) (calls ++ call ∷ []) (drop (call_len first) (log ++ bytes))) front
    ∙ (ap (λ (b : List ℕ). replay (told_after first (take (call_len first) log) told) (calls ++ call ∷ []) b) back
    ∙ replay_more (told_after first (take (call_len first) log) told) calls (drop (call_len first) log) call bytes left len)
