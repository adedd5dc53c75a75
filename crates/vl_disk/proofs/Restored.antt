-- A file in memory whose writes were brought to the disk, or given up.
use Rattle.std.proofs.Common.{◌≡◌, ◌≤◌, [], ℕ, List, length, refl, sym, ◌∙◌, ap, subst, arith}
use Rattle.vl_disk.specs.Content.{FileContent, cut_up, image_of, laid}
use Rattle.vl_disk.specs.Images.{image_fits}
use Rattle.vl_disk.proofs.Written.{IsMore}
use Rattle.vl_disk.specs.declared.pick.Pick.{Pick}
use Rattle.vl_disk.specs.declared.piece.Piece.{Piece}

abbrev pub file_of : List ℕ → List Piece → List ℕ → FileContent
file_of base pieces log = record { synced = base; writes = cut_up pieces log }

-- each image fits where what is shown fits
pub pick_fits : (pick : Pick) (base bytes : List ℕ) (pieces : List Piece) (log : List ℕ) (room : ℕ)
    → bytes ≡ laid base (cut_up pieces log) → length bytes ≤ room
    → (same_pieces : List Piece) (same_log : List ℕ) → same_pieces ≡ pieces → same_log ≡ log
    → length (image_of pick (file_of base same_pieces same_log)) ≤ room
pick_fits pick base bytes pieces log room shows fits same_pieces same_log by_pieces by_log =
    let same : length (image_of pick (file_of base same_pieces same_log)) ≡ length (image_of pick (file_of base pieces log)) =
    ap (λ (ps : List Piece). length (image_of pick (file_of base ps same_log))) by_pieces
    ∙ ap (λ (l : List ℕ). length (image_of pick (file_of base pieces l))) by_log in
    omega (arith, same, image_fits pick (file_of base pieces log), ap length shows, fits)

-- nothing is unsynced
pub none_left : (base bytes : List ℕ) (pieces : List Piece) (log : List ℕ) → bytes ≡ base → pieces ≡ [] → log ≡ []
    → IsMore base bytes pieces log []
none_left base bytes pieces log by_bytes by_pieces by_log =
    let P : List ℕ → Type 0 = λ file. IsMore base file pieces log [] in
    let Q : List Piece → Type 0 = λ ps. IsMore base base ps log [] in
    let R : List ℕ → Type 0 = λ l. IsMore base base [] l [] in
    let none : IsMore base base [] [] [] = record { shows = refl; placed = tt; sized = refl; same = refl } in
    subst P (sym by_bytes) (subst Q (sym by_pieces) (subst R (sym by_log) none))

-- a file that became the image of a pick
pub image_same : (pick : Pick) (base file : List ℕ) (pieces same_pieces : List Piece) (log same_log : List ℕ)
    → file ≡ image_of pick (file_of base same_pieces same_log) → same_pieces ≡ pieces → same_log ≡ log
    → file ≡ image_of pick (file_of base pieces log)
image_same pick base file pieces same_pieces log same_log is by_pieces by_log =
    is ∙ (ap (λ (ps : List Piece). image_of pick (file_of base ps same_log)) by_pieces
    ∙ ap (λ (l : List ℕ). image_of pick (file_of base pieces l)) by_log)
