-- The unsynced writes are brought to the disk one by one.
use Rattle.std.proofs.Common.{◌≡◌, ◌<◌, ◌≤◌, ◌+◌, ◌∷◌, ℕ, List, length, take, drop, max, get_or, sym, ◌∙◌, ap, subst, arith, length-take, length-drop}
use Rattle.std.proofs.lemmas.List.{drop_more}
use Rattle.vl_disk.specs.Moment.{put}
use Rattle.vl_disk.specs.Content.{ArePlaced, all_picked, cut_up, laid, picked, pieces_len}
use Rattle.vl_disk.specs.Images.{laid_longer, picked_size, put_length}
use Rattle.vl_disk.specs.declared.pick.Pick.{Pick}
use Rattle.vl_disk.specs.declared.piece.Piece.{Piece}

-- with these pieces left, whose bytes are the rest, the file becomes the one that is wanted
pub record IsLaying (pick : Pick) (wanted : List ℕ) (pieces : List Piece) (file rest : List ℕ) : Type 0 where
  pub sized : pieces_len pieces ≡ length rest
  pub placed : ArePlaced (length file) (cut_up pieces rest)
  pub same : laid file (all_picked pick (cut_up pieces rest)) ≡ wanted

grown : (pick : Pick) (file : List ℕ) (offset : ℕ) (bytes : List ℕ) → offset ≤ length file
    → length (put file offset (picked pick bytes)) ≡ max (length file) (offset + length bytes)
grown pick file offset bytes within =
    put_length file offset (picked pick bytes) within
    ∙ ap (λ (n : ℕ). max (length file) (offset + n)) (picked_size pick bytes)

laid_one : (pick : Pick) (wanted : List ℕ) (first : Piece) (pieces : List Piece) (file rest : List ℕ)
    → IsLaying pick wanted (first ∷ pieces) file rest
    → IsLaying pick wanted pieces (put file first.offset (picked pick (take first.len rest))) (drop first.len rest)
laid_one pick wanted first pieces file rest laying =
    let P : ℕ → Type 0 = λ n. ArePlaced n (cut_up pieces (drop first.len rest)) in
    record {
      sized = omega (arith, laying.sized, length-drop first.len rest);
      placed = subst P (sym (grown pick file first.offset (take first.len rest) laying.placed.0)) laying.placed.1;
      same = laying.same;
    }

one_fits : (pick : Pick) (wanted : List ℕ) (first : Piece) (pieces : List Piece) (file rest : List ℕ)
    → IsLaying pick wanted (first ∷ pieces) file rest
    → (first.len ≤ length rest) × (first.offset ≤ length file) × (first.offset + first.len ≤ length wanted)
one_fits pick wanted first pieces file rest laying =
    let bytes : List ℕ = picked pick (take first.len rest) in
    let within : first.len ≤ length rest = omega (arith, laying.sized) in
    let longer : length (put file first.offset bytes) ≤ length wanted =
    omega (arith, laid_longer (put file first.offset bytes) (all_picked pick (cut_up pieces (drop first.len rest))), ap length laying.same) in (
      within,
      laying.placed.0,
      omega (arith, longer, grown pick file first.offset (take first.len rest) laying.placed.0, length-take first.len rest),
    )

pub laid_next : (pick : Pick) (wanted : List ℕ) (pieces : List Piece) (index : ℕ) (d : Piece) (file rest : List ℕ)
    → index < length pieces → IsLaying pick wanted (drop index pieces) file rest
    → IsLaying pick wanted (drop (index + 1) pieces) (put file (get_or pieces index d).offset (picked pick (take (get_or pieces index d).len rest))) (drop (get_or pieces index d).len rest)
laid_next pick wanted pieces index d file rest inside laying =
    let P : List Piece → Type 0 = λ ps. IsLaying pick wanted ps file rest in
    laid_one pick wanted (get_or pieces index d) (drop (index + 1) pieces) file rest (subst P (drop_more pieces index d inside) laying)

pub next_fits : (pick : Pick) (wanted : List ℕ) (pieces : List Piece) (index : ℕ) (d : Piece) (file rest : List ℕ)
    → index < length pieces → IsLaying pick wanted (drop index pieces) file rest
    → ((get_or pieces index d).len ≤ length rest) × ((get_or pieces index d).offset ≤ length file)
    × ((get_or pieces index d).offset + (get_or pieces index d).len ≤ length wanted)
next_fits pick wanted pieces index d file rest inside laying =
    let P : List Piece → Type 0 = λ ps. IsLaying pick wanted ps file rest in
    one_fits pick wanted (get_or pieces index d) (drop (index + 1) pieces) file rest (subst P (drop_more pieces index d inside) laying)
