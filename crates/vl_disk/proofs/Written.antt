-- One more write behind the unsynced ones.
use Rattle.std.proofs.Common.{◌≡◌, ◌<◌, ◌≤◌, ◌+◌, ◌-◌, ◌*◌, ◌++◌, [], ◌∷◌, ℕ, List, length, take, drop, max, refl, sym, ◌∙◌, ap, subst, arith, length-append, length-drop}
use Rattle.std.proofs.lemmas.List.{take_all, take-append-le, drop-append-le}
use Rattle.vl_disk.specs.Moment.{put}
use Rattle.vl_disk.specs.Content.{ArePlaced, cut_up, laid, pieces_len}
use Rattle.vl_disk.specs.Images.{put_length}
use Rattle.vl_disk.specs.declared.piece.Piece.{Piece}

pub laid_more : (file : List ℕ) (writes : List (ℕ × List ℕ)) (offset : ℕ) (bytes : List ℕ)
    → laid file (writes ++ (offset, bytes) ∷ []) ≡ put (laid file writes) offset bytes
laid_more file [] offset bytes = refl
laid_more file (write ∷ writes) offset bytes = laid_more (put file write.0 write.1) writes offset bytes

pub pieces_len_more : (pieces : List Piece) (piece : Piece) → pieces_len (pieces ++ piece ∷ []) ≡ pieces_len pieces + piece.len
pieces_len_more [] piece = omega arith
pieces_len_more (first ∷ pieces) piece = omega (arith, pieces_len_more pieces piece)

-- the bytes of one more piece stand behind the others
pub cut_up_more : (pieces : List Piece) (log : List ℕ) (piece : Piece) (bytes : List ℕ)
    → pieces_len pieces ≡ length log → piece.len ≡ length bytes
    → cut_up (pieces ++ piece ∷ []) (log ++ bytes) ≡ cut_up pieces log ++ (piece.offset, bytes) ∷ []
cut_up_more [] [] piece bytes sized len =
    let all : take piece.len bytes ≡ bytes = take_all piece.len bytes (omega (arith, len)) in
    ap (λ (b : List ℕ). (piece.offset, b) ∷ []) all
cut_up_more [] (byte ∷ log) piece bytes sized len = absurd (omega arith)
cut_up_more (first ∷ pieces) log piece bytes sized len =
    let fits : first.len ≤ length log = omega arith in
    let left : pieces_len pieces ≡ length (drop first.len log) = omega (arith, length-drop first.len log) in
    let front : take first.len (log ++ bytes) ≡ take first.len log = take-append-le first.len log bytes fits in
    let back : drop first.len (log ++ bytes) ≡ drop first.len log ++ bytes = drop-append-le first.len log bytes fits in
    let more : cut_up (pieces ++ piece ∷ []) (drop first.len log ++ bytes) ≡ cut_up pieces (drop first.len log) ++ (piece.offset, bytes) ∷ [] =
    cut_up_more pieces (drop first.len log) piece bytes left len in
    rw front (rw back (ap (λ (writes : List (ℕ × List ℕ)). (first.offset, take first.len log) ∷ writes) more))

pub placed_more : (file : List ℕ) (writes : List (ℕ × List ℕ)) (offset : ℕ) (bytes : List ℕ)
    → ArePlaced (length file) writes → offset ≤ length (laid file writes)
    → ArePlaced (length file) (writes ++ (offset, bytes) ∷ [])
placed_more file [] offset bytes placed within = (within, tt)
placed_more file (write ∷ writes) offset bytes placed within =
    let size : length (put file write.0 write.1) ≡ max (length file) (write.0 + length write.1) =
    put_length file write.0 write.1 placed.0 in
    let P : ℕ → Type 0 = λ n. ArePlaced n writes in
    let Q : ℕ → Type 0 = λ n. ArePlaced n (writes ++ (offset, bytes) ∷ []) in
    (placed.0, subst Q size (placed_more (put file write.0 write.1) writes offset bytes (subst P (sym size) placed.1) within))

-- a call takes its share of what was reserved
pub less_room : (used spare room all n : ℕ) → used + spare * room ≤ all → n ≤ room → 0 < spare
    → (used + n) + (spare - 1) * room ≤ all
less_room used spare room all n fits small some = grind arith

-- a file in memory: what is shown, that the writes are placed, and that their bytes stand in a row
pub record IsMore (base file : List ℕ) (pieces : List Piece) (log : List ℕ) (writes : List (ℕ × List ℕ)) : Type 0 where
  pub shows : file ≡ laid base (cut_up pieces log)
  pub placed : ArePlaced (length base) (cut_up pieces log)
  pub sized : pieces_len pieces ≡ length log
  pub same : cut_up pieces log ≡ writes

one_more : (base bytes log : List ℕ) (pieces : List Piece) (added : List ℕ) (piece : Piece)
    → bytes ≡ laid base (cut_up pieces log) → ArePlaced (length base) (cut_up pieces log) → pieces_len pieces ≡ length log
    → piece.offset ≤ length bytes → piece.len ≡ length added
    → IsMore base (put bytes piece.offset added) (pieces ++ piece ∷ []) (log ++ added) (cut_up pieces log ++ (piece.offset, added) ∷ [])
one_more base bytes log pieces added piece shows placed sized within len =
    let writes : cut_up (pieces ++ piece ∷ []) (log ++ added) ≡ cut_up pieces log ++ (piece.offset, added) ∷ [] =
    cut_up_more pieces log piece added sized len in
    let P : List (ℕ × List ℕ) → Type 0 = λ ws. ArePlaced (length base) ws in
    record {
      shows = ap (λ (file : List ℕ). put file piece.offset added) shows
          ∙ (sym (laid_more base (cut_up pieces log) piece.offset added)
          ∙ ap (λ (ws : List (ℕ × List ℕ)). laid base ws) (sym writes));
      placed = subst P (sym writes) (placed_more base (cut_up pieces log) piece.offset added placed (omega (arith, within, ap length shows)));
      sized = omega (arith, pieces_len_more pieces piece, length-append log added);
      same = writes;
    }

-- one more write
pub written_more : (base bytes log : List ℕ) (pieces : List Piece) (added : List ℕ) (piece : Piece)
    → bytes ≡ laid base (cut_up pieces log) → ArePlaced (length base) (cut_up pieces log) → pieces_len pieces ≡ length log
    → piece.offset ≤ length bytes → piece.len ≡ length added
    → (new_bytes : List ℕ) (new_pieces : List Piece) (new_log : List ℕ) → new_bytes ≡ put bytes piece.offset added
    → new_pieces ≡ pieces ++ piece ∷ [] → new_log ≡ log ++ added
    → IsMore base new_bytes new_pieces new_log (cut_up pieces log ++ (piece.offset, added) ∷ [])
written_more base bytes log pieces added piece shows placed sized within len new_bytes new_pieces new_log by_bytes by_pieces by_log =
    let writes : List (ℕ × List ℕ) = cut_up pieces log ++ (piece.offset, added) ∷ [] in
    let P : List ℕ → Type 0 = λ file. IsMore base file new_pieces new_log writes in
    let Q : List Piece → Type 0 = λ ps. IsMore base (put bytes piece.offset added) ps new_log writes in
    let R : List ℕ → Type 0 = λ l. IsMore base (put bytes piece.offset added) (pieces ++ piece ∷ []) l writes in
    subst P (sym by_bytes) (subst Q (sym by_pieces) (subst R (sym by_log) (one_more base bytes log pieces added piece shows placed sized within len)))
