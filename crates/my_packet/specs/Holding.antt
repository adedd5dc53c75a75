-- What a framer's fields say together.
use Rattle.std.specs.Prelude.{◌≡◌, ℕ, ◌<◌, ◌≤◌, List, [], length}
use Rattle.my_packet.specs.Bytes.{header, longest_payload}

-- behind a part of a header nothing is in hand; a whole one is lawful and has its length beside it, and less
-- than that is in hand
pub record IsHeld (due : ℕ) (head : List ℕ) (len : ℕ) (payload : List ℕ) : Type 0 where
  pub part : length head < 4 → payload ≡ []
  pub whole : length head ≡ 4 → head ≡ header len due
  pub limit : length head ≡ 4 → len ≤ longest_payload
  pub less : length head ≡ 4 → length payload < len
  pub most : length head ≤ 4
