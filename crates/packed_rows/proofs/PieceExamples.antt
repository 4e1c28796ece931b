-- The example of specs/Pieces.antt, computed.
use Rattle.std.proofs.Common.{◌≡◌, ℕ, List, [], ◌∷◌, refl}
use Rattle.packed_rows.specs.Pieces.{row_bytes, draft_bytes}

-- a block of five bytes
abbrev pub block : List ℕ
block = 5 ∷ 6 ∷ 7 ∷ 8 ∷ 9 ∷ []

pub row_bytes-two_pieces : row_bytes block (0 ∷ 3 ∷ 4 ∷ 1 ∷ []) ≡ 5 ∷ 6 ∷ 7 ∷ 9 ∷ []
row_bytes-two_pieces = refl

pub draft_bytes-one_piece : draft_bytes block (0 ∷ 3 ∷ []) 4 ≡ 5 ∷ 6 ∷ 7 ∷ 9 ∷ []
draft_bytes-one_piece = refl
