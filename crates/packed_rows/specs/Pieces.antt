-- Rows in pieces: bytes of one block that stand together, some of which several rows share.
--
-- Example: in the block 5 6 7 8 9 the places 0 3, 4 1 tell the row 5 6 7 9. proofs/PieceExamples.antt computes it.
use Rattle.std.specs.Prelude.{ℕ, ◌≡◌, ◌==◌, ◌+◌, ◌≤◌, ◌<◌, if◌then◌else◌, List, [], ◌∷◌, ◌++◌, length, take, drop, ⊤}

-- the bytes of a row, of whose places each two tell where a piece begins in the block and how long it is
abbrev pub row_bytes : List ℕ → List ℕ → List ℕ
row_bytes block [] = []
row_bytes block (start ∷ []) = []
row_bytes block (start ∷ size ∷ places) = take size (drop start block) ++ row_bytes block places

-- each piece has a byte at least, and stands in a block of so many
abbrev pub AreSpans : ℕ → List ℕ → Type 0
AreSpans most [] = ⊤
AreSpans most (start ∷ []) = ⊥
AreSpans most (start ∷ size ∷ places) = (0 < size) × (start + size ≤ most) × AreSpans most places

-- the bytes of a row to which pieces are still added: those of its pieces, and the block's from one on
abbrev pub draft_bytes : List ℕ → List ℕ → ℕ → List ℕ
draft_bytes block places from = row_bytes block places ++ drop from block

-- a list has become longer at its end
abbrev pub Grows : List ℕ → List ℕ → Type 0
Grows old new = (more : List ℕ) × (new ≡ old ++ more)

-- two lists have so many bytes in common, from the first on
pub record HaveCommon (n : ℕ) (one other : List ℕ) : Type 0 where
  pub same : take n one ≡ take n other
  pub first : n ≤ length one
  pub second : n ≤ length other

-- so many bytes of a list stand in the block, from a place on
pub record IsFound (block list : List ℕ) (start size : ℕ) : Type 0 where
  pub same : take size list ≡ take size (drop start block)
  pub first : size ≤ length list
  pub within : start + size ≤ length block

-- the two numbers of a piece, if it has a byte
abbrev pub span_of : ℕ → ℕ → List ℕ
span_of start size = if size == 0 then [] else start ∷ size ∷ []
