-- Rows with room for more.
use Rattle.std.specs.Prelude.{ℕ, ◌+◌, ◌-◌, ◌*◌, ◌≤◌, List, take, ◌++◌, ◌∷◌, [], length, map}
use Rattle.std.specs.List.{All}
use Rattle.cover_problem.specs.FlatLists.{lists_at, IsParted}
use Rattle.packed_rows.specs.Numbers.{numbers_of, IsSpelled}
use Rattle.packed_rows.specs.Pieces.{row_bytes, AreSpans}

-- rows; for how many rows of up to eight numbers room is kept; and for how many numbers of one row more
pub record RowsValue : Type 0 where
  pub rows : List (List ℕ)
  pub kept : ℕ
  pub room : ℕ

-- the bytes of each row, whose places go up to its end
abbrev pub rows_bytes : List ℕ → List ℕ → List ℕ → List (List ℕ)
rows_bytes block places ends = map (row_bytes block) (lists_at places 0 ends)

-- the rows that they tell
abbrev pub rows_at : List ℕ → List ℕ → List ℕ → List (List ℕ)
rows_at block places ends = map numbers_of (rows_bytes block places ends)

-- the ends part the places, each row's places stand in the block, and its bytes are those of its numbers
pub record KeepsPieces (block places ends : List ℕ) : Type 0 where
  pub parted : IsParted places 0 ends
  pub placed : All (AreSpans (length block)) (lists_at places 0 ends)
  pub spelled : All IsSpelled (rows_bytes block places ends)

-- there is room for so many short rows and so many numbers of one row more: a block's bytes, two places for each row, and its end
pub record HasRoom (block_len block_cap places_len places_cap ends_len ends_cap kept room : ℕ) : Type 0 where
  pub block_fits : block_len + (80 * kept + 10 * room) ≤ block_cap
  pub places_fit : places_len + 2 * (kept + room) ≤ places_cap
  pub ends_fit : ends_len + (kept + room) ≤ ends_cap

-- one row more
abbrev pub added : RowsValue → List ℕ → ℕ → ℕ → RowsValue
added a row kept room = record { rows = a.rows ++ row ∷ []; kept = kept; room = room }

-- the same rows, and room for so many more
abbrev pub keeping : RowsValue → ℕ → ℕ → RowsValue
keeping a kept room = record { rows = a.rows; kept = kept; room = room }

-- the rows but for the last
abbrev pub without_last : RowsValue → RowsValue
without_last a = record a { rows = take (length a.rows - 1) a.rows }
