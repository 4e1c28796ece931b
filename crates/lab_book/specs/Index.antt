-- What is kept beside a list of tiles, so that no call goes over all of them: places before which the tiles with an id don't stand
-- (`AreLeast`), a place before which none waits (`WaitFrom`), how many wait and are leased, and the totals of what was posted (`KeepsTiles`).
--
-- Example: for the small problem's book parted at the cut 4, with the ids 0 and 1, the places 0 and 0 are low enough; its first tile is
-- leased, so that none waits before the place 1. proofs/BookExamples.antt computes it.
use Rattle.std.specs.Prelude.{ℕ, ◌≡◌, ◌<◌, ◌≤◌, false, List, length, slice_index}
use Rattle.lab_book.specs.Tile.{TileValue, is_waiting}
use Rattle.lab_book.specs.Tiling.{tile_at, AreNumbered}
use Rattle.lab_book.specs.Book.{waiting_in, leased_in}
use Rattle.lab_book.specs.Totals.{TotalsValue, AreTotals}

-- for each id, from 0 on, a place before which its tile does not stand: tiles only move up
pub record AreLeast (places : List ℕ) (ts : List TileValue) : Type 0 where
  pub long : length places ≡ length ts
  pub least : (i : ℕ) → i < length ts → slice_index places (tile_at ts i).id ≤ i

-- no tile before a place waits
abbrev pub WaitFrom : ℕ → List TileValue → Type 0
WaitFrom from ts = (i : ℕ) → i < length ts → i < from → is_waiting (tile_at ts i).status ≡ false

-- the ids are numbers; the least places of ids, the place before which no tile waits, how many tiles wait and are leased, and the totals
pub record KeepsTiles (ts : List TileValue) (places : List ℕ) (from waiting leased : ℕ) (totals : TotalsValue) : Type 0 where
  pub numbered : AreNumbered ts
  pub index : AreLeast places ts
  pub waits_from : WaitFrom from ts
  pub waiting_are : waiting ≡ waiting_in ts
  pub leased_are : leased ≡ leased_in ts
  pub totals_are : AreTotals ts totals
