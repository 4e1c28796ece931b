-- Numbers in steps of 64, with their bytes.
use Rattle.std.specs.Prelude.{ℕ, ◌≡◌, ◌≤◌, ◌*◌, List, length, take}
use Rattle.std.specs.List.{flat_map}
use Rattle.cover_problem.specs.FlatLists.{start_at}
use Rattle.packed_rows.specs.Numbers.{bytes_of}

-- the bytes are those of the numbers, and so many bytes stand before each step and behind the last
pub record IsKnown (numbers bytes ends : List ℕ) : Type 0 where
  pub spelled : bytes ≡ flat_map bytes_of numbers
  pub steps : length numbers ≡ 64 * length ends
  pub places : (k : ℕ) → k ≤ length ends → start_at 0 ends k ≡ length (flat_map bytes_of (take (64 * k) numbers))
