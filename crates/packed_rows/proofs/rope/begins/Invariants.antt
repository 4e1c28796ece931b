use Rattle.std.proofs.Common.{◌≡◌, ◌++◌, List, ℕ, length}
use Rattle.packed_rows.proofs.rope.begins.Given as goal

abbrev pub invariant-comparing : goal.invariant-comparing
invariant-comparing l = record {
  yes : (rest : List ℕ) → l.rope ≡ l.left ++ rest → l.fn.rope ≡ l.bytes ++ rest;
  no : (rest : List ℕ) → l.fn.rope ≡ l.bytes ++ rest → l.rope ≡ l.left ++ rest;
}

abbrev pub decreases-comparing : goal.decreases-comparing
decreases-comparing l = length l.left
