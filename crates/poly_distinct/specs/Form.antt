-- How the least form of a packing is found, where its form as it lies is known: the form that it has where it is carried is made from its
-- first place on, as long as it isn't greater than the least so far. A table tells where each number stood first.
--
-- Example: after 2 0 2 1 the numbers 1 and 2 are noted at 4 and 1, and 0 and 3 aren't. If 2 comes next, it keeps its place, and 3 is noted
-- at 5 (proofs/DistinctExamples.antt).
use Rattle.std.specs.Prelude.{◌≡◌, ℕ, ◌==◌, ◌&&◌, nat_lt, cond, List, length, slice_index, slice_set}
use Rattle.poly_cells.specs.Sets.{IsIn}
use Rattle.poly_place.specs.Forms.{AreBelow}

-- n places, each one of n
pub record IsMove (n : ℕ) (g : List ℕ) : Type 0 where
  pub long : length g ≡ n
  pub below : AreBelow n g

-- and so is each of these lists
abbrev pub EachIsMove : ℕ → List (List ℕ) → Type 0
EachIsMove n gs = (g : List ℕ) → IsIn g gs → IsMove n g

-- a table that has 0 for numbers that aren't noted, after a number above 0 came at this place
abbrev pub with_noted : List ℕ → ℕ → ℕ → List ℕ
with_noted firsts number place = cond (nat_lt 0 number && (slice_index firsts number == 0)) (slice_set firsts number place) firsts

-- what a form has at its first place, if the number there is x, and at its second, if y comes next
abbrev pub first_place : ℕ → ℕ
first_place x = cond (x == 0) 0 1

abbrev pub second_place : ℕ → ℕ → ℕ
second_place x y = cond (y == 0) 0 (cond (y == x) 1 2)
