use Rattle.std.proofs.Common.{ℕ, ◌≤◌, take}
use Rattle.poly_cells.specs.Sets.{IsIn}
use Rattle.poly_place.specs.Forms.{carried}
use Rattle.poly_distinct.proofs.moves.least_image.Given as goal

-- one of the images, and above none of those so far
abbrev pub invariant-loop-place : goal.invariant-loop-place
invariant-loop-place l = IsIn l.least (carried l.carrier l.places) × ((k : ℕ) → IsIn k (carried l.carrier (take l.place-index l.places)) → l.least ≤ k)
