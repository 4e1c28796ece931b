-- What it means that one set of cells is another one turned or moved, over the integers.
--
-- Example: 1 0 0 and 2 0 0 are 0 0 0 and 1 0 0, translated by 1 0 0 (proofs/ShapeExamples.antt).
use Rattle.std.specs.Prelude.{◌≡◌, ℕ, List, map}
use Rattle.poly_cells.specs.Coordinates.{Coordinates, IsInGrid}
use Rattle.poly_cells.specs.Points.{Point, point, translated}
use Rattle.poly_cells.specs.Symmetries.{sent_by}
use Rattle.poly_cells.specs.Sets.{IsIn}

-- the cells ws are exactly the points to which symmetry n and then a translation by d bring the cells vs
pub record IsImage (n : ℕ) (d : Point) (vs ws : List Coordinates) : Type 0 where
  pub onto : (w : Coordinates) → IsIn w ws → (v : Coordinates) × IsIn v vs × (point w ≡ translated d (sent_by n (point v)))
  pub into : (v : Coordinates) → IsIn v vs → (w : Coordinates) × IsIn w ws × (point w ≡ translated d (sent_by n (point v)))

-- the cells ws are exactly the cells vs, translated by d
pub record IsTranslate (d : Point) (vs ws : List Coordinates) : Type 0 where
  pub onto : (w : Coordinates) → IsIn w ws → (v : Coordinates) × IsIn v vs × (point w ≡ translated d (point v))
  pub into : (v : Coordinates) → IsIn v vs → (w : Coordinates) × IsIn w ws × (point w ≡ translated d (point v))

-- the least x, the least y and the least z are 0
pub record IsAtOrigin (vs : List Coordinates) : Type 0 where
  pub x : (v : Coordinates) × IsIn v vs × (v.x ≡ 0)
  pub y : (v : Coordinates) × IsIn v vs × (v.y ≡ 0)
  pub z : (v : Coordinates) × IsIn v vs × (v.z ≡ 0)

-- ws is the image of vs under symmetry n, translated so that the least corner is at 0 0 0
pub record IsTurned (n : ℕ) (vs ws : List Coordinates) : Type 0 where
  pub by : Point
  pub image : IsImage n by vs ws
  pub origin : IsAtOrigin ws

-- ws is vs, translated so that the least corner is at 0 0 0
pub record IsNormal (vs ws : List Coordinates) : Type 0 where
  pub by : Point
  pub image : IsTranslate by vs ws
  pub origin : IsAtOrigin ws

-- symmetry n and then some translation bring the cells onto themselves
abbrev pub HasSymmetry : ℕ → List Coordinates → Type 0
HasSymmetry n vs = (d : Point) × IsImage n d vs vs

-- the points to which a translation by d brings the cells, in the same order
abbrev pub translates : Point → List Coordinates → List Point
translates d vs = map (λ v. translated d (point v)) vs

-- each of the cells, translated by d, is a cell again
abbrev pub StaysInside : Point → List Coordinates → Type 0
StaysInside d vs = (v : Coordinates) → IsIn v vs → (w : Coordinates) × IsInGrid w × (point w ≡ translated d (point v))
