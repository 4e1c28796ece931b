use Rattle.std.proofs.Common.{◌≡◌, drop}
use Rattle.poly_distinct.specs.Moves.{thing_of}
use Rattle.poly_distinct.specs.UpTo.{first_cells}
use Rattle.poly_distinct.proofs.part.first_cells.Given as goal

-- what is left decides
abbrev pub invariant-loop-choice : goal.invariant-loop-choice
invariant-loop-choice l = first_cells (thing_of l.anchor) (drop l.choice-index l.choices) ≡ first_cells (thing_of l.anchor) l.choices
