use Rattle.std.proofs.Common.{length, take}
use Rattle.poly_distinct.specs.Counts.{AreCounts, first_places, places_in}
use Rattle.poly_distinct.proofs.tally.count_cells.Given as goal

-- the choices so far are counted
abbrev pub invariant-loop-choice : goal.invariant-loop-choice
invariant-loop-choice l =
    AreCounts (length l.moves.puzzle.region) (places_in l.moves.puzzle) (take l.choice-index l.choices) l.options
    × AreCounts (length l.moves.puzzle.region) (first_places l.moves) (take l.choice-index l.choices) l.kept
