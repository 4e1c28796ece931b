use Rattle.std.proofs.Common.{◌≡◌, drop}
use Rattle.poly_texts.specs.Puzzle.{has_name, symbols_in}
use Rattle.poly_texts.specs.Reading.{some_repeated}
use Rattle.poly_texts.proofs.pieces.is_repeated.Given as goal

-- whether one of those that are left is repeated says it of all
abbrev pub invariant-loop-k : goal.invariant-loop-k
invariant-loop-k l = some_repeated (has_name (symbols_in l.kinds)) (drop l.k l.names) ≡ some_repeated (has_name (symbols_in l.kinds)) l.names
