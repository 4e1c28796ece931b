use Rattle.std.proofs.Common.{◌≡◌, drop}
use Rattle.std.specs.List.{list_any}
use Rattle.poly_texts.specs.Puzzle.{has_name, symbols_in}
use Rattle.poly_texts.proofs.pieces.is_taken.Given as goal

-- whether one of the kinds left has the symbol says it of all
abbrev pub invariant-loop-k : goal.invariant-loop-k
invariant-loop-k l = list_any (λ k. has_name k.symbols l.name) (drop l.k l.kinds) ≡ has_name (symbols_in l.kinds) l.name
