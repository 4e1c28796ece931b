use Rattle.std.proofs.Common.{◌≡◌, map, filter, take}
use Rattle.std.specs.List.{range_with_len}
use Rattle.poly_cells.specs.Shapes.{turned}
use Rattle.poly_distinct.specs.Exchange.{takes_symmetry}
use Rattle.poly_distinct.proofs.formed.all_forms.Given as goal

-- the forms by the symmetries so far
abbrev pub invariant-loop-n : goal.invariant-loop-n
invariant-loop-n l = l.forms.items ≡ map (λ k. turned k l.piece) (filter (takes_symmetry l.rotations l.both) (take l.n (range_with_len 0 48)))
