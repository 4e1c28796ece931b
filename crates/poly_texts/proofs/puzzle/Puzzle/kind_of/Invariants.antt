use Rattle.std.proofs.Common.{◌≡◌, drop, flat_map}
use Rattle.std.specs.List.{list_any}
use Rattle.poly_texts.specs.Kinds.{kind_names}
use Rattle.poly_texts.specs.Puzzle.{has_name}
use Rattle.poly_texts.proofs.puzzle.Puzzle.kind_of.Given as goal

-- whether one of the kinds left has the name says it of all
abbrev pub invariant-loop-kind : goal.invariant-loop-kind
invariant-loop-kind l = list_any (λ k. has_name (kind_names k) l.name) (drop l.kind-index l.kinds) ≡ has_name (flat_map kind_names l.kinds) l.name
