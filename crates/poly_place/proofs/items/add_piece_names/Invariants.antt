use Rattle.std.proofs.Common.{◌≡◌, ◌++◌, ◌∷◌, [], map, take}
use Rattle.std.specs.String.{string_bytes}
use Rattle.poly_place.proofs.items.add_piece_names.Given as goal

-- the names of the pieces so far are added
abbrev pub invariant-loop-name : goal.invariant-loop-name
invariant-loop-name l = map string_bytes l.names.items ≡ map string_bytes l.initial.names.items ++ map (λ n. n ∷ []) (take l.name-index l.pieces)
