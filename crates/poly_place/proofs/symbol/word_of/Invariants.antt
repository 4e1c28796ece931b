use Rattle.std.proofs.Common.{◌≡◌, drop, find, flat_map}
use Rattle.poly_texts.specs.Kinds.{kind_copies}
use Rattle.poly_place.specs.Layers.{begins_with}
use Rattle.poly_place.proofs.symbol.word_of.Given as goal

-- what is found among those that are left is found among all
abbrev pub invariant-loop-k : goal.invariant-loop-k
invariant-loop-k l = find (begins_with l.name) (flat_map kind_copies (drop l.k l.kinds)) ≡ find (begins_with l.name) (flat_map kind_copies l.kinds)
