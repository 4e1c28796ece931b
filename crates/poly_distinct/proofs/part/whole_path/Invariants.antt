use Rattle.std.proofs.Common.{◌≡◌, ◌-◌, map, take, slice_index_or}
use Rattle.poly_distinct.proofs.part.whole_path.Given as goal

-- the numbers so far
abbrev pub invariant-loop-option : goal.invariant-loop-option
invariant-loop-option l = l.whole.items ≡ map (λ k. slice_index_or l.numbers (k - 1) 0) (take l.option-index l.path)
