use Rattle.std.proofs.Common.{map, take}
use Rattle.cover_problem.specs.Plain.{IsNoted}
use Rattle.cover_problem.proofs.plain.note.Given as goal

abbrev pub invariant-loop-item : goal.invariant-loop-item
invariant-loop-item l = IsNoted l.k (take l.item-index l.option) (map (λ o. o.items) l.fn.holders) (map (λ o. o.items) l.holders)
