use Rattle.std.proofs.Common.{◌≡◌, map, take, length}
use Rattle.cover_problem.specs.Plain.{holders_of}
use Rattle.cover_problem.proofs.plain.note_all.Given as goal

abbrev pub invariant-loop-place : goal.invariant-loop-place
invariant-loop-place l = map (λ o. o.items) l.holders ≡ holders_of (length l.fn.holders) (take l.place l.options)
