use Rattle.std.proofs.Common.{◌≡◌, ◌≤◌, [], map, drop, take, length, All}
use Rattle.text_lines.specs.Each.{each}
use Rattle.cover_problem.specs.Validation.{add_option}
use Rattle.cover_problem.proofs.validation.check_each.Given as goal

abbrev pub invariant-loop-place : goal.invariant-loop-place
invariant-loop-place l = record {
  so_far : each (add_option (length l.fn.marks)) (map (λ o. o.items) (take l.place l.options)) (map (λ o. o.items) (drop l.place l.options)) ≡ each (add_option (length l.fn.marks)) [] (map (λ o. o.items) l.options);
  old : All (λ mark. mark ≤ l.place) l.marks;
}
