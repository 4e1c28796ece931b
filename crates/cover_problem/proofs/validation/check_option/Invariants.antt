use Rattle.std.proofs.Common.{◌≡◌, length, drop, take}
use Rattle.text_lines.specs.Each.{each}
use Rattle.cover_problem.specs.Validation.{add_number, option_from}
use Rattle.cover_problem.specs.Stamps.{AreStamps}
use Rattle.cover_problem.proofs.validation.check_option.Given as goal

abbrev pub invariant-loop-number : goal.invariant-loop-number
invariant-loop-number l = record {
  so_far : each (add_number (length l.fn.marks)) (take l.number-index l.numbers) (drop l.number-index l.numbers) ≡ option_from (length l.fn.marks) l.numbers;
  marked : AreStamps l.stamp (take l.number-index l.numbers) l.marks;
}
