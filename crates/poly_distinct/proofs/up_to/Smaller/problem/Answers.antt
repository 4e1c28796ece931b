use Rattle.std.proofs.Common.{◌∙◌, ap}
use Rattle.poly_distinct.specs.UpTo.{UpToValue, smaller}
use Rattle.poly_distinct.proofs.PartLemmas.{problem_whole, problem_part}
use Rattle.poly_distinct.proofs.up_to.Smaller.problem.Goals as goal

pub returns-in-None : goal.returns-in-None
returns-in-None c = c.problem.ensures ∙ problem_whole _ _ _ c.self.invariant.part_is c.in-None.is ∙ ap (λ (a : UpToValue). smaller a.puzzle a.group) c.self.view_is

pub returns-in-Some : goal.returns-in-Some
returns-in-Some c = c.problem-in-Some.ensures ∙ problem_part _ _ _ _ c.self.invariant.part_is c.in-Some.is ∙ ap (λ (a : UpToValue). smaller a.puzzle a.group) c.self.view_is
