use Rattle.std.proofs.Common.{sym, ◌∙◌}
use Rattle.cover_problem.proofs.CoverTestLemmas.{passes_is, passes_from}
use Rattle.cover_problem.proofs.problem.Problem.is_exact_cover.Goals as goal

pub returns : goal.returns
returns c =
    (λ h. passes_is _ c.items.ensures.problem _ (sym c.passes.ensures ∙ h), λ w. c.passes.ensures ∙ passes_from _ c.items.ensures.problem _ w.0 w.1)
