use Rattle.std.proofs.Common.{false, ◌∙◌}
use Rattle.x_steps.specs.StateView.{state_value}
use Rattle.polylab_engine.proofs.AccountLemmas.{report_of_stretch}
use Rattle.polylab_engine.proofs.search.count_by.Goals as goal

pub returns : goal.returns
returns g c =
    report_of_stretch false c.args.problem.now (state_value c.args.from.now) (state_value c.args.to.now) _ c.of_counts.ensures.visits (c.of_counts.ensures.visited ∙ c.in_ok-counts.ensures.visits)
    (c.of_counts.ensures.steps ∙ c.in_ok-counts.ensures.steps) (c.of_counts.ensures.levels ∙ c.in_ok-counts.ensures.levels)
