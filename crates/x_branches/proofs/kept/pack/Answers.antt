use Rattle.std.proofs.Common.{◌∙◌}
use Rattle.x_steps.specs.StateView.{state_value}
use Rattle.x_branches.proofs.KeptLemmas.{IsPacked, packed_is}
use Rattle.x_branches.proofs.kept.pack.Goals.{In_ok-put_after}
use Rattle.x_branches.proofs.kept.pack.Goals as goal

-- what the row tells once it is made
row : (c : In_ok-put_after) → IsPacked c.put_after.new.row c.visits.result.now c.levels-levels.result.now (state_value c.from-from.result.now)
    (state_value c.to.result.now)
row c =
    packed_is _ _ _ _ _ _ _ _ _ _ _ _ _ _ c.split_at.ensures.by_index.0 (c.split_at.ensures.front ∙ c.zeros_of-zeros.ensures.zeros)
    c.in_ok-put_path.ensures.reads c.in_ok-put_paths.ensures.reads c.in_ok-put_state.ensures.reads c.in_ok-put_after.ensures.reads c.deref.ensures.value
    c.clear.ensures c.in_ok-put.ensures.added c.in_ok-put_path.ensures.code c.in_ok-put_paths.ensures.code c.in_ok-put_state.ensures.code
    c.in_ok-put_after.ensures.code

pub returns-clause-ends : goal.returns-clause-ends
returns-clause-ends c =
    let packed = row (goal.at.returns-clause-ends c).In_ok-put_after in
    (λ j. record { problem = c.args.stretch.now.problem; from = (packed.from ∙ c.from-from.ensures.state) j; to = (packed.to ∙ c.to.ensures) j })

pub returns-clause-visits : goal.returns-clause-visits
returns-clause-visits c = (row (goal.at.returns-clause-visits c).In_ok-put_after).visits ∙ c.visits.ensures

pub returns-clause-levels : goal.returns-clause-levels
returns-clause-levels c = (row (goal.at.returns-clause-levels c).In_ok-put_after).levels ∙ c.levels-levels.ensures
