use Rattle.std.proofs.Common.{ap, ◌∙◌}
use Rattle.x_codes.specs.StateCode.{state_rest, after_rest}
use Rattle.x_codes.proofs.reading.skip_after.Goals as goal

pub returns : goal.returns
unfolding after_rest
returns c = c.skip_state.ensures ∙ ap state_rest c.number-same.ensures.rest
