use Rattle.std.proofs.Common.{refl}
use Rattle.x_codes.specs.StateCode.{state_rest}
use Rattle.x_codes.proofs.reading.skip_state.Goals as goal

pub returns : goal.returns
unfolding state_rest
returns c = rw (c.skip_path.ensures, c.number-option.ensures.rest, c.number-kind.ensures.rest, c.number-label.ensures.rest) refl
