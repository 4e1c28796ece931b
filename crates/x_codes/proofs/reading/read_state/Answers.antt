use Rattle.std.proofs.Common.{refl}
use Rattle.x_codes.specs.StateCode.{state_of, state_rest}
use Rattle.x_codes.proofs.reading.read_state.Goals as goal

pub returns-clause-state : goal.returns-clause-state
unfolding state_of
returns-clause-state c = rw (c.in_ok-path.ensures.path, c.label-label.ensures, c.cursor-cursor.ensures, c.number-option.ensures.number, c.number-kind.ensures.number, c.number.ensures.number, c.number-option.ensures.rest, c.number-kind.ensures.rest, c.number.ensures.rest) refl

pub returns-clause-rest : goal.returns-clause-rest
unfolding state_rest
returns-clause-rest c = rw (c.in_ok-path.ensures.rest, c.number-option.ensures.rest, c.number-kind.ensures.rest, c.number.ensures.rest) refl
