use Rattle.std.proofs.Common.{refl}
use Rattle.x_codes.specs.StateCode.{path_of, path_rest}
use Rattle.x_codes.proofs.reading.read_path.Goals as goal

pub returns-clause-path : goal.returns-clause-path
unfolding path_of
returns-clause-path c = rw (c.in_ok-read_choices.ensures.choices, c.new-path.ensures.items, c.number-count.ensures.number, c.number-count.ensures.rest) refl

pub returns-clause-rest : goal.returns-clause-rest
unfolding path_rest
returns-clause-rest c = rw (c.in_ok-read_choices.ensures.rest, c.number-count.ensures.number, c.number-count.ensures.rest) refl
