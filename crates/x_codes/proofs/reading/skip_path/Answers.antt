use Rattle.std.proofs.Common.{refl}
use Rattle.x_codes.specs.StateCode.{path_rest}
use Rattle.x_codes.proofs.reading.skip_path.Goals as goal

pub returns : goal.returns
unfolding path_rest
returns c = rw (c.skip.ensures, c.number-count.ensures.number, c.number-count.ensures.rest) refl
