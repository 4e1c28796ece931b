use Rattle.std.proofs.Common.{◌≡◌, drop}
use Rattle.x_codes.proofs.reading.skip.Given as goal

abbrev pub invariant-skipping : goal.invariant-skipping
invariant-skipping l = drop l.left l.reader ≡ drop l.count l.fn.reader

abbrev pub decreases-skipping : goal.decreases-skipping
decreases-skipping l = l.left
