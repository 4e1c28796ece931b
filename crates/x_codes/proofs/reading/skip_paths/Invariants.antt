use Rattle.std.proofs.Common.{◌≡◌, ◌+◌, ◌≤◌, [], length}
use Rattle.x_codes.specs.StateCode.{paths_at, after_paths, paths_of, paths_rest}
use Rattle.x_codes.proofs.reading.skip_paths.Given as goal

abbrev pub invariant-skipping : goal.invariant-skipping
invariant-skipping l = record {
  within : l.left ≤ l.told;
  count : length (paths_at l.left [] l.reader) + l.told ≡ length (paths_of l.fn.reader) + l.left;
  rest : after_paths l.left l.reader ≡ paths_rest l.fn.reader;
}

abbrev pub decreases-skipping : goal.decreases-skipping
decreases-skipping l = l.left
