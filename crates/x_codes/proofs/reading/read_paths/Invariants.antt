use Rattle.std.proofs.Common.{◌≡◌, ◌++◌}
use Rattle.x_codes.specs.StateCode.{paths_at, after_paths, paths_of, paths_rest}
use Rattle.x_codes.proofs.reading.read_paths.Given as goal

abbrev pub invariant-reading : goal.invariant-reading
invariant-reading l = record {
  paths : l.paths ++ paths_at l.left l.path.items l.reader ≡ l.fn.paths ++ paths_of l.fn.reader;
  rest : after_paths l.left l.reader ≡ paths_rest l.fn.reader;
}

abbrev pub decreases-reading : goal.decreases-reading
decreases-reading l = l.left
