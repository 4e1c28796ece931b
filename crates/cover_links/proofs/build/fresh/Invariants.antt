use Rattle.std.proofs.Common.{◌≡◌}
use Rattle.cover_links.specs.Fresh.{built}
use Rattle.cover_links.proofs.build.fresh.Given as goal

abbrev pub invariant-loop-k : goal.invariant-loop-k
invariant-loop-k l = l.block ≡ built l.problem l.k
