use Rattle.std.proofs.Common.{refl}
use Rattle.x_branches.proofs.runner.Runner.shorten.Goals as goal

pub end_at-requires : goal.end_at-requires
end_at-requires g c = c.if-not-can_shorten.ensures.0 refl
