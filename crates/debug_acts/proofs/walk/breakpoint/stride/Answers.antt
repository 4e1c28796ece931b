use Rattle.std.proofs.Common.{refl}
use Rattle.debug_acts.proofs.RunLemmas.{stride_none}
use Rattle.debug_acts.proofs.walk.breakpoint.stride.Goals as goal

pub returns-then-is_empty : goal.returns-then-is_empty
returns-then-is_empty c = stride_none c.args.breaks.now.keys (c.if-is_empty.ensures.0 refl)
