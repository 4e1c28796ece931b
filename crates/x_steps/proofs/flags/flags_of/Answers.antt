use Rattle.std.proofs.Common.{arith, []}
use Rattle.x_steps.proofs.FlagLemmas.{flags_written}
use Rattle.x_steps.proofs.flags.flags_of.Goals as goal

pub returns : goal.returns
returns c = flags_written _ _ _ _ _ (omega arith) (c.flag_all.ensures c.args.items [] (rw c.deref_mut.ensures.value c.in_ok-flags.ensures))
