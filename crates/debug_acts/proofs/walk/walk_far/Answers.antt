use Rattle.std.proofs.Common.{arith}
use Rattle.debug_acts.proofs.FarLemmas.{one_can}
use Rattle.debug_acts.proofs.walk.walk_far.Goals as goal

pub returns-then-most-gt1-clause-walked : goal.returns-then-most-gt1-clause-walked
returns-then-most-gt1-clause-walked g c = record {
  some = c.in-Ok.ensures.some c.requires;
  within = c.in-Ok.ensures.within;
  each_step = c.in-Ok.ensures.each_step;
  moves = c.in-Ok.ensures.moves;
  tells = c.in-Ok.ensures.event;
  made = c.in-Ok.ensures.state;
}

pub returns-clause-walked : goal.returns-clause-walked
returns-clause-walked g c = record {
  some = omega arith;
  within = c.requires;
  each_step = one_can c.args.worker.now.runner c.in-Ok-step.ensures.can;
  moves = λ i l. absurd (omega arith);
  tells = c.in-Ok-step.ensures.event;
  made = c.in-Ok-step.ensures.state;
}
