use Rattle.std.proofs.Common.{ap}
use Rattle.x_steps.proofs.MovingLemmas.{same_from_X5, same_from_X7, same_before, label_in, not_label, valid_in, valid_taken, turned_on, taken_on}
use Rattle.x_steps.proofs.machine.Machine.stand_on_path.Goals as goal

pub turn-requires-clause-same : goal.turn-requires-clause-same
turn-requires-clause-same g c = same_from_X5 _ _ (label_in _ _ _ _ c.self.view_is c.in-X5-default.is-0)

pub turn-requires-in-X7-default-clause-same : goal.turn-requires-in-X7-default-clause-same
turn-requires-in-X7-default-clause-same g c = same_from_X7 _ _ (label_in _ _ _ _ c.self.view_is c.in-X7-default.is-0)

pub turn-requires-in_default : goal.turn-requires-in_default
turn-requires-in_default g c = record {
  fits = valid_in _ _ _ c.self.view_is c.self.invariant.fit;
  same = same_before _ (not_label _ _ _ _ c.self.view_is c.in_default.not-X5-0) (not_label _ _ _ _ c.self.view_is c.in_default.not-X6-0) (not_label _ _ _ _ c.self.view_is c.in_default.not-X7-0);
}

pub returns-in-X6-At-clause-on : goal.returns-in-X6-At-clause-on
returns-in-X6-At-clause-on g c = taken_on c.args.self.now _ _ c.retake_choice.ensures (valid_taken _ _ _ _ c.self.view_is c.in-X6-At.is-0 c.in-X6-At.is-1 c.self.invariant.fit)

pub returns-in_default : goal.returns-in_default
returns-in_default g c = record {
  on = turned_on c.args.self.now _ c.turn-in_default.ensures (valid_in _ _ _ c.self.view_is c.self.invariant.fit);
  problem = ap (λ m. m.problem) c.turn-in_default.ensures;
}
