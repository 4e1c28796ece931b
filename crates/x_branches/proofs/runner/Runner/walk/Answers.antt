use Rattle.std.proofs.Common.{◌∙◌}
use Rattle.std.proofs.lemmas.Bool.{false≢true}
use Rattle.x_branches.proofs.AdvanceLemmas.{refused_at_visit}
use Rattle.x_branches.proofs.runner.Runner.walk.Goals as goal

pub walk_on-walk-requires : goal.walk_on-walk-requires
walk_on-walk-requires g c = record { goes_on = λ e. false≢true (c.if-is_at_end.ensures.1 e) }

pub returns-then-most-gt0-clause-refused : goal.returns-then-most-gt0-clause-refused
returns-then-most-gt0-clause-refused g c =
    let other = rw (← c.self.view_is) at c.if-is_at_end.ensures.1 in
    let held = rw (← c.self.view_is) at c.walk_on-walk.ensures.none in
    rw (← c.self.view_is) (refused_at_visit _ c.args.most (λ e. false≢true (other e)) (λ full. c.if-self.false (c.self.invariant.steps_are ∙ full)) c.if-most-gt0.true (held c.if-walk-eq0.true))
