use Rattle.x_steps.proofs.MovingLemmas.{on_problem, on_the_path, on_its_own, next_fits, went_down, down_to}
use Rattle.x_steps.proofs.machine.Machine.go_down_all.Goals as goal

pub go_down-requires-clause-on : goal.go_down-requires-clause-on
go_down-requires-clause-on g c = on_its_own _ _ _ c.loop-option.invariant

pub go_down-requires-clause-fits : goal.go_down-requires-clause-fits
go_down-requires-clause-fits g c =
    next_fits _ _ _ _ _ _ (on_problem _ _ _ c.loop-option.invariant) (on_the_path _ _ _ c.loop-option.invariant) c.loop-option-test.true c.requires.valid

pub loop-option-preserved : goal.loop-option-preserved
loop-option-preserved g c =
    let same = on_problem _ _ _ c.loop-option.invariant in
    let path = on_the_path _ _ _ c.loop-option.invariant in
    went_down _ _ _ _ _ _ _ same path c.loop-option-test.true (next_fits _ _ _ _ _ _ same path c.loop-option-test.true c.requires.valid) c.go_down.ensures

pub returns : goal.returns
returns g c = down_to _ _ _ _ _ c.loop-option.invariant c.loop-option-test.false
