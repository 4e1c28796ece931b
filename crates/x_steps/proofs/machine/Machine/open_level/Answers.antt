use Rattle.x_steps.proofs.ResumeLemmas.{entered, planned, opened, label_at}
use Rattle.x_steps.proofs.machine.Machine.open_level.Goals as goal

pub plan-requires : goal.plan-requires
plan-requires g c =
    let at_X3 = entered _ _ _ c.requires.label c.requires.open c.enter.ensures in
    label_at _ _ _ at_X3

pub open-requires : goal.open-requires
open-requires g c =
    let at_X3 = entered _ _ _ c.requires.label c.requires.open c.enter.ensures in
    let at_X4 = planned _ _ _ _ _ at_X3 c.plan.ensures in
    label_at _ _ _ at_X4

pub returns : goal.returns
returns g c =
    let at_X3 = entered _ _ _ c.requires.label c.requires.open c.enter.ensures in
    let at_X4 = planned _ _ _ _ _ at_X3 c.plan.ensures in
    opened _ _ _ _ _ at_X4 c.open.ensures
