use Rattle.x_steps.proofs.ResumeLemmas.{entered, planned, opened, label_at, same_at_X5, turned}
use Rattle.x_steps.proofs.machine.Machine.open_for.Goals as goal

pub plan-requires : goal.plan-requires
plan-requires g c =
    let at_X3 = entered _ _ _ c.requires.label c.requires.fits.1.active c.enter.ensures in
    label_at _ _ _ at_X3

pub open_list-requires : goal.open_list-requires
open_list-requires g c =
    let at_X3 = entered _ _ _ c.requires.label c.requires.fits.1.active c.enter.ensures in
    let at_X4 = planned _ _ _ _ _ at_X3 c.plan.ensures in
    record { label = label_at _ _ _ at_X4; item = rw at_X4 c.requires.item }

pub turn-requires : goal.turn-requires
turn-requires g c =
    let at_X3 = entered _ _ _ c.requires.label c.requires.fits.1.active c.enter.ensures in
    let at_X4 = planned _ _ _ _ _ at_X3 c.plan.ensures in
    let at_X5 = opened _ _ _ _ _ at_X4 c.open_list.ensures in
    record { fits = rw at_X5 c.requires.fits; same = same_at_X5 _ _ _ _ _ at_X5 }

pub returns : goal.returns
returns g c =
    let at_X3 = entered _ _ _ c.requires.label c.requires.fits.1.active c.enter.ensures in
    let at_X4 = planned _ _ _ _ _ at_X3 c.plan.ensures in
    let at_X5 = opened _ _ _ _ _ at_X4 c.open_list.ensures in
    turned _ _ _ _ _ _ at_X5 c.turn.ensures
