use Rattle.x_steps.proofs.ReadLemmas.{row_none, chosen_within, chosen_options, chosen_inside}
use Rattle.x_steps.proofs.machine.Machine.chosen.Goals as goal

pub returns-in_default : goal.returns-in_default
returns-in_default g c = row_none _ _ c.in_default.ensures

pub options_of-requires : goal.options_of-requires
options_of-requires g c =
    let found = chosen_inside _ _ _ _ c.self.view_is c.in-Some.ensures in
    let w = chosen_within _ _ _ _ _ c.self.invariant _ found in record { some = w.0; within = w.1 }

pub returns : goal.returns
returns g c =
    let found = chosen_inside _ _ _ _ c.self.view_is c.in-Some.ensures in
    rw (← c.self.view_is) (chosen_options _ _ _ _ _ c.self.invariant _ _ found c.in_ok-options.ensures)
