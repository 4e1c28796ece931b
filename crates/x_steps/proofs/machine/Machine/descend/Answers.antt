use Rattle.x_steps.proofs.ResumeLemmas.{took, option_in, down_more, flags_now}
use Rattle.x_steps.proofs.machine.Machine.descend.Goals as goal

pub option-requires : goal.option-requires
option-requires g c =
    let choice = c.in-Some.ensures.choice in
    let at_X2 = took _ _ _ _ _ _ c.open_for.ensures c.take.ensures in
    let within = option_in _ _ _ _ _ _ _ c.self.view_is at_X2 choice in
    record { some = within.0; within = within.1 }

pub returns-clause-down : goal.returns-clause-down
returns-clause-down g c =
    let choice = c.in-Some.ensures.choice in
    let at_X2 = took _ _ _ _ _ _ c.open_for.ensures c.take.ensures in
    λ _. down_more _ _ _ _ _ choice.1 at_X2 (flags_now _ _ _ _ _ _ _ _ _ _ c.self.view_is at_X2 c.option.ensures (c.flag_all.ensures _ _ c.requires.flagged))
