use Rattle.std.proofs.Common.{◌≡◌, arith}
use Rattle.x_steps.specs.StateView.{row_values}
use Rattle.x_steps.specs.Machine.{remaining_in, second_in}
use Rattle.debug_acts.proofs.ItemLemmas.{remaining_are_items, second_are_items}
use Rattle.debug_acts.proofs.overview.write_left.Goals as goal

pub write_lists-requires : goal.write_lists-requires
write_lists-requires g c =
    let rows : row_values c.deref.result.now ≡ remaining_in c.args.runner.now.problem c.args.runner.now.position = grind arith in
    rw (c.requires.same, rows) (remaining_are_items c.args.runner.now c.is_sound.ensures.problem c.is_sound.ensures.runner)

pub write_lists-requires-2 : goal.write_lists-requires-2
write_lists-requires-2 g c =
    let rows : row_values c.deref-2.result.now ≡ second_in c.args.runner.now.problem c.args.runner.now.position = grind arith in
    rw (c.requires.same, rows) (second_are_items c.args.runner.now c.is_sound.ensures.problem c.is_sound.ensures.runner)
