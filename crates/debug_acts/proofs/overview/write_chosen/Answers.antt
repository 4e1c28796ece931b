use Rattle.std.proofs.Common.{◌≡◌, Some, arith, rules}
use Rattle.x_steps.specs.Machine.{chosen_in}
use Rattle.debug_acts.proofs.ItemLemmas.{chosen_is_item}
use Rattle.debug_acts.proofs.overview.write_chosen.Goals as goal

pub write_list-requires-clause-some : goal.write_list-requires-clause-some
write_list-requires-clause-some g c =
    let r = c.args.runner.now in
    let row : Some (c.in-Some.item, c.in-Some.options.items) ≡ chosen_in r.problem r.position = first_of (search rules, grind arith) in
    (chosen_is_item r c.is_sound.ensures.problem c.is_sound.ensures.runner (c.in-Some.item, c.in-Some.options.items) row).0

pub write_list-requires-clause-within : goal.write_list-requires-clause-within
write_list-requires-clause-within g c =
    let r = c.args.runner.now in
    let row : Some (c.in-Some.item, c.in-Some.options.items) ≡ chosen_in r.problem r.position = first_of (search rules, grind arith) in
    rw c.requires.same (chosen_is_item r c.is_sound.ensures.problem c.is_sound.ensures.runner (c.in-Some.item, c.in-Some.options.items) row).1
