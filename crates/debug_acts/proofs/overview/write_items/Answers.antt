use Rattle.debug_acts.proofs.ItemLemmas.{covered_are_items}
use Rattle.debug_acts.proofs.overview.write_items.Goals as goal

pub write_covered-requires : goal.write_covered-requires
write_covered-requires g c = rw (c.requires.same, c.covered.ensures) (covered_are_items c.args.runner.now c.is_sound.ensures.problem c.is_sound.ensures.runner)
