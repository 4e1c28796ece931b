use Rattle.debug_acts.proofs.LineLemmas.{shown_lines}
use Rattle.debug_acts.proofs.overview.show.Goals as goal

pub returns : goal.returns
returns g c =
    shown_lines c.write_left.result c.args.runner.now c.args.text.now.items _ _ _ _ _ c.in_ok-write_position.ensures c.in_ok-write_part.ensures c.in_ok-write_items.ensures c.in_ok-write_chosen.ensures
    c.write_left.ensures
