use Rattle.std.proofs.Common.{sym}
use Rattle.cover_problem.specs.Covering.{active}
use Rattle.cover_problem.proofs.RisingLemmas.{above_is}
use Rattle.cover_problem.proofs.ActiveLemmas.{active_rises}
use Rattle.x_steps_tests.proofs.link_tests.second_item.Goals as goal

pub next_item-requires : goal.next_item-requires
next_item-requires c =
    let t = c.args.table.now in
    (above_is 0 1 (active t.problem t.covered) c.in_ok-first_item.field-0 (active_rises t.problem t.covered) (sym c.in_ok-first_item.ensures)).member
