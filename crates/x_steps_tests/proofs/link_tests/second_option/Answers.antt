use Rattle.std.proofs.Common.{sym}
use Rattle.cover_problem.specs.Covering.{list_of}
use Rattle.cover_problem.proofs.RisingLemmas.{above_is}
use Rattle.cover_problem.proofs.RemainingLemmas.{list_rises}
use Rattle.x_steps_tests.proofs.link_tests.second_option.Goals as goal

pub next_option-requires : goal.next_option-requires
next_option-requires c =
    let t = c.args.table.now in
    (above_is 0 1 (list_of t.problem t.covered c.args.item) c.in_ok-first_option.field-0 (list_rises t.problem t.covered c.args.item) (sym c.in_ok-first_option.ensures)).member
