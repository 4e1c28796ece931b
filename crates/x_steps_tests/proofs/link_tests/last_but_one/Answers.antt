use Rattle.std.proofs.Common.{sym}
use Rattle.cover_problem.specs.Covering.{list_of}
use Rattle.cover_problem.proofs.RisingLemmas.{last_is}
use Rattle.cover_problem.proofs.RemainingLemmas.{list_rises}
use Rattle.x_steps_tests.proofs.link_tests.last_but_one.Goals as goal

pub prev_option-requires : goal.prev_option-requires
prev_option-requires c =
    let t = c.args.table.now in
    (last_is 1 (list_of t.problem t.covered c.args.item) c.in_ok-last_option.field-0 (list_rises t.problem t.covered c.args.item) (sym c.in_ok-last_option.ensures)).0
