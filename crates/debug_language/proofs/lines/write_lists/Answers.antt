use Rattle.std.proofs.Common.{length}
use Rattle.x_steps.specs.StateView.{row_value}
use Rattle.debug_language.proofs.WriterLemmas.{row_item}
use Rattle.debug_language.proofs.lines.write_lists.Goals as goal

pub write_list-requires-clause-some : goal.write_list-requires-clause-some
write_list-requires-clause-some c =
    (row_item row_value (length c.args.problem.now.names) c.args.rows.now c.loop-row.row-index c.row-item.result c.requires c.loop-row-test.true c.row-item.is).0

pub write_list-requires-clause-within : goal.write_list-requires-clause-within
write_list-requires-clause-within c =
    (row_item row_value (length c.args.problem.now.names) c.args.rows.now c.loop-row.row-index c.row-item.result c.requires c.loop-row-test.true c.row-item.is).1
