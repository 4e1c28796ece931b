use Rattle.x_snapshot.proofs.WriterLemmas.{all_written}
use Rattle.x_snapshot.proofs.writer.write_snapshot.Goals as goal

pub returns : goal.returns
returns c =
    all_written c.args.snapshot.now _ _ _ _ _ c.version_of.ensures c.line_count.ensures c.problem-problem.ensures.problem c.breaks-breaks.ensures c.state.ensures _ _ _ _ _ _ _ _ _
    c.new-text.ensures.items c.in_ok-write_number_line.ensures c.in_ok-write_number_line-2.ensures (rw (c.deref.ensures.value, c.in_ok-cover.ensures) at c.in_ok-extend_from_slice.ensures.items) c.in_ok-write_from.ensures c.in_ok-write_to.ensures c.in_ok-write_state.ensures c.in_ok-write_breaks.ensures c.in_ok-extend_from_slice-2.ensures.items
