use Rattle.part_sums.proofs.HeadLemmas.{head_written}
use Rattle.part_sums.proofs.tail.head_text.Goals as goal

pub returns : goal.returns
returns c =
    head_written c.args.snapshot.now _ _ _ _ _ _ _ _ c.version_of-version.ensures c.line_count.ensures c.problem-problem.ensures.problem c.breaks.ensures
    c.new-text.ensures.items c.in_ok-write_number_line.ensures c.in_ok-write_number_line-2.ensures (rw (c.deref.ensures.value, c.in_ok-cover.ensures) at c.in_ok-extend_from_slice.ensures.items)
