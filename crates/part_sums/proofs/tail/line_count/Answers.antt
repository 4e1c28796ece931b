use Rattle.std.proofs.Common.{◌≡◌, length, drop, arith, length-drop, sym, ◌∙◌}
use Rattle.cover_problem.specs.Grammar.{maybe_words}
use Rattle.x_snapshot.proofs.WriterLemmas.{one_maybe, zero_maybe, lines_counted}
use Rattle.part_sums.proofs.tail.line_count.Goals as goal
use Rattle.part_sums.proofs.tail.line_count.Goals.{then-primary-items, else-primary-items}

pub returns : goal.returns
returns c =
    let p = c.args.problem.now in
    let left : length (maybe_words (drop p.primary p.names)) ≡ c.if-primary-items.maybe =
    elim c.if-primary-items.branch [
      | then-primary-items w ↦ one_maybe (drop p.primary p.names) (omega (arith, length-drop p.primary p.names)) ∙ sym w.maybe-is
      | else-primary-items w ↦ zero_maybe (drop p.primary p.names) (omega (arith, length-drop p.primary p.names)) ∙ sym w.maybe-is
    ] in
    lines_counted p c.if-primary-items.maybe c.options.result left c.options.ensures
