use Rattle.std.proofs.Common.{codes, map, arith}
use Rattle.cover_problem.specs.Problem.{name_at}
use Rattle.text_lines.proofs.WritingLemmas.{line_written}
use Rattle.debug_language.proofs.WriterLemmas.{covered_some}
use Rattle.debug_language.proofs.lines.write_covered.Goals as goal

pub returns : goal.returns
returns c =
    let names = c.args.problem.now.names in
    rw (covered_some names c.args.items.now (grind arith))
    (line_written c.args.text.now.items (codes "covered") _ _ _ (map (name_at names) c.args.items.now) c.in_ok-extend_from_slice.ensures.items c.in_ok-write_names.ensures c.in_ok-push.ensures.items)
