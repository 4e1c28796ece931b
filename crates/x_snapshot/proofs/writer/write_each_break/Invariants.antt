use Rattle.std.proofs.Common.{◌≡◌, ◌++◌, map, take}
use Rattle.text_lines.specs.Writing.{text_of}
use Rattle.x_texts.specs.Words.{break_words}
use Rattle.x_snapshot.proofs.writer.write_each_break.Given as goal

abbrev pub invariant-loop-breakpoint : goal.invariant-loop-breakpoint
invariant-loop-breakpoint l = l.text.items ≡ l.fn.text.items ++ text_of (map (break_words l.problem.names) (take l.breakpoint-index l.breaks))
