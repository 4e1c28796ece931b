use Rattle.std.proofs.Common.{◌≡◌, ◌++◌, map, take}
use Rattle.text_lines.specs.Writing.{text_of}
use Rattle.x_texts.specs.Words.{visit_words}
use Rattle.x_texts.proofs.line.write_visits.Given as goal

-- the lines of the visits so far are written
abbrev pub invariant-loop-place : goal.invariant-loop-place
invariant-loop-place l = l.text.items ≡ l.fn.text.items ++ text_of (map visit_words (take l.place l.visits))
