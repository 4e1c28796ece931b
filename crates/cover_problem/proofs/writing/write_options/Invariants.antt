use Rattle.std.proofs.Common.{◌≡◌, ◌++◌, map, take}
use Rattle.text_lines.specs.Writing.{text_of}
use Rattle.cover_problem.specs.Grammar.{option_words}
use Rattle.cover_problem.proofs.writing.write_options.Given as goal

abbrev pub invariant-loop-place : goal.invariant-loop-place
invariant-loop-place l = l.text.items ≡ l.fn.text.items ++ text_of (map (option_words (map (λ n. n.bytes) l.names)) (take l.place l.options))
