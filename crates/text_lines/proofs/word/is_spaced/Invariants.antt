use Rattle.std.proofs.Common.{◌≡◌, drop, true}
use Rattle.text_lines.proofs.SpacedLemmas.{gaps}
use Rattle.text_lines.proofs.word.is_spaced.Given as goal

-- what is left has its gaps exactly where the whole line has
abbrev pub invariant-loop-byte : goal.invariant-loop-byte
invariant-loop-byte l = gaps l.wants_word (drop l.byte-index l.line) ≡ gaps true l.line
