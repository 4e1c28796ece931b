use Rattle.std.proofs.Common.{◌≡◌, ◌++◌}
use Rattle.text_lines.specs.Writing.{text_of}
use Rattle.debug_acts.proofs.LineLemmas.{levels_to}
use Rattle.debug_acts.proofs.overview.write_levels.Given as goal

-- the levels so far are written
abbrev pub invariant-loop-level : goal.invariant-loop-level
invariant-loop-level g l = l.text.items ≡ l.fn.text.items ++ text_of (levels_to l.runner l.level)
