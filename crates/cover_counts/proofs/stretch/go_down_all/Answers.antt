use Rattle.std.proofs.Common.{sym, ◌∙◌, []}
use Rattle.cover_problem.proofs.PathLemmas.{covered_by_none}
use Rattle.cover_counts.proofs.StretchLemmas.{down_more}
use Rattle.cover_counts.proofs.stretch.go_down_all.Goals as goal

pub loop-option-init : goal.loop-option-init
loop-option-init g c = record { at = c.requires.at; covered = c.requires.none ∙ sym (covered_by_none _) }

pub go_down-requires-clause-choice : goal.go_down-requires-clause-choice
go_down-requires-clause-choice g c = (down_more _ _ [] _ _ c.loop-option.invariant.covered c.loop-option-test.true c.requires.valid).0

pub loop-option-preserved : goal.loop-option-preserved
loop-option-preserved g c = record { at = c.go_down.ensures.at; covered = (down_more _ _ _ _ _ c.loop-option.invariant.covered c.loop-option-test.true c.requires.valid).1 c.go_down.ensures.covered }
