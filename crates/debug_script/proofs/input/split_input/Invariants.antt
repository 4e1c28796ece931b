use Rattle.std.proofs.Common.{length}
use Rattle.debug_script.proofs.SearchLemmas.{IsSearching}
use Rattle.debug_script.proofs.input.split_input.Given as goal

abbrev pub invariant-loop-line : goal.invariant-loop-line
invariant-loop-line l = IsSearching l.input l.rest

abbrev pub decreases-loop-line : goal.decreases-loop-line
decreases-loop-line l = length l.rest
