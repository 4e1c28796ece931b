use Rattle.std.proofs.Common.{◌*◌, length}
use Rattle.prefixes.proofs.StepLemmas.{AreAlike}
use Rattle.prefixes.proofs.steps.steps_alike.Given as goal

abbrev pub invariant-comparing : goal.invariant-comparing
invariant-comparing l = AreAlike (64 * l.steps) l.one l.other l.left l.against

abbrev pub decreases-comparing : goal.decreases-comparing
decreases-comparing l = length l.left
