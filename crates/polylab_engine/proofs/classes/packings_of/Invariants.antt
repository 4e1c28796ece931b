use Rattle.std.proofs.Common.{◌≡◌, take}
use Rattle.polylab_engine.specs.Classified.{packings_of}
use Rattle.polylab_engine.proofs.classes.packings_of.Given as goal

-- the packings so far
abbrev pub invariant-loop-k : goal.invariant-loop-k
invariant-loop-k l = l.packings.items ≡ packings_of l.compiled (take l.k l.visits)
