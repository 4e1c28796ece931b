use Rattle.std.proofs.Common.{◌≡◌, take}
use Rattle.polylab_engine.proofs.report.told.Given as goal

-- the visits so far are told
abbrev pub invariant-loop-place : goal.invariant-loop-place
invariant-loop-place l = l.text ≡ take l.place l.visits
