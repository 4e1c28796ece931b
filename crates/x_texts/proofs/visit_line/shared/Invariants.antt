use Rattle.std.proofs.Common.{◌≡◌, take}
use Rattle.x_texts.proofs.visit_line.shared.Given as goal

-- so far they are alike
abbrev pub invariant-loop-place : goal.invariant-loop-place
invariant-loop-place l = take l.place l.before ≡ take l.place l.path
