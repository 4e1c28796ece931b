use Rattle.std.proofs.Common.{◌≡◌, take}
use Rattle.x_branches.proofs.kept.KeptStretches.same.Given as goal

abbrev pub invariant-comparing : goal.invariant-comparing
invariant-comparing l = take l.place l.self ≡ take l.place l.other
