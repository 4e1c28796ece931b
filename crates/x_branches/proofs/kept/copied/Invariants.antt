use Rattle.std.proofs.Common.{◌≡◌, take}
use Rattle.x_branches.proofs.kept.copied.Given as goal

abbrev pub invariant-copying : goal.invariant-copying
invariant-copying l = l.copies.items ≡ take l.head-index l.heads
