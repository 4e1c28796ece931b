use Rattle.std.proofs.Common.{ℕ, List, ◌++◌, take}
use Rattle.x_steps.specs.Flags.{AreFlagsOf}
use Rattle.x_steps.proofs.flags.flag_all.Given as goal

abbrev pub invariant-loop-item : goal.invariant-loop-item
invariant-loop-item l = (n : ℕ) (c : List ℕ) → AreFlagsOf l.initial.flags n c → AreFlagsOf l.flags n (c ++ take l.item-index l.items)
