use Rattle.std.proofs.Common.{◌≡◌, ◌-◌}
use Rattle.cover_links.proofs.FullRows.{filled}
use Rattle.cover_links.proofs.block.Block.make.Given as goal

abbrev pub invariant-loop-index : goal.invariant-loop-index
invariant-loop-index g l = record { places : l.slots.slots ≡ filled l.index (l.len - l.index) l.fn.blank; begin : l.slots.at ≡ l.base.ptr }
