use Rattle.std.proofs.Common.{◌-◌, length}
use Rattle.packed_rows.specs.Pieces.{HaveCommon}
use Rattle.packed_rows.proofs.draft.common_bytes.Given as goal

abbrev pub invariant-comparing : goal.invariant-comparing
invariant-comparing l = HaveCommon l.done l.one l.other

abbrev pub decreases-comparing : goal.decreases-comparing
decreases-comparing l = length l.one - l.done
