use Rattle.std.proofs.Common.{◌≡◌, drop, length}
use Rattle.packed_rows.specs.Pieces.{HaveCommon}
use Rattle.packed_rows.proofs.draft.common_steps.Given as goal

abbrev pub invariant-comparing : goal.invariant-comparing
invariant-comparing l = record {
  common : HaveCommon l.done l.one l.other;
  left : l.left ≡ drop l.done l.one;
  against : l.against ≡ drop l.done l.other;
}

abbrev pub decreases-comparing : goal.decreases-comparing
decreases-comparing l = length l.left
