use Rattle.std.proofs.Common.{◌≡◌, ℕ, ◌<◌, true, sym, ap, ◌∙◌, arith, slice_index, ◌/◌}
use Rattle.poly_cells.specs.Symmetries.{rotations, is_rotation}
use Rattle.poly_cells.proofs.SymmetryTables.{rotation_at_half, odd_rotation}
use Rattle.poly_cells.proofs.rotation.Rotation.symmetry.Goals as goal

-- a rotation that is 2 r or 2 r + 1 is rotation r
placed : (n r : ℕ) → n < 48 → n / 2 ≡ r → is_rotation n ≡ true → n ≡ slice_index rotations r
placed n r ln e h = sym (rotation_at_half n ln h) ∙ ap (slice_index rotations) e

pub returns-then-is_rotation-clause-value : goal.returns-then-is_rotation-clause-value
returns-then-is_rotation-clause-value c =
    placed _ _ (omega (arith, c.new-even.ensures, c.self.invariant)) (omega (arith, c.new-even.ensures, c.self.view_is)) (sym c.is_rotation.ensures ∙ c.if-is_rotation.true)

pub returns-else-is_rotation-clause-rotation : goal.returns-else-is_rotation-clause-rotation
returns-else-is_rotation-clause-rotation c =
    ap is_rotation c.new.ensures
    ∙ odd_rotation _ c.self.invariant (ap is_rotation (sym c.new-even.ensures) ∙ sym c.is_rotation.ensures ∙ c.if-is_rotation.false)

pub returns-else-is_rotation-clause-value : goal.returns-else-is_rotation-clause-value
returns-else-is_rotation-clause-value c =
    placed _ _ (omega (arith, c.new.ensures, c.self.invariant)) (omega (arith, c.new.ensures, c.self.view_is))
    (ap is_rotation c.new.ensures ∙ odd_rotation _ c.self.invariant (ap is_rotation (sym c.new-even.ensures) ∙ sym c.is_rotation.ensures ∙ c.if-is_rotation.false))
