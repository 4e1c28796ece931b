-- A symmetry and some translation bring a region onto itself exactly where its turned form is its normal form.
use Rattle.std.proofs.Common.{◌≡◌, ℕ, List, ℤ, pos, ◌+ℤ◌, ◌-ℤ◌, sym, ap, subst, ◌∙◌, arith}
use Rattle.std.proofs.lemmas.Int.{ints}
use Rattle.poly_cells.specs.Coordinates.{Coordinates}
use Rattle.poly_cells.specs.Points.{Point, point_at, point, translated}
use Rattle.poly_cells.specs.Symmetries.{sent_by}
use Rattle.poly_cells.specs.Sets.{IsIn}
use Rattle.poly_cells.specs.Shapes.{IsShape, normal, turned}
use Rattle.poly_cells.specs.Images.{IsTranslate, IsAtOrigin, HasSymmetry}
use Rattle.poly_cells.proofs.MatrixLemmas.{same_point}
use Rattle.poly_cells.proofs.CoordinateLemmas.{coordinates_total}
use Rattle.poly_cells.proofs.SetLemmas.{same_members}
use Rattle.poly_cells.proofs.ImageLemmas.{point_same, normal_is, turned_is}
use Rattle.poly_cells.proofs.ShapeLemmas.{normal_is_shape, turned_is_shape}

-- ---- equal forms give a symmetry

-- the translation that leads back by e after one by d
abbrev apart : Point → Point → Point
apart d e = point_at (d.x -ℤ e.x) (d.y -ℤ e.y) (d.z -ℤ e.z)

led_back : (p m q d e : Point) → q ≡ translated e p → q ≡ translated d m → p ≡ translated (apart d e) m
led_back p m q d e a b =
    same_point _ _ _ _ _ _
    (omega (arith, ints, ap (λ (u : Point). u.x) a, ap (λ (u : Point). u.x) b))
    (omega (arith, ints, ap (λ (u : Point). u.y) a, ap (λ (u : Point). u.y) b))
    (omega (arith, ints, ap (λ (u : Point). u.z) a, ap (λ (u : Point). u.z) b))

pub symmetry_from_forms : (n : ℕ) (vs : List Coordinates) → IsShape vs → turned n vs ≡ normal vs → HasSymmetry n vs
symmetry_from_forms n vs s same =
    let t = turned_is n vs s.some s.limits in
    let m = normal_is vs s.some s.limits in (
      apart t.by m.by,
      record {
        onto = λ w i.
            let q = m.image.into w i in
            let v = t.image.onto q.0 (subst (IsIn q.0) (sym same) q.1) in
            (v.0, v.1, led_back (point w) (sent_by n (point v.0)) (point q.0) t.by m.by q.2 v.2);
        into = λ v i.
            let q = t.image.into v i in
            let w = m.image.onto q.0 (subst (IsIn q.0) same q.1) in
            (w.0, w.1, led_back (point w.0) (sent_by n (point v)) (point q.0) t.by m.by w.2 q.2);
      },
    )

-- ---- a symmetry gives equal forms

-- two sets, each a translate of the other, that are both at the origin are the same
abbrev pub across : Point → Point → Point → Point
across b d e = point_at (d.x +ℤ e.x -ℤ b.x) (d.y +ℤ e.y -ℤ b.y) (d.z +ℤ e.z -ℤ b.z)

pub led_across : (t m r u b d e : Point) → t ≡ translated b m → r ≡ translated d m → u ≡ translated e r → u ≡ translated (across b d e) t
led_across t m r u b d e p q s = rw (s, q, p) (same_point _ _ _ _ _ _ (omega (arith, ints)) (omega (arith, ints)) (omega (arith, ints)))

no_shift : (a a' b b' : ℕ) (e : ℤ) → pos a' ≡ pos a +ℤ e → a ≡ 0 → pos b ≡ pos b' +ℤ e → b ≡ 0 → e ≡ pos 0
no_shift a a' b b' e p q r s = omega (arith, ints)

stays : (v : Point) (e : Point) → e.x ≡ pos 0 → e.y ≡ pos 0 → e.z ≡ pos 0 → translated e v ≡ v
stays v e x y z = same_point _ _ _ _ _ _ (omega (arith, ints)) (omega (arith, ints)) (omega (arith, ints))

pub at_rest : (vs ws : List Coordinates) (e : Point) → IsAtOrigin vs → IsAtOrigin ws → IsTranslate e vs ws → (v : Point) → translated e v ≡ v
at_rest vs ws e o p t =
    let ax = t.into o.x.0 o.x.1 in
    let bx = t.onto p.x.0 p.x.1 in
    let ay = t.into o.y.0 o.y.1 in
    let by = t.onto p.y.0 p.y.1 in
    let az = t.into o.z.0 o.z.1 in
    let bz = t.onto p.z.0 p.z.1 in
    λ v. stays v e
    (no_shift o.x.0.x ax.0.x p.x.0.x bx.0.x e.x (ap (λ (u : Point). u.x) ax.2) o.x.2 (ap (λ (u : Point). u.x) bx.2) p.x.2)
    (no_shift o.y.0.y ay.0.y p.y.0.y by.0.y e.y (ap (λ (u : Point). u.y) ay.2) o.y.2 (ap (λ (u : Point). u.y) by.2) p.y.2)
    (no_shift o.z.0.z az.0.z p.z.0.z bz.0.z e.z (ap (λ (u : Point). u.z) az.2) o.z.2 (ap (λ (u : Point). u.z) bz.2) p.z.2)

pub same_at_origin : (vs ws : List Coordinates) (e : Point) → IsShape vs → IsShape ws → IsAtOrigin vs → IsAtOrigin ws → IsTranslate e vs ws → vs ≡ ws
same_at_origin vs ws e s r o p t =
    let rest = at_rest vs ws e o p t in
    same_members coordinates_total vs ws s.rises r.rises
    (λ v i. let w = t.into v i in subst (λ u. IsIn u ws) (point_same w.0 v (w.2 ∙ rest (point v))) w.1)
    (λ w i. let v = t.onto w i in subst (λ u. IsIn u vs) (sym (point_same w v.0 (v.2 ∙ rest (point v.0)))) v.1)

pub forms_from_symmetry : (n : ℕ) (vs : List Coordinates) → IsShape vs → HasSymmetry n vs → turned n vs ≡ normal vs
forms_from_symmetry n vs s h =
    let t = turned_is n vs s.some s.limits in
    let m = normal_is vs s.some s.limits in
    same_at_origin (turned n vs) (normal vs) (across t.by h.0 m.by) (turned_is_shape n vs s.some s.limits) (normal_is_shape vs s) t.origin m.origin
    (record {
      onto = λ u i.
          let r = m.image.onto u i in
          let v = h.1.onto r.0 r.1 in
          let w = t.image.into v.0 v.1 in
          (w.0, w.1, led_across (point w.0) (sent_by n (point v.0)) (point r.0) (point u) t.by h.0 m.by w.2 v.2 r.2);
      into = λ w i.
          let v = t.image.onto w i in
          let r = h.1.into v.0 v.1 in
          let u = m.image.into r.0 r.1 in
          (u.0, u.1, led_across (point w) (sent_by n (point v.0)) (point r.0) (point u.0) t.by h.0 m.by v.2 r.2 u.2);
    })
