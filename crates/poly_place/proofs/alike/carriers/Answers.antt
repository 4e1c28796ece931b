use Rattle.std.proofs.Common.{◌↔◌, ℕ, ◌<◌, List, ap, sym, subst, ◌∙◌, vec_items, map}
use Rattle.poly_cells.specs.Coordinates.{Coordinates}
use Rattle.poly_cells.specs.Sets.{IsIn}
use Rattle.poly_cells.specs.Images.{HasSymmetry}
use Rattle.poly_place.proofs.WalkLemmas.{item_in, mapped_push}
use Rattle.poly_place.proofs.LoopLemmas.{some_more, some_same, some_all, kept_by, marks_by, carrier_by}
use Rattle.poly_place.proofs.alike.carriers.Goals as goal
use Rattle.poly_place.proofs.alike.carriers.Goals.{then-is_member+in_ok-images+in_ok-keeps_marks, then-branch+in_ok-places_of+in_ok-push, else-branch, else-is_member}

pub images_in-requires-clause-symmetry : goal.images_in-requires-clause-symmetry
images_in-requires-clause-symmetry c =
    let here = item_in _ _ _ c.loop-symmetry-test.true c.symmetry-item.is in
    let is = (c.in_ok-symmetries.ensures.exactly c.symmetry-item.result).0 (subst (λ (ns : List ℕ). IsIn c.symmetry-item.result ns) c.as_slice-symmetry-items.ensures.value here) in
    subst (λ (vs : List Coordinates). HasSymmetry c.symmetry-item.result vs) (sym c.cells-cells.ensures.value) is.1

pub loop-symmetry-preserved : goal.loop-symmetry-preserved
loop-symmetry-preserved c =
    let n = c.symmetry-item.result in
    let here = item_in _ _ _ c.loop-symmetry-test.true c.symmetry-item.is in
    let is = (c.in_ok-symmetries.ensures.exactly n).0 (subst (λ (ns : List ℕ). IsIn n ns) c.as_slice-symmetry-items.ensures.value here) in
    elim c.if-is_member.branch [
      | then-is_member+in_ok-images+in_ok-keeps_marks w ↦
          elim w.if-branch.branch [
            | then-branch+in_ok-places_of+in_ok-push w' ↦
                some_more _ _ _ _ _ n _ _ c.loop-symmetry-test.true c.symmetry-item.is
                (ap (λ v. map vec_items v.items) (w.carriers-is ∙ w'.carriers-is)
                ∙ mapped_push vec_items _ _ _ _ w'.in_ok-push.ensures.items (carrier_by _ n _ _ _ c.cells-cells.ensures.value (w'.as_slice-then-branch.ensures.value ∙ w.in_ok-images.ensures) w'.in_ok-places_of.ensures))
                (kept_by _ _ _ n _ _ _ c.cells-cells.ensures.value (w.as_slice-then-is_member.ensures.value ∙ w.in_ok-images.ensures) (w.as_slice.ensures.value ∙ c.in_ok-marks.ensures) is
                (sym c.is_member.ensures ∙ w.if-is_member.true) (w.in_ok-keeps_marks.ensures.0 w'.if-branch.true))
                c.loop-symmetry.invariant
            | else-branch w' ↦
                some_same _ _ _ _ _ n _ _ c.loop-symmetry-test.true c.symmetry-item.is (ap (λ v. map vec_items v.items) (w.carriers-is ∙ w'.carriers-is))
                (λ kept.
                let t = w.in_ok-keeps_marks.ensures.1 (marks_by _ _ _ n _ _ _ c.cells-cells.ensures.value (w.as_slice-then-is_member.ensures.value ∙ w.in_ok-images.ensures) (w.as_slice.ensures.value ∙ c.in_ok-marks.ensures) kept) in
                let f = w'.if-branch.false in cc)
                c.loop-symmetry.invariant
          ]
      | else-is_member w ↦
          some_same _ _ _ _ _ n _ _ c.loop-symmetry-test.true c.symmetry-item.is (ap (λ v. map vec_items v.items) w.carriers-is)
          (λ kept. let t = c.is_member.ensures ∙ kept.member in let f = w.if-is_member.false in cc)
          c.loop-symmetry.invariant
    ]

pub returns : goal.returns
returns c =
    some_all _ _ _ _ _ _ c.loop-symmetry-test.false
    (subst (λ (ns : List ℕ). (n : ℕ) → IsIn n ns ↔ ((n < 48) × HasSymmetry n c.args.region.now)) (sym c.as_slice-symmetry-items.ensures.value) c.in_ok-symmetries.ensures.exactly)
    c.loop-symmetry.invariant
