use Rattle.std.proofs.Common.{◌≡◌, ℕ, ◌<◌, slice_index, vec_items, sym, ap, subst, ◌∙◌}
use Rattle.poly_cells.specs.Sets.{IsIn}
use Rattle.poly_cells.proofs.SetLemmas.{in_at, in_map, in_from_map}
use Rattle.poly_place.specs.Forms.{first_form, carried, lesser}
use Rattle.poly_place.proofs.WalkLemmas.{item_in}
use Rattle.poly_place.proofs.LoopLemmas.{least_step, least_done}
use Rattle.poly_place.proofs.KeyLemmas.{lesser_less, lesser_not, below_is, below_not}
use Rattle.poly_place.proofs.forms.least_form.Goals as goal
use Rattle.poly_place.proofs.forms.least_form.Goals.{then-is_lt, else-is_lt}

pub carried-requires : goal.carried-requires
carried-requires c k i =
    c.requires.carriers (vec_items c.carrier-item.result) (in_map vec_items c.carrier-item.result c.args.carriers.now (item_in _ _ _ c.loop-carrier-test.true c.carrier-item.is)) k
    (subst (IsIn k) c.as_slice.ensures.value i)

pub first_form-requires-in-loop-carrier-clause-below : goal.first_form-requires-in-loop-carrier-clause-below
first_form-requires-in-loop-carrier-clause-below c k i =
    let g = vec_items c.carrier-item.result in
    let there = subst (IsIn k) (c.as_slice-in-loop-carrier.ensures.value ∙ c.in_ok-there.ensures ∙ ap (carried c.args.parts.now) c.as_slice.ensures.value) i in
    let j = in_from_map (slice_index c.args.parts.now) k g there in
    let low = c.requires.carriers g (in_map vec_items c.carrier-item.result c.args.carriers.now (item_in _ _ _ c.loop-carrier-test.true c.carrier-item.is)) j.0 j.1 in
    subst (λ (n : ℕ). n < c.args.size) (sym j.2) (c.requires.below _ (in_at c.args.parts.now j.0 0 low))

pub loop-carrier-preserved : goal.loop-carrier-preserved
loop-carrier-preserved c =
    let made : c.in_ok-form.form.items ≡ first_form (carried c.args.parts.now (vec_items c.carrier-item.result)) =
    c.in_ok-form.ensures ∙ ap first_form (c.as_slice-in-loop-carrier.ensures.value ∙ c.in_ok-there.ensures ∙ ap (carried c.args.parts.now) c.as_slice.ensures.value) in
    elim c.if-is_lt.branch [
      | then-is_lt w ↦
          least_step vec_items _ _ _ _ _ _ _ c.loop-carrier-test.true c.carrier-item.is
          (ap vec_items w.best-is ∙ lesser_less _ _ (sym c.cmp.ensures ∙ below_is _ (sym c.is_lt.ensures ∙ w.if-is_lt.true)) ∙ ap (λ f. lesser f c.loop-carrier.best.items) made)
          c.loop-carrier.invariant
      | else-is_lt w ↦
          least_step vec_items _ _ _ _ _ _ _ c.loop-carrier-test.true c.carrier-item.is
          (ap vec_items w.best-is ∙ lesser_not c.in_ok-form.form.items _ (λ l. below_not _ (sym c.is_lt.ensures ∙ w.if-is_lt.false) (c.cmp.ensures ∙ l)) ∙ ap (λ f. lesser f c.loop-carrier.best.items) made)
          c.loop-carrier.invariant
    ]

pub returns : goal.returns
returns c = least_done vec_items _ _ _ _ _ c.loop-carrier-test.false c.loop-carrier.invariant
