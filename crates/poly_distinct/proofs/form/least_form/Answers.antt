use Rattle.std.proofs.Common.{◌≡◌, ℕ, ◌<◌, List, ◌++◌, take, drop, length, vec_items, sym, ap, ap₂, subst, ◌∙◌}
use Rattle.std.proofs.Math.Seq.{take-append_seam}
use Rattle.poly_cells.proofs.SetLemmas.{in_map}
use Rattle.poly_place.proofs.WalkLemmas.{item_in}
use Rattle.poly_place.proofs.LoopLemmas.{least_step, least_done}
use Rattle.poly_place.specs.Forms.{form_by, lesser}
use Rattle.poly_distinct.specs.Form.{IsMove}
use Rattle.poly_distinct.proofs.form.least_form.Goals as goal

-- what was lent whole is what it was given
lent : (len : ℕ) (new old : List ℕ) → len ≡ length new → take len (new ++ drop (length new) old) ≡ new
lent len new old e = ap (λ (n : ℕ). take n (new ++ drop (length new) old)) e ∙ take-append_seam new (drop (length new) old)

pub lower-requires-clause-below : goal.lower-requires-clause-below
lower-requires-clause-below c k i =
    subst (λ (n : ℕ). k < n) (sym (ap (λ (xs : List ℕ). length xs) c.deref_mut-in-loop-carrier.ensures.value ∙ c.loop-carrier.invariant.firsts_long)) (c.requires.below k i)

pub lower-requires-clause-carrier : goal.lower-requires-clause-carrier
lower-requires-clause-carrier c =
    subst (IsMove (length c.args.form.now)) (sym c.as_slice.ensures.value)
    (c.requires.carriers (vec_items c.carrier-item.result) (in_map vec_items c.carrier-item.result c.args.carriers.now (item_in _ _ _ c.loop-carrier-test.true c.carrier-item.is)))

pub loop-carrier-preserved : goal.loop-carrier-preserved
loop-carrier-preserved c =
    let g = vec_items c.carrier-item.result in
    let best = c.loop-carrier.best in
    let firsts = c.loop-carrier.firsts in
    let is : c.lower.new.best ≡ lesser (form_by c.args.form.now g) best.items =
    c.lower.ensures.best ∙ ap₂ (λ (h xs : List ℕ). lesser (form_by c.args.form.now h) xs) c.as_slice.ensures.value c.deref_mut.ensures.value in
    let best_same : length c.lower.new.best ≡ length best.items = c.lower.auto.best ∙ ap (λ (xs : List ℕ). length xs) c.deref_mut.ensures.value in
    let firsts_same : length c.lower.new.firsts ≡ length firsts.items = c.lower.ensures.firsts ∙ ap (λ (xs : List ℕ). length xs) c.deref_mut-in-loop-carrier.ensures.value in
    let best_is = lent best.len c.lower.new.best best.items (best.ok.0 ∙ sym best_same) in
    let firsts_is = lent firsts.len c.lower.new.firsts firsts.items (firsts.ok.0 ∙ sym firsts_same) in
    record {
      least = least_step vec_items _ _ _ _ _ _ _ c.loop-carrier-test.true c.carrier-item.is (best_is ∙ is) c.loop-carrier.invariant.least;
      best_long = ap (λ (xs : List ℕ). length xs) best_is ∙ best_same ∙ c.loop-carrier.invariant.best_long;
      firsts_long = ap (λ (xs : List ℕ). length xs) firsts_is ∙ firsts_same ∙ c.loop-carrier.invariant.firsts_long;
    }

pub returns : goal.returns
returns c = least_done vec_items _ _ _ _ _ c.loop-carrier-test.false c.loop-carrier.invariant.least
