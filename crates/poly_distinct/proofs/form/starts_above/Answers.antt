use Rattle.std.proofs.Common.{refl, sym, ap, ap₂, ◌∙◌, arith}
use Rattle.std.specs.Ordering.{is_gt, ordering_then}
use Rattle.poly_cells.proofs.SetLemmas.{in_at}
use Rattle.poly_place.specs.Forms.{form_by}
use Rattle.poly_distinct.proofs.NotedLemmas.{first_told, forms_long, forms_within, second_told}
use Rattle.poly_distinct.proofs.LowerLemmas.{above_from_start}
use Rattle.poly_distinct.proofs.form.starts_above.Goals as goal

pub bounds-numbers-carrier : goal.bounds-numbers-carrier
bounds-numbers-carrier c = c.requires.carrier.below _ (in_at c.args.carrier.now 0 0 (let two = c.if-carrier-lt2.false in omega (arith, two)))

pub offset_bounds-numbers-carrier : goal.offset_bounds-numbers-carrier
offset_bounds-numbers-carrier c =
    let below = c.requires.carrier.below _ (in_at c.args.carrier.now 0 0 (let two = c.if-carrier-lt2.false in omega (arith, two))) in
    grind (arith, below, c.type_inv.numbers)

pub bounds-numbers-carrier-2 : goal.bounds-numbers-carrier-2
bounds-numbers-carrier-2 c = c.requires.carrier.below _ (in_at c.args.carrier.now 1 0 (let two = c.if-carrier-lt2.false in omega (arith, two)))

pub offset_bounds-numbers-carrier-2 : goal.offset_bounds-numbers-carrier-2
offset_bounds-numbers-carrier-2 c =
    let below = c.requires.carrier.below _ (in_at c.args.carrier.now 1 0 (let two = c.if-carrier-lt2.false in omega (arith, two))) in
    grind (arith, below, c.type_inv.numbers)

pub returns : goal.returns
returns c above =
    let n = c.args.numbers.now in
    let g = c.args.carrier.now in
    let two = c.if-carrier-lt2.false in
    let some = forms_within n g 1 (omega (arith, two)) in
    above_from_start (form_by n g) c.args.best.now c.first_place.result c.second_place.result _ _ (omega (arith, some)) (forms_long n g c.args.best.now c.requires.long c.requires.carrier.long)
    (c.first_place.ensures ∙ first_told n g _ (omega (arith, two)) refl) (c.second_place.ensures ∙ second_told n g _ _ (omega (arith, two)) refl refl) refl refl
    (sym (c.is_gt.ensures ∙ ap is_gt (c.then.ensures ∙ ap₂ ordering_then c.cmp-order.ensures c.cmp.ensures)) ∙ above)
