use Rattle.std.proofs.Common.{◌∙◌, ℕ, Some, ap, get_or, refl, sym}
use Rattle.poly_cells.proofs.SetLemmas.{in_at}
use Rattle.poly_place.specs.Lists.{lists_of}
use Rattle.poly_place.proofs.CountLemmas.{one_kept, one_left}
use Rattle.poly_distinct.specs.Moves.{is_least_by}
use Rattle.poly_distinct.proofs.StepLemmas.{read_at}
use Rattle.poly_distinct.proofs.moves.firsts.Goals as goal
use Rattle.poly_distinct.proofs.moves.firsts.Goals.{then-branch+in_ok-push, else-branch}

pub is_least-requires : goal.is_least-requires
is_least-requires c = c.requires _ (in_at c.args.places.now c.loop-place.place-index 0 c.loop-place-test.true)

pub loop-place-preserved : goal.loop-place-preserved
loop-place-preserved c =
    let ks = c.args.places.now in
    let i = c.loop-place.place-index in
    let x = get_or ks i 0 in
    let at = read_at ks i x 0 c.loop-place-test.true refl in
    let test = λ (k : ℕ). is_least_by (Some k) ks (lists_of c.args.carriers.now) in
    elim c.if-branch.branch [
      | then-branch+in_ok-push w ↦
          one_kept test ks i x c.loop-place.firsts.items _ c.loop-place-test.true at (sym c.in_ok-is_least.ensures ∙ w.if-branch.true)
          (ap (λ v. v.items) w.firsts-is ∙ w.in_ok-push.ensures.items) c.loop-place.invariant
      | else-branch w ↦
          ap (λ v. v.items) w.firsts-is
          ∙ one_left test ks i x c.loop-place.firsts.items c.loop-place-test.true at (sym c.in_ok-is_least.ensures ∙ w.if-branch.false) c.loop-place.invariant
    ]
