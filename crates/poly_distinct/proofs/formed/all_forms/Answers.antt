use Rattle.std.proofs.Common.{ap, sym, ◌∙◌, ℕ, [], List, map, filter, arith, ◌≡◌, ◌++◌, ◌∷◌}
use Rattle.std.specs.List.{range_with_len}
use Rattle.poly_cells.specs.Coordinates.{Coordinates}
use Rattle.poly_cells.specs.Shapes.{turned}
use Rattle.poly_distinct.specs.Exchange.{takes_symmetry}
use Rattle.poly_distinct.proofs.StepLemmas.{kept_more, kept_same, symmetry_lt, symmetry_is, all_symmetries}
use Rattle.poly_distinct.proofs.formed.all_forms.Goals as goal
use Rattle.poly_distinct.proofs.formed.all_forms.Goals.{then-is_taken+in_ok-turned+in_ok-push, else-is_taken}

pub loop-n-preserved : goal.loop-n-preserved
loop-n-preserved c =
    let taken : c.is_taken.result ≡ takes_symmetry c.args.rotations c.args.both c.loop-n.n =
    c.is_taken.ensures ∙ ap (takes_symmetry c.args.rotations c.args.both) c.new-symmetry.ensures in
    elim c.if-is_taken.branch [
      | then-is_taken+in_ok-turned+in_ok-push w ↦
          kept_more (λ k. turned k c.args.piece.now) (takes_symmetry c.args.rotations c.args.both) (range_with_len 0 48) c.loop-n.n c.loop-n.n [] c.loop-n.forms.items _
          (symmetry_lt c.loop-n.n c.loop-n-test.true) (symmetry_is c.loop-n.n c.loop-n-test.true) (sym taken ∙ w.if-is_taken.true)
          (ap (λ v. v.items) w.forms-is ∙ w.in_ok-push.ensures.items ∙ ap (λ (vs : List Coordinates). c.loop-n.forms.items ++ vs ∷ []) (w.in_ok-turned.ensures.value ∙ ap (λ (k : ℕ). turned k c.args.piece.now) c.new-symmetry.ensures))
          c.loop-n.invariant
      | else-is_taken w ↦
          ap (λ v. v.items) w.forms-is
          ∙ kept_same (λ k. turned k c.args.piece.now) (takes_symmetry c.args.rotations c.args.both) (range_with_len 0 48) c.loop-n.n c.loop-n.n [] c.loop-n.forms.items
          (symmetry_lt c.loop-n.n c.loop-n-test.true) (symmetry_is c.loop-n.n c.loop-n-test.true) (sym taken ∙ w.if-is_taken.false) c.loop-n.invariant
    ]

pub returns : goal.returns
returns c =
    c.loop-n.invariant
    ∙ ap (λ (ns : List ℕ). map (λ k. turned k c.args.piece.now) (filter (takes_symmetry c.args.rotations c.args.both) ns)) (all_symmetries c.loop-n.n (omega (arith, c.loop-n-test.false)))
