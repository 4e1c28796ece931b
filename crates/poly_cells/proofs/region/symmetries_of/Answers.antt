use Rattle.std.proofs.Common.{◌≡◌, ℕ, [], ◌∷◌, ◌++◌, sym, ap, subst, ◌∙◌, vec_items, arith}
use Rattle.poly_cells.specs.Images.{HasSymmetry}
use Rattle.poly_cells.proofs.KeptLemmas.{AreThose, those_more, those_same, rises_more, rises_same}
use Rattle.poly_cells.proofs.region.symmetries_of.Goals as goal
use Rattle.poly_cells.proofs.region.symmetries_of.Goals.{then-branch+in_ok-push, else-branch}

pub loop-n-preserved : goal.loop-n-preserved
loop-n-preserved c =
    let all : AreThose (λ m. HasSymmetry m c.args.region.now) c.loop-n.n c.loop-n.found.items = c.loop-n.invariant.exactly in
    let kept : HasSymmetry c.new-symmetry.result c.args.region.now → HasSymmetry c.loop-n.n c.args.region.now = subst (λ m. HasSymmetry m c.args.region.now) c.new-symmetry.ensures in
    let kept' : HasSymmetry c.loop-n.n c.args.region.now → HasSymmetry c.new-symmetry.result c.args.region.now = subst (λ m. HasSymmetry m c.args.region.now) (sym c.new-symmetry.ensures) in
    elim c.if-branch.branch [
      | then-branch+in_ok-push w ↦
          let grown : c.if-branch.found.items ≡ c.loop-n.found.items ++ c.loop-n.n ∷ [] = ap vec_items w.found-is ∙ w.in_ok-push.ensures.items ∙ ap (λ (m : ℕ). c.loop-n.found.items ++ m ∷ []) c.new-symmetry.ensures in
          record {
            exactly = those_more (λ m. HasSymmetry m c.args.region.now) c.loop-n.n _ _ grown (kept (c.in_ok-is_kept.ensures.0 w.if-branch.true)) all;
            rises = rises_more c.loop-n.n _ _ grown (λ m i. ((all m).0 i).0) c.loop-n.invariant.rises;
          }
      | else-branch w ↦
          let same : c.if-branch.found.items ≡ c.loop-n.found.items = ap vec_items w.found-is in
          record {
            exactly = those_same (λ m. HasSymmetry m c.args.region.now) c.loop-n.n _ _ same (λ h. let t = c.in_ok-is_kept.ensures.1 (kept' h) in let f = w.if-branch.false in cc) all;
            rises = rises_same _ _ same c.loop-n.invariant.rises;
          }
    ]

pub returns-clause-exactly : goal.returns-clause-exactly
returns-clause-exactly c =
    let end : c.loop-n.n ≡ 48 = omega arith in
    subst (λ (n : ℕ). AreThose (λ m. HasSymmetry m c.args.region.now) n c.loop-n.found.items) end c.loop-n.invariant.exactly
