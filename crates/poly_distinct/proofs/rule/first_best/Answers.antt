use Rattle.std.proofs.Common.{ℕ, ◌+◌, ◌∙◌, sym, subst, arith}
use Rattle.std.specs.List.{IsFirstBest}
use Rattle.std.proofs.lemmas.List.MinMax.{IsFirstBest-none, IsFirstBest-keeps, IsFirstBest-takes}
use Rattle.poly_distinct.specs.Rule.{better_by}
use Rattle.poly_distinct.proofs.BestLemmas.{copied_is, first_is, better_ranks}
use Rattle.poly_distinct.proofs.rule.first_best.Goals as goal
use Rattle.poly_distinct.proofs.rule.first_best.Goals.{then-is_better, else-is_better}

pub loop-k-init : goal.loop-k-init
loop-k-init c = IsFirstBest-none (better_ranks c.args.most) c.args.tallies.now

pub loop-k-preserved : goal.loop-k-preserved
loop-k-preserved c =
    let ts = c.args.tallies.now in
    elim c.if-is_better.branch [
      | then-is_better w ↦
          subst (λ (b : ℕ). IsFirstBest (better_by c.args.most) ts (c.loop-k.k + 1) b) (sym w.best-is)
          (IsFirstBest-takes (better_ranks c.args.most) ts c.loop-k.k c.loop-k.best c.index-tallies-k.result c.index-tallies-best.result c.loop-k.invariant c.loop-k-test.true c.index-tallies-k.is c.index-tallies-best.is
          (sym c.is_better.ensures ∙ w.if-is_better.true))
      | else-is_better w ↦
          subst (λ (b : ℕ). IsFirstBest (better_by c.args.most) ts (c.loop-k.k + 1) b) (sym w.best-is)
          (IsFirstBest-keeps (better_ranks c.args.most) ts c.loop-k.k c.loop-k.best c.index-tallies-k.result c.index-tallies-best.result c.loop-k.invariant c.loop-k-test.true c.index-tallies-k.is c.index-tallies-best.is
          (sym c.is_better.ensures ∙ w.if-is_better.false))
    ]

pub returns : goal.returns
returns c =
    let low = c.loop-k.invariant.0 in
    let end = c.loop-k.auto.k-end in
    let past = c.loop-k-test.false in
    c.copied.ensures ∙ copied_is c.args.tallies.now c.loop-k.best c.get.result c.get.ensures.lookup
    ∙ first_is (better_by c.args.most) c.args.tallies.now c.loop-k.k c.loop-k.best c.loop-k.invariant past (λ some. omega (arith, low, end some, past))
