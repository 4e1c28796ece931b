use Rattle.std.proofs.Common.{ℕ, Bool, true, false, ◌≡◌, cond, ap, ◌∙◌}
use Rattle.shared_words.specs.Lists.{has}
use Rattle.cover_problem.specs.Problem.{option_at}
use Rattle.cover_problem.proofs.CoverTestLemmas.{count_more}
use Rattle.cover_problem.proofs.exact_cover.occurrences.Goals as goal
use mir.Val.{bool_byte}

as_number : (a b : Bool) (n : ℕ) → n ≡ bool_byte a → a ≡ b → n ≡ cond b 1 0
as_number true b n e h = e ∙ ap (λ v. cond v 1 0) h
as_number false b n e h = e ∙ ap (λ v. cond v 1 0) h

pub loop-k-preserved : goal.loop-k-preserved
loop-k-preserved c =
    count_more (λ k. has (option_at c.args.problem.now k) c.args.item) c.args.chosen.now c.loop-k.k-index c.loop-k.count c.from-count.result c.loop-k.invariant c.loop-k-test.true
    (as_number c.contains.result _ _ c.from-count.ensures (c.contains.ensures.value ∙ ap (λ o. has o c.args.item) c.option.ensures))
