use Rattle.std.proofs.Common.{ap, ◌∙◌, ◌+◌, ◌++◌, ◌∷◌, [], sym, List, ℕ, append_assoc}
use Rattle.poly_distinct.proofs.LeftInLemmas.{numbers_more}
use Rattle.poly_distinct.proofs.smaller.with_numbers.Goals as goal

pub loop-k-preserved : goal.loop-k-preserved
loop-k-preserved c =
    c.in_ok-push.ensures.items ∙ ap (λ (ns : List ℕ). ns ++ (c.loop-k.k + 1) ∷ []) c.loop-k.invariant
    ∙ append_assoc c.args.list.items _ ((c.loop-k.k + 1) ∷ [])
    ∙ ap (λ (ns : List ℕ). c.args.list.items ++ ns) (sym (numbers_more c.args.low c.loop-k.k c.loop-k.auto.k))
