use Rattle.std.proofs.Common.{ℕ, ◌<◌, ◌+◌, length, arith, subst}
use Rattle.cover_problem.proofs.HolderLemmas.{few_options}
use Rattle.poly_distinct.proofs.CountsLemmas.{counts_low, option_within}
use Rattle.poly_distinct.proofs.counts.count_options.Goals as goal

pub add_each-requires-clause-within : goal.add_each-requires-clause-within
add_each-requires-clause-within c =
    option_within c.args.problem.now c.requires.problem c.loop-k.k (subst (λ (n : ℕ). c.loop-k.k < n) c.options-k-end.ensures c.loop-k-test.true) c.loop-k.counts c.option.result.now c.option.ensures c.loop-k.invariant.long

pub add_each-requires-clause-room : goal.add_each-requires-clause-room
add_each-requires-clause-room c k h =
    let q = c.args.problem.now in
    let few = few_options q c.requires.problem in
    counts_low (length q.names + 1) (λ option. option) q.options c.loop-k.k k c.loop-k.counts (subst (λ (n : ℕ). c.loop-k.k < n) c.options-k-end.ensures c.loop-k-test.true) (omega (arith, few)) c.loop-k.invariant h
