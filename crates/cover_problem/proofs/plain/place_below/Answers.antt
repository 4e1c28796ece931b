use Rattle.std.proofs.Common.{rules, sym, nat_lt}
use Rattle.std.proofs.lemmas.List.Sorted.{IsPartitionPoint-from_clause, IsPartitionedBy-ltb}
use Rattle.cover_problem.proofs.RisingLemmas.{rising}
use Rattle.cover_problem.proofs.WalkLemmas.{prefix_from_point}
use Rattle.cover_problem.proofs.plain.place_below.Goals as goal

pub returns-clause-count : goal.returns-clause-count
returns-clause-count c =
    let parted = IsPartitionedBy-ltb (λ k. k) c.args.holders.now c.args.bound (rising 1 c.args.holders.now c.requires) in
    let point = IsPartitionPoint-from_clause (λ k. nat_lt k c.args.bound) c.args.holders.now c.partition_point.result c.partition_point.ensures.partitioned parted (λ a r q k. search rules) in
    sym (prefix_from_point (λ k. nat_lt k c.args.bound) c.args.holders.now c.partition_point.result c.partition_point.ensures.bound point)
