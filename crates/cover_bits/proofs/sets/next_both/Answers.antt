use Rattle.std.proofs.Common.{◌≡◌, ◌/◌, nat_lt, true, false, length, sym, rules}
use Rattle.std.specs.List.Sorted.{IsPartitionPoint}
use Rattle.std.proofs.lemmas.List.Sorted.{IsPartitionPoint-from_clause, IsPartitionedBy-ltb}
use Rattle.cover_bits.proofs.RestLemmas.{places_rise, rest_placed, first_of_rest, none_of_rest}
use Rattle.cover_bits.proofs.sets.next_both.Goals as goal

point : (c : goal.After-first_both-2) → IsPartitionPoint (λ part. nat_lt part.place (c.args.start / 64) ≡ true) (λ part. nat_lt part.place (c.args.start / 64) ≡ false) c.args.parts.now c.partition_point-before.result
point c =
    let parted = IsPartitionedBy-ltb (λ part. part.place) c.args.parts.now (c.args.start / 64) (places_rise 0 (length c.args.row.now) c.args.parts.now c.requires.placed) in
    IsPartitionPoint-from_clause (λ part. nat_lt part.place (c.args.start / 64)) c.args.parts.now c.partition_point-before.result c.partition_point-before.ensures.partitioned parted (λ a r q k. search rules)

pub first_both-requires-2-clause-placed : goal.first_both-requires-2-clause-placed
first_both-requires-2-clause-placed c = rw c.split_at.ensures.back (rest_placed 0 (length c.args.row.now) c.args.parts.now c.requires.placed c.partition_point-before.result)

pub returns-clause-some : goal.returns-clause-some
returns-clause-some c =
    first_of_rest c.args.parts.now c.args.row.now c.args.start c.partition_point-before.result (point c) c.first_both-2.result (rw (sym c.split_at.ensures.back) c.first_both-2.ensures.some)

pub returns-clause-none : goal.returns-clause-none
returns-clause-none c e =
    none_of_rest c.args.parts.now c.args.row.now c.args.start c.partition_point-before.result (point c) (rw (sym c.split_at.ensures.back) (c.first_both-2.ensures.none e))
