use Rattle.std.proofs.Common.{arith, ◌==◌}
use Rattle.std.specs.List.{before_first, after_first}
use Rattle.cover_problem.proofs.PathLemmas.{can_parts}
use Rattle.cover_problem.proofs.CoverEach.{place_within}
use Rattle.cover_bits.proofs.table.BitTableTable.cover_others.Goals as goal

pub split_at-requires : goal.split_at-requires
split_at-requires c = let within = place_within c.args.item c.args.option.now c.requires.member in rw c.place_of-place.ensures (omega arith)

pub split_at-requires-2 : goal.split_at-requires-2
split_at-requires-2 c = let within = place_within c.args.item c.args.option.now c.requires.member in rw c.place_of-place.ensures (omega arith)

pub cover_each-requires : goal.cover_each-requires
cover_each-requires c =
    let parts = can_parts _ _ (after_first (λ x. x == c.args.item) c.args.option.now) (before_first (λ x. x == c.args.item) c.args.option.now) c.requires.can in
    rw (c.split_at.ensures.back, c.place_of-place.ensures) parts.0

pub cover_each-requires-2 : goal.cover_each-requires-2
cover_each-requires-2 c =
    let parts = can_parts _ _ (after_first (λ x. x == c.args.item) c.args.option.now) (before_first (λ x. x == c.args.item) c.args.option.now) c.requires.can in
    rw (c.split_at-2.ensures.front, c.cover_each.ensures.same_problem, c.cover_each.ensures.covered, c.split_at.ensures.back, c.place_of-place.ensures) parts.1
