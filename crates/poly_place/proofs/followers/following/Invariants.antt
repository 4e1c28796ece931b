use Rattle.std.proofs.Common.{◌≡◌, ◌≤◌, ◌+◌, drop, filter, length, not}
use Rattle.poly_texts.specs.Puzzle.{is_spare}
use Rattle.poly_place.specs.Packings.{followers_in}
use Rattle.poly_place.proofs.followers.following.Given as goal

-- those that are counted, and those that follow by the pairs to come
abbrev pub invariant-loop-pair : goal.invariant-loop-pair
invariant-loop-pair l = record {
  rest : l.count + length (filter (λ n. not (is_spare l.puzzle n)) (followers_in (drop l.pair-index l.pairs) l.last))
      ≡ length (filter (λ n. not (is_spare l.puzzle n)) (followers_in l.pairs l.fn.name));
  low : l.count ≤ l.pair-index;
}
