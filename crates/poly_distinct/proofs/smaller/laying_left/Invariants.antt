use Rattle.std.proofs.Common.{◌≡◌, filter}
use Rattle.shared_words.specs.Lists.{numbers}
use Rattle.poly_place.specs.Chosen.{choice_numbered}
use Rattle.poly_distinct.specs.Distinct.{is_left_in}
use Rattle.poly_distinct.specs.Moves.{thing_of, kept_at}
use Rattle.poly_distinct.proofs.smaller.laying_left.Given as goal

-- the numbers so far
abbrev pub invariant-loop-k : goal.invariant-loop-k
invariant-loop-k l =
    l.numbers.items
    ≡ filter (λ o. is_left_in l.moves.puzzle (thing_of l.anchor) (kept_at l.moves.puzzle l.moves.group (thing_of l.anchor)) (choice_numbered l.choices o)) (numbers l.k 1)
