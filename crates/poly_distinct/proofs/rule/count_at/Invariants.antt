use Rattle.std.proofs.Common.{◌≡◌, filter, length, take}
use Rattle.poly_distinct.specs.Moves.{thing_of, kept_at}
use Rattle.poly_distinct.specs.Rule.{is_kept_at}
use Rattle.poly_distinct.proofs.rule.count_at.Given as goal

-- the choices so far that are kept are counted
abbrev pub invariant-loop-choice : goal.invariant-loop-choice
invariant-loop-choice l =
    l.kept ≡ length (filter (is_kept_at l.moves.puzzle (kept_at l.moves.puzzle l.moves.group (thing_of l.anchor)) (thing_of l.anchor)) (take l.choice-index l.choices))
