use Rattle.std.proofs.Common.{sym, subst, ◌∙◌}
use Rattle.poly_cells.specs.Sets.{IsIn}
use Rattle.poly_distinct.specs.Moves.{thing_of}
use Rattle.poly_distinct.proofs.LeftInLemmas.{choice_inside, lies_inside}
use Rattle.poly_distinct.proofs.rule.is_kept.Goals as goal

pub is_first-requires-clause-anchor : goal.is_first-requires-clause-anchor
is_first-requires-clause-anchor c =
    lies_inside c.args.moves.now.puzzle c.requires.puzzle (thing_of c.args.anchor.now) c.args.choice.now c.requires.member (sym c.is_at.ensures ∙ c.if-not-is_at.false)

pub is_first-requires-clause-inside : goal.is_first-requires-clause-inside
is_first-requires-clause-inside c v i =
    choice_inside c.args.moves.now.puzzle c.requires.puzzle c.args.choice.now c.requires.member v (subst (IsIn v) c.cells.ensures i)
