use Rattle.std.proofs.Common.{sym, subst}
use Rattle.poly_cells.specs.Sets.{IsIn}
use Rattle.poly_place.specs.Packings.{every_choice}
use Rattle.poly_distinct.specs.Moves.{thing_of}
use Rattle.poly_distinct.specs.UpTo.{PartValue, part_with}
use Rattle.poly_distinct.proofs.LeftInLemmas.{choice_inside}
use Rattle.poly_distinct.proofs.PartLemmas.{moves_lie, moves_keep}
use Rattle.poly_distinct.proofs.part.AnchorPart.add_count.Goals as goal

pub image_count-requires-clause-anchor : goal.image_count-requires-clause-anchor
image_count-requires-clause-anchor c = moves_lie (part_with c.self.inside.compiled.now c.self.inside.group (thing_of c.self.inside.anchor)) _ _ _ c.self.invariant

pub image_count-requires-clause-inside : goal.image_count-requires-clause-inside
image_count-requires-clause-inside c =
    let member = subst (λ (a : PartValue). IsIn c.args.choice.now (every_choice a.puzzle)) (sym c.self.view_is) c.requires in
    moves_keep (part_with c.self.inside.compiled.now c.self.inside.group (thing_of c.self.inside.anchor)) _ _ _ c.self.invariant c.cells.result.now
    (λ v i. choice_inside c.self.inside.compiled.now c.self.invariant.sound c.args.choice.now member v (subst (IsIn v) c.cells.ensures i))
