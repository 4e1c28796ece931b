use Rattle.poly_distinct.specs.Moves.{thing_of}
use Rattle.poly_distinct.proofs.PartLemmas.{part_made}
use Rattle.poly_distinct.proofs.part.AnchorPart.at.Goals as goal

pub invariant_of-result : goal.invariant_of-result
invariant_of-result c =
    part_made c.args.compiled.now c.args.group (thing_of c.args.anchor.now) c.args.moves c.requires.moves
    c.choices-sound.ensures.puzzle c.requires.anchor _ _ _ _ c.in_ok-numbers.ensures.value c.as_slice.ensures.value c.problem.ensures c.in_ok-problem.ensures
