use Rattle.std.proofs.Common.{◌∙◌, sym}
use Rattle.poly_texts.specs.Puzzle.{pieces_of, mirrored_names}
use Rattle.poly_texts.proofs.EqualLemmas.{given_of, given_none}
use Rattle.poly_texts.proofs.puzzle.Puzzle.is_mirrored.Goals as goal

pub returns-in-Some : goal.returns-in-Some
unfolding mirrored_names
returns-in-Some c = c.is_mirrored.ensures ∙ sym (given_of c.args.self.now c.kind_of.ensures.puzzle (λ j. j.mirrored) c.in-Some.kind.now c.in-Some.ensures.kind c.args.name c.in-Some.ensures.named)

pub returns-in-None : goal.returns-in-None
unfolding pieces_of mirrored_names
returns-in-None c = sym (given_none c.args.self.now c.kind_of.ensures.puzzle (λ j. j.mirrored) c.args.name c.in-None.ensures.none)
