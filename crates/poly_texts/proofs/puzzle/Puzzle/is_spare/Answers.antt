use Rattle.std.proofs.Common.{◌∙◌, ap, sym}
use Rattle.poly_texts.specs.Puzzle.{pieces_of, spare_names, has_name}
use Rattle.poly_texts.proofs.EqualLemmas.{spare_of, spare_none}
use Rattle.poly_texts.proofs.puzzle.Puzzle.is_spare.Goals as goal

pub returns-in-Some : goal.returns-in-Some
unfolding spare_names
returns-in-Some c =
    c.contains.ensures.value ∙ ap (λ ns. has_name ns c.args.name) c.spare.ensures
    ∙ sym (spare_of c.args.self.now c.kind_of.ensures.puzzle c.in-Some.kind.now c.in-Some.ensures.kind c.args.name c.in-Some.ensures.named)

pub returns-in-None : goal.returns-in-None
unfolding pieces_of spare_names
returns-in-None c = sym (spare_none c.args.self.now c.kind_of.ensures.puzzle c.args.name c.in-None.ensures.none)
