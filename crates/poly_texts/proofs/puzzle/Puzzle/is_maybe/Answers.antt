use Rattle.std.proofs.Common.{◌∙◌, ap, sym}
use Rattle.poly_texts.specs.Usages.{is_maybe}
use Rattle.poly_texts.specs.Puzzle.{pieces_of, maybe_names}
use Rattle.poly_texts.proofs.EqualLemmas.{given_of, given_none}
use Rattle.poly_texts.proofs.puzzle.Puzzle.is_maybe.Goals as goal

pub returns-in-Some : goal.returns-in-Some
unfolding maybe_names
returns-in-Some c =
    c.is_maybe.ensures ∙ ap is_maybe c.usage.ensures
    ∙ sym (given_of c.args.self.now c.kind_of.ensures.puzzle (λ j. is_maybe j.usage) c.in-Some.kind.now c.in-Some.ensures.kind c.args.name c.in-Some.ensures.named)

pub returns-in-None : goal.returns-in-None
unfolding pieces_of maybe_names
returns-in-None c = sym (given_none c.args.self.now c.kind_of.ensures.puzzle (λ j. is_maybe j.usage) c.args.name c.in-None.ensures.none)
