use Rattle.std.proofs.Common.{ap, ◌∙◌, ℕ, List}
use Rattle.poly_texts.specs.Puzzle.{equal_names, has_name}
use Rattle.poly_texts.proofs.EqualLemmas.{equal_new}
use Rattle.poly_distinct.proofs.MateLemmas.{both_in}
use Rattle.poly_distinct.proofs.exchange.are_mates.Goals as goal

pub returns : goal.returns
returns c =
    let p = c.args.puzzle.now in
    c.contains.ensures.value ∙ ap (λ (ns : List ℕ). has_name ns c.args.other) c.mates.ensures
    ∙ both_in (equal_names p) (equal_new p c.is_sound.ensures.puzzle) c.args.name c.args.other
