use Rattle.std.proofs.Common.{ap, ◌∙◌, ◌==◌, ℕ, List, length}
use Rattle.poly_texts.specs.Puzzle.{equal_names}
use Rattle.poly_distinct.proofs.MateLemmas.{none_in}
use Rattle.poly_distinct.proofs.rule.is_alone.Goals as goal

pub returns : goal.returns
returns c =
    c.is_empty.ensures ∙ ap (λ (ns : List ℕ). length ns == 0) c.mates.ensures ∙ none_in (equal_names c.args.puzzle.now) c.args.name
