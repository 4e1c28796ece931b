use Rattle.std.proofs.Common.{ap, ◌∙◌}
use Rattle.poly_texts.specs.Puzzle.{PuzzleValue}
use Rattle.poly_distinct.specs.Exchange.{mirror_name}
use Rattle.poly_distinct.proofs.ExchangeLemmas.{name_is}
use Rattle.poly_distinct.proofs.exchange.MirrorNames.name.Goals as goal

pub returns : goal.returns
returns c =
    c.second_of.ensures ∙ name_is c.self.inside.puzzle.now _ c.args.name (c.as_slice.ensures.value ∙ c.self.invariant.0)
    ∙ ap (λ (p : PuzzleValue). mirror_name p c.args.name) c.self.view_is
