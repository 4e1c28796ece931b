use Rattle.std.proofs.Common.{sym, ap, ◌∙◌, arith}
use Rattle.std.proofs.lemmas.List.{get_or_default}
use Rattle.lab_book.specs.Tile.{TileValue, is_waiting}
use Rattle.lab_book.specs.Tiling.{no_tile}
use Rattle.lab_book.proofs.IndexLemmas.{position_at, position_none}
use Rattle.lab_book.proofs.tiles.find_waiting.Goals as goal

pub returns-then-is_waiting-clause-place : goal.returns-then-is_waiting-clause-place
returns-then-is_waiting-clause-place c =
    let ts = c.args.list.now in
    let read = c.index-list-place.is ∙ get_or_default ts c.finding.place c.index-list-place.result no_tile c.finding-test.true in
    let here = ap (λ (t : TileValue). is_waiting t.status) (sym read) ∙ ap is_waiting (sym c.status.ensures) ∙ sym c.is_waiting.ensures
    ∙ c.if-is_waiting.true in
    sym (position_at (λ (t : TileValue). is_waiting t.status) ts c.finding.place no_tile c.finding-test.true
    (λ k l. c.finding.invariant k (omega (arith, c.finding-test.true)) l) here)

pub returns-clause-place : goal.returns-clause-place
returns-clause-place c =
    sym (position_none (λ (t : TileValue). is_waiting t.status) c.args.list.now no_tile
    (λ k l. c.finding.invariant k l (omega (arith, c.finding-test.false))))
