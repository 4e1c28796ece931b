use Rattle.std.proofs.Common.{◌==◌, sym, ap, ◌∙◌, arith, eq-eqb}
use Rattle.std.proofs.lemmas.Bool.{ne_eqb}
use Rattle.std.proofs.lemmas.List.{get_or_default}
use Rattle.lab_book.specs.Tile.{TileValue}
use Rattle.lab_book.specs.Tiling.{no_tile, tile_at}
use Rattle.lab_book.proofs.IndexLemmas.{position_at, position_none}
use Rattle.lab_book.proofs.tiles.find.Goals as goal

pub returns-then-id-clause-place : goal.returns-then-id-clause-place
returns-then-id-clause-place c =
    let ts = c.args.list.now in
    let read = c.index-list-place.is ∙ get_or_default ts c.finding.place c.index-list-place.result no_tile c.finding-test.true in
    let here = sym (ap (λ (t : TileValue). t.id) read) ∙ sym c.id.ensures ∙ c.if-id.true in
    sym (position_at (λ (t : TileValue). t.id == c.args.id) ts c.finding.place no_tile c.finding-test.true
    (λ k l. ne_eqb (tile_at ts k).id c.args.id (c.finding.invariant k (omega (arith, c.finding-test.true)) l)) (eq-eqb _ _ here))

pub returns-clause-place : goal.returns-clause-place
returns-clause-place c =
    let ts = c.args.list.now in
    sym (position_none (λ (t : TileValue). t.id == c.args.id) ts no_tile
    (λ k l. ne_eqb (tile_at ts k).id c.args.id (c.finding.invariant k l (omega (arith, c.finding-test.false)))))
