use Rattle.std.proofs.Common.{◌≤◌, length, arith}
use Rattle.lab_book.proofs.IndexLemmas.{unplaced}
use Rattle.lab_book.proofs.tiles.Tiles.place.Goals as goal

pub returns-else-number-len-clause-place : goal.returns-else-number-len-clause-place
returns-else-number-len-clause-place c =
    let past : length c.self.inside.places.items ≤ c.args.id = omega (arith, c.self.inside.places.ok.0) in
    rw (← c.self.view_is) (unplaced _ _ c.args.id c.self.invariant.numbered c.self.invariant.index past)
