use Rattle.std.proofs.Common.{◌-◌, ◌∙◌, sym, ap, Some}
use Rattle.lab_book.proofs.TileLemmas.{at_place, last_place}
use Rattle.lab_book.proofs.tile.Tile.last.Goals as goal

pub returns-clause-stretch : goal.returns-clause-stretch
returns-clause-stretch c =
    let xs = c.args.self.now.stretches in
    let p = at_place xs (c.len-count.result - 1) c.stretch.result (rw c.stretches-2.ensures at c.stretch.ensures) in
    last_place xs _ c.requires (rw (c.len-count.ensures, c.stretches.ensures) at p.1) ∙ ap Some (sym c.in_ok-stretch.ensures)
