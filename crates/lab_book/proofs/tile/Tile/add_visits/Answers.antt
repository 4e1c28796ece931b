use Rattle.std.proofs.Common.{refl}
use Rattle.x_steps.specs.Run.{visits_between}
use Rattle.x_branches.specs.Stretch.{StretchValue}
use Rattle.lab_book.proofs.TileLemmas.{at_place}
use Rattle.lab_book.proofs.PostedLemmas.{visits_more}
use Rattle.lab_book.proofs.tile.Tile.add_visits.Goals as goal

pub loop-place-preserved : goal.loop-place-preserved
loop-place-preserved c =
    let xs = c.args.self.now.stretches in let i = c.loop-place.place in let x = c.stretch.result in
    let p = at_place xs i x (rw c.stretches-stretches.ensures at c.stretch.ensures) in
    visits_more (λ (x : StretchValue). visits_between x.problem x.from x.to) xs i x _ _ _ _ p.0 p.1 c.loop-place.invariant refl c.in_ok-add_visits.ensures
