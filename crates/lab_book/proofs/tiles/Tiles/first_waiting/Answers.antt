use Rattle.lab_book.proofs.IndexLemmas.{none_waits}
use Rattle.lab_book.proofs.tiles.Tiles.first_waiting.Goals as goal

pub returns-then-self-eq0-clause-place : goal.returns-then-self-eq0-clause-place
returns-then-self-eq0-clause-place c = rw (← c.self.view_is) (none_waits _ _ c.self.invariant.waiting_are c.if-self-eq0.true)
