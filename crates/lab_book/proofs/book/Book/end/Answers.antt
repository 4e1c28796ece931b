use Rattle.std.proofs.Common.{ap, ◌∙◌}
use Rattle.lab_book.specs.Tile.{TileValue, ended_status}
use Rattle.lab_book.proofs.BookLemmas.{judged_err}
use Rattle.lab_book.proofs.CallLemmas.{end_is, ended}
use Rattle.lab_book.proofs.book.Book.end.Goals as goal

pub hand_back-requires : goal.hand_back-requires
hand_back-requires c = rw c.call-call.ensures
    (judged_err _ _ _ _ _ _ _ (end_is c.args.self.now _ c.args.ending c.grant-grant.result) c.end_place.ensures.place c.in-Err.is)

pub settle-requires-clause-outcome : goal.settle-requires-clause-outcome
settle-requires-clause-outcome c =
    let place = rw (← c.self.view_is) at c.end_place.ensures.place in
    let status = c.ended-status.ensures.ended ∙ ap (ended_status c.args.ending) (c.stop.ensures ∙ ap (λ (t : TileValue). t.stop) c.tile.ensures) in
    rw (← c.self.view_is, c.call-call.ensures) (ended _ _ c.args.ending c.grant-grant.result _ _ _ place c.in-Ok.is status)
