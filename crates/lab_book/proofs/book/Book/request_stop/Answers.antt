use Rattle.std.proofs.Common.{refl, ap, ◌∙◌, true, inr, length}
use Rattle.lab_history.specs.declared.entry.Reply.TheVariants as replies
use Rattle.lab_book.specs.Tile.{TileValue, asked_status}
use Rattle.lab_book.specs.Tiling.{tile_at}
use Rattle.lab_book.specs.Book.{BookValue}
use Rattle.lab_book.proofs.BookLemmas.{judged_err}
use Rattle.lab_book.proofs.CallLemmas.{call_made, stop_is}
use Rattle.lab_book.proofs.StepLemmas.{change_keeps, change_made, asked_is_tile, asked_leased}
use Rattle.lab_book.proofs.book.Book.request_stop.Goals as goal

pub refuse-requires : goal.refuse-requires
refuse-requires c = rw (← c.self.view_is)
    (judged_err _ _ _ _ _ _ _ (stop_is _ c.args.w c.args.id) (inr c.open_place.ensures.place) c.in-Err.is)

pub invariant_of-self-2 : goal.invariant_of-self-2
invariant_of-self-2 c =
    let t = tile_at c.self.inside.tiles c.in-Ok.i in
    let status = c.asked-status.ensures ∙ ap asked_status (c.status.ensures ∙ ap (λ (t : TileValue). t.status) c.tile.ensures) in
    change_keeps _ _ _ _ _ _ _ c.self.invariant c.args.w _ c.in-Ok.i c.in-Ok.ensures.within
    (record t { status = c.asked-status.result; stop = true }) replies.Done _ _
    (call_made _ _ _ _ _ _ _ (stop_is _ c.args.w c.args.id) (inr c.open_place.ensures.place) c.in-Ok.is) refl (rw status refl)
    c.settle.ensures refl refl refl (asked_leased _ _ status)
    (asked_is_tile _ _ _ status c.in-Ok.ensures.not_closed) c.in-Ok-keep.ensures.kept c.add.ensures

pub returns-clause-made : goal.returns-clause-made
returns-clause-made c =
    let t = tile_at c.self.inside.tiles c.in-Ok.i in
    let status = c.asked-status.ensures ∙ ap asked_status (c.status.ensures ∙ ap (λ (t : TileValue). t.status) c.tile.ensures) in
    rw (← c.self.view_is)
    (change_made _ _ _ _ _ _ _ c.self.invariant c.args.w _ c.in-Ok.i c.in-Ok.ensures.within
    (record t { status = c.asked-status.result; stop = true }) replies.Done _ _
    (call_made _ _ _ _ _ _ _ (stop_is _ c.args.w c.args.id) (inr c.open_place.ensures.place) c.in-Ok.is) refl (rw status refl)
    c.settle.ensures c.in-Ok-keep.ensures.kept c.add.ensures)
