use Rattle.std.proofs.Common.{refl, ap, take, length}
use Rattle.std.proofs.Math.ListN.{set}
use Rattle.x_steps.specs.StateView.{state_value}
use Rattle.lab_history.specs.declared.entry.Call.TheVariants as calls
use Rattle.lab_history.specs.declared.entry.Reply.TheVariants as replies
use Rattle.lab_book.specs.Tiling.{tile_at}
use Rattle.lab_book.specs.Book.{BookValue}
use Rattle.lab_book.proofs.TileLemmas.{part_is_tile}
use Rattle.lab_book.proofs.BookLemmas.{judged_fault}
use Rattle.lab_book.proofs.CallLemmas.{put_back_is, put_back_ok}
use Rattle.lab_book.proofs.StepLemmas.{change_keeps, change_made, back_is, free_open}
use Rattle.lab_book.proofs.book.Book.put_back.Goals as goal

pub refuse-requires : goal.refuse-requires
refuse-requires c = rw c.in-Ok.ensures (judged_fault _ _ _ _ _ _ (put_back_is _ _ _ _) c.in-Err.ensures.refused)

pub invariant_of-self-2 : goal.invariant_of-self-2
invariant_of-self-2 c =
    let place = rw (← c.self.view_is) at c.in-Ok-mark_place.ensures.place in
    let within = rw (← c.self.view_is) at c.in-Ok-mark_place.ensures.within in
    let free = rw (← c.self.view_is) at c.in-Ok-mark_place.ensures.free in
    let kept = rw (← c.self.view_is) at c.in-Ok-mark_place.ensures.kept in
    let back = ap (set c.self.inside.tiles c.in-Ok-mark_place.found.0)
    (back_is (tile_at c.self.inside.tiles c.in-Ok-mark_place.found.0) (state_value c.args.state.now)
    c.in-Ok-mark_place.found.1 kept.kept) in
    change_keeps _ _ _ _ _ _ _ c.self.invariant c.args.w _ c.in-Ok-mark_place.found.0 within
    (record (tile_at c.self.inside.tiles c.in-Ok-mark_place.found.0) {
      stretches =
          take c.in-Ok-mark_place.found.1 (tile_at c.self.inside.tiles c.in-Ok-mark_place.found.0).stretches;
    }) replies.Done _ _
    (put_back_ok _ c.args.w c.args.id c.in-Ok.copy (state_value c.args.state.now) c.in-Ok-mark_place.found.0 c.in-Ok.ensures place)
    refl back c.put_back.ensures refl refl refl refl
    (λ h. part_is_tile _ _ c.in-Ok-mark_place.found.1 h (free_open _ free)) c.in-Ok-keep.ensures.kept c.add.ensures

pub returns-clause-made : goal.returns-clause-made
returns-clause-made c =
    let place = rw (← c.self.view_is) at c.in-Ok-mark_place.ensures.place in
    let within = rw (← c.self.view_is) at c.in-Ok-mark_place.ensures.within in
    let kept = rw (← c.self.view_is) at c.in-Ok-mark_place.ensures.kept in
    let back = ap (set c.self.inside.tiles c.in-Ok-mark_place.found.0)
    (back_is (tile_at c.self.inside.tiles c.in-Ok-mark_place.found.0) (state_value c.args.state.now)
    c.in-Ok-mark_place.found.1 kept.kept) in
    rw (← c.self.view_is, ← c.in-Ok.ensures)
    (change_made _ _ _ _ _ _ _ c.self.invariant c.args.w _ c.in-Ok-mark_place.found.0 within
    (record (tile_at c.self.inside.tiles c.in-Ok-mark_place.found.0) {
      stretches =
          take c.in-Ok-mark_place.found.1 (tile_at c.self.inside.tiles c.in-Ok-mark_place.found.0).stretches;
    }) replies.Done _ _
    (put_back_ok _ c.args.w c.args.id c.in-Ok.copy (state_value c.args.state.now) c.in-Ok-mark_place.found.0 c.in-Ok.ensures place)
    refl back c.put_back.ensures c.in-Ok-keep.ensures.kept c.add.ensures)
