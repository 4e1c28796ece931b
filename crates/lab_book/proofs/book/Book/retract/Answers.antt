use Rattle.std.proofs.Common.{refl, ap, ap₂, length}
use Rattle.lab_history.specs.declared.entry.Call.TheVariants as calls
use Rattle.lab_history.specs.declared.entry.Reply.TheVariants as replies
use Rattle.lab_book.specs.Tiling.{tile_at}
use Rattle.lab_book.specs.Book.{BookValue, retracted_tile}
use Rattle.lab_book.proofs.TileLemmas.{part_is_tile}
use Rattle.lab_book.proofs.BookLemmas.{judged_err}
use Rattle.lab_book.proofs.CallLemmas.{call_made, retract_is}
use Rattle.lab_book.proofs.StepLemmas.{with_history}
use Rattle.lab_book.proofs.StepLemmas.{change_keeps, change_made, retracted_reply, retracted_problem, leased_open, told_same}
use Rattle.lab_book.proofs.book.Book.retract.Goals as goal

pub refuse-requires : goal.refuse-requires
refuse-requires c = judged_err _ _ _ _ _ _ _ (retract_is c.args.self.now _ c.grant-lease.result) c.retract_place.ensures.place c.in-Err.is

pub invariant_of-self-2 : goal.invariant_of-self-2
invariant_of-self-2 c =
    let before =
    with_history c.self.inside.problem.now c.self.inside.branch c.self.inside.first c.self.inside.tiles c.self.inside.history.entries in
    let last = rw c.tile.ensures at c.in-Ok-last.ensures.stretch in
    let within = rw (← c.self.view_is) at c.in-Ok.ensures.within in
    let place = rw (← c.self.view_is) at c.retract_place.ensures.place in
    let leased = rw (← c.self.view_is) at c.in-Ok.ensures.leased in
    change_keeps _ _ _ _ _ _ _ c.self.invariant _ _ c.in-Ok.i within (retracted_tile (tile_at c.self.inside.tiles c.in-Ok.i))
    (replies.Retracted c.in-Ok-ends_of.from c.in-Ok-ends_of.to) _ _
    (call_made _ _ _ _ _ _ _ (retract_is before _ c.grant-lease.result) place c.in-Ok.is)
    (retracted_reply before c.in-Ok.i c.in-Ok-last.stretch _ _ last c.in-Ok-ends_of.ensures.from c.in-Ok-ends_of.ensures.to)
    refl c.retract.ensures refl refl refl refl
    (λ h. part_is_tile _ _ _ h (leased_open _ leased)) c.in-Ok-keep.ensures.kept c.add.ensures

pub returns-clause-made : goal.returns-clause-made
returns-clause-made c =
    let before =
    with_history c.self.inside.problem.now c.self.inside.branch c.self.inside.first c.self.inside.tiles c.self.inside.history.entries in
    let last = rw c.tile.ensures at c.in-Ok-last.ensures.stretch in
    let within = rw (← c.self.view_is) at c.in-Ok.ensures.within in
    let place = rw (← c.self.view_is) at c.retract_place.ensures.place in
    let made = change_made _ _ _ _ _ _ _ c.self.invariant _ _ c.in-Ok.i within (retracted_tile (tile_at c.self.inside.tiles c.in-Ok.i))
    (replies.Retracted c.in-Ok-ends_of.from c.in-Ok-ends_of.to) _ _
    (call_made _ _ _ _ _ _ _ (retract_is before _ c.grant-lease.result) place c.in-Ok.is)
    (retracted_reply before c.in-Ok.i c.in-Ok-last.stretch _ _ last c.in-Ok-ends_of.ensures.from c.in-Ok-ends_of.ensures.to)
    refl c.retract.ensures c.in-Ok-keep.ensures.kept c.add.ensures in
    rw (← c.self.view_is, ← c.grant-lease.ensures) (told_same _ _ _ _ _ _ made
    (ap₂ replies.Retracted c.in-Ok-ends_of.ensures.from c.in-Ok-ends_of.ensures.to))

pub returns-clause-problem : goal.returns-clause-problem
returns-clause-problem c =
    let within = rw (← c.self.view_is) at c.in-Ok.ensures.within in
    let last = rw c.tile.ensures at c.in-Ok-last.ensures.stretch in
    rw (← c.self.view_is) (retracted_problem _ _ _ _ _ _ c.self.invariant.sound.tiling within last)
