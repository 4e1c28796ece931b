use Rattle.std.proofs.Common.{Some}
use Rattle.x_debug.proofs.LoadLemmas.{fresh_at, stands_first, world_is, desk_seat}
use Rattle.x_debug.proofs.session.snapshot.desk_of.Goals as goal

pub lease_with-requires-clause-first : goal.lease_with-requires-clause-first
lease_with-requires-clause-first g c =
    stands_first c.args.problem.now _ _ c.in_ok-book.book c.args.runner c.requires.runner c.in_ok-book.ensures

pub returns-clause-made : goal.returns-clause-made
returns-clause-made g c =
    world_is c.args.problem.now c.args.draft.now c.requires.same c.in_ok-book.book c.lease_with.new.book (Some c.in_ok-worker.worker)
    (fresh_at c.args.problem.now _ _ c.in_ok-book.book c.args.runner c.requires.runner c.in_ok-book.ensures)
    c.in_ok-worker.ensures.book c.in_ok-worker.ensures.worker

pub returns-clause-seat : goal.returns-clause-seat
returns-clause-seat g c =
    desk_seat c.args.problem.now c.args.draft.now c.requires.same c.in_ok-book.book c.lease_with.new.book (Some c.in_ok-worker.worker)
    (fresh_at c.args.problem.now _ _ c.in_ok-book.book c.args.runner c.requires.runner c.in_ok-book.ensures)
    c.in_ok-worker.ensures.book c.in_ok-worker.ensures.worker c.is_sound.ensures.tiling
