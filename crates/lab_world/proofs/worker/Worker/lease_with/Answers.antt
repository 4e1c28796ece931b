use Rattle.std.proofs.Common.{sym}
use Rattle.lab_world.proofs.LeaseLemmas.{some_leased, any_worker, any_holds}
use Rattle.lab_world.proofs.worker.Worker.lease_with.Goals as goal

pub unreachable-requires : goal.unreachable-requires
unreachable-requires g c =
    some_leased c.args.book.now c.lease_any.new.self c.args.w c.in_ok-leased.field-0 c.requires.first.place
    (sym c.requires.first.first) c.in_ok-leased.ensures.made c.in_default.is

pub returns-clause-worker : goal.returns-clause-worker
returns-clause-worker g c =
    let made = rw c.in-Some.is at c.in_ok-leased.ensures.made in
    any_worker c.args.book.now c.lease_any.new.self c.args.w c.requires.first.place c.is_sound.ensures.tiling c.in-Some.leased
    c.lease_of.result c.args.runner c.lease_of.ensures c.requires.first.runner (sym c.requires.first.first) made

pub returns-clause-holds : goal.returns-clause-holds
returns-clause-holds g c =
    let made = rw c.in-Some.is at c.in_ok-leased.ensures.made in
    any_holds c.args.book.now c.lease_any.new.self c.args.w c.requires.first.place c.is_sound.ensures.tiling c.in-Some.leased
    c.lease_of.result c.args.runner c.lease_of.ensures c.requires.first.runner (sym c.requires.first.first) made
