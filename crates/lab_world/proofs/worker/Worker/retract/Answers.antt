use Rattle.std.proofs.Common.{sym}
use Rattle.lab_world.proofs.PostLemmas.{retract_refused_holds, retract_reopens, retract_done}
use Rattle.lab_world.proofs.worker.Worker.retract.Goals as goal

pub returns-in-Err-clause-holds : goal.returns-in-Err-clause-holds
returns-in-Err-clause-holds g c =
    let held = rw (← c.self.view_is) at c.requires in
    rw (← c.self.view_is)
    (retract_refused_holds c.args.book.now c.retract.new.self (record { grant = c.self.inside.lease; runner = c.self.inside.runner })
    c.is_sound.ensures.tiling c.in-Err.fault c.in-Err.ensures.refused held)

pub unreachable-requires : goal.unreachable-requires
unreachable-requires g c =
    let held = rw (← c.self.view_is) at c.requires in
    retract_reopens c.args.book.now c.retract.new.self (record { grant = c.self.inside.lease; runner = c.self.inside.runner })
    c.is_sound.ensures.tiling held c.self.inside.lease.worker c.in-Ok.stretch c.unposted.result c.in_default.field-0.fault
    c.is_sound-2.ensures.runner c.unposted.ensures c.if-unposted-gt0.false c.in-Ok.ensures.made c.in-Ok.ensures.problem
    c.in_default.ensures.refused

pub returns-clause-holds : goal.returns-clause-holds
returns-clause-holds g c =
    let held = rw (← c.self.view_is) at c.requires in
    retract_done c.args.book.now c.retract.new.self c.self.inside.lease c.self.inside.runner c.is_sound.ensures.tiling c.reopen.new.self
    c.in-Ok.stretch.from c.in-Ok.stretch.to c.in-Ok-reopen.ensures.reopened c.in-Ok.ensures.made held

pub returns-clause-reply : goal.returns-clause-reply
returns-clause-reply g c =
    rw (← c.self.view_is) (c.in-Ok.stretch.from, c.in-Ok.stretch.to, sym c.in-Ok.ensures.made.reply)
