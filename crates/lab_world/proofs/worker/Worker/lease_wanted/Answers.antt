use Rattle.std.proofs.Common.{sym, ◌∙◌}
use Rattle.lab_world.proofs.LeaseLemmas.{lease_refused, lease_worker, lease_holds}
use Rattle.lab_world.proofs.worker.Worker.lease_wanted.Goals as goal

pub refusal-requires : goal.refusal-requires
refusal-requires g c = lease_refused c.args.book.now c.asked.new.book c.args.w c.args.wanted c.args.id c.asked.result
    (sym c.in_default.is ∙ c.wanted_place.ensures) c.asked.ensures.made

pub returns-clause-worker : goal.returns-clause-worker
returns-clause-worker g c =
    lease_worker c.args.book.now _ c.args.w c.in-Some.place c.runner_of.ensures.tiling c.in-Ok-asked.leased c.lease_of.result c.in-Ok.runner
    c.lease_of.ensures c.in-Ok.ensures.runner c.args.wanted c.args.id (sym c.in-Some.is ∙ c.wanted_place.ensures)
    c.in-Ok-asked.ensures.made

pub returns-clause-holds : goal.returns-clause-holds
returns-clause-holds g c =
    lease_holds c.args.book.now _ c.args.w c.in-Some.place c.runner_of.ensures.tiling c.in-Ok-asked.leased c.lease_of.result c.in-Ok.runner
    c.lease_of.ensures c.in-Ok.ensures.runner c.args.wanted c.args.id (sym c.in-Some.is ∙ c.wanted_place.ensures)
    c.in-Ok-asked.ensures.made
