use Rattle.std.proofs.Common.{sym, ◌∙◌}
use Rattle.lab_world.proofs.LeaseLemmas.{none_leased, none_worker}
use Rattle.lab_world.proofs.worker.Worker.lease_any.Goals as goal

pub none_leased-requires : goal.none_leased-requires
none_leased-requires g c =
    none_leased c.args.book.now c.lease_any.new.self c.args.w c.in_ok-lease_any.field-0 (sym c.in_default.is ∙ c.first_waiting.ensures)
    c.in_ok-lease_any.ensures.made

pub returns-in_default-clause-worker : goal.returns-in_default-clause-worker
returns-in_default-clause-worker g c = none_worker c.args.book.now c.args.w (sym c.in_default.is ∙ c.first_waiting.ensures)

pub lease_with-requires-clause-first : goal.lease_with-requires-clause-first
lease_with-requires-clause-first g c = record {
  place = c.in-Some.place;
  first = sym (sym c.in-Some.is ∙ c.first_waiting.ensures);
  runner = c.in_ok-runner.ensures.runner;
}
