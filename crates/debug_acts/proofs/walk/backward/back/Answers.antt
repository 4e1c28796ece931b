use Rattle.std.proofs.Common.{◌≡◌, Some, replicate, ap, ◌∙◌, arith}
use Rattle.x_branches.specs.Runner.{unposted_steps}
use Rattle.lab_world.specs.declared.event.Act.TheVariants.{Back}
use Rattle.debug_acts.specs.Walk.{back_count}
use Rattle.debug_acts.proofs.LeadLemmas.{plays_all}
use Rattle.debug_acts.proofs.BackLemmas.{none_back_plays}
use Rattle.debug_acts.proofs.walk.backward.back.Goals as goal

pub returns-then-unposted-eq0-clause-acts : goal.returns-then-unposted-eq0-clause-acts
returns-then-unposted-eq0-clause-acts g c =
    let none : unposted_steps c.args.worker.now.runner ≡ 0 = omega (arith, c.unposted.ensures ∙ ap unposted_steps c.runner-2.ensures) in
    none_back_plays c.write_debug_fault.result c.args.worker.now c.args.most none

pub returns-clause-acts : goal.returns-clause-acts
returns-clause-acts g c = λ b.
    plays_all b b (Some c.args.worker.now) (Some c.go_back-moved.new.worker) c.write_moved.result
    (replicate (back_count c.args.worker.now.runner c.args.most) Back) (c.go_back-moved.ensures.acts b)
