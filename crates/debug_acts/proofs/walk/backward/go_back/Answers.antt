use Rattle.std.proofs.Common.{◌≡◌, arith, add-one, refl, ap, ◌∙◌}
use Rattle.debug_acts.specs.Walk.{back_count}
use Rattle.debug_acts.proofs.BackLemmas.{came_to_mark, all_asked, went_leads, went_stands, went_seat, went_on}
use Rattle.debug_acts.proofs.walk.backward.go_back.Goals as goal

pub returns-in_default-clause-count : goal.returns-in_default-clause-count
returns-in_default-clause-count g c = came_to_mark _ _ _ c.loop-gone.invariant c.args.most (omega arith) c.in_default.ensures.at_mark

pub returns-in_default-clause-acts : goal.returns-in_default-clause-acts
returns-in_default-clause-acts g c =
    went_leads _ _ _ c.loop-gone.invariant c.back.new.self _ c.in_default.ensures.unchanged
    (came_to_mark _ _ _ c.loop-gone.invariant c.args.most (omega arith) c.in_default.ensures.at_mark)

pub returns-in_default-clause-stands : goal.returns-in_default-clause-stands
returns-in_default-clause-stands g c =
    went_stands _ _ _ c.loop-gone.invariant c.back.new.self _ c.in_default.ensures.unchanged
    (came_to_mark _ _ _ c.loop-gone.invariant c.args.most (omega arith) c.in_default.ensures.at_mark)

pub returns-in_default-clause-seat : goal.returns-in_default-clause-seat
returns-in_default-clause-seat g c = went_seat _ _ _ c.loop-gone.invariant c.back.new.self c.in_default.ensures.unchanged

pub loop-gone-preserved : goal.loop-gone-preserved
loop-gone-preserved g c = rw add-one (went_on _ _ _ c.loop-gone.invariant c.back.new.self c.in-Ok.ensures.can c.in-Ok.ensures.state c.in-Ok.ensures.holds)

pub returns-clause-acts : goal.returns-clause-acts
returns-clause-acts g c =
    let e : c.loop-gone.gone ≡ c.args.most = omega arith in
    went_leads _ _ _ c.loop-gone.invariant _ _ refl (all_asked _ _ _ c.loop-gone.invariant ∙ ap (back_count c.args.worker.now.runner) e)

pub returns-clause-stands : goal.returns-clause-stands
returns-clause-stands g c =
    let e : c.loop-gone.gone ≡ c.args.most = omega arith in
    went_stands _ _ _ c.loop-gone.invariant _ _ refl (all_asked _ _ _ c.loop-gone.invariant ∙ ap (back_count c.args.worker.now.runner) e)

pub returns-clause-seat : goal.returns-clause-seat
returns-clause-seat g c = went_seat _ _ _ c.loop-gone.invariant _ refl
