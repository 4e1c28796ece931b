use Rattle.std.proofs.Common.{◌≡◌, length, arith, ap}
use Rattle.x_steps.proofs.MovingLemmas.{on_problem, on_the_path, on_its_own, some_left, rose, rise_from, rise_ended}
use Rattle.x_steps.proofs.machine.Machine.rise_to.Goals as goal

pub rise-requires-clause-on : goal.rise-requires-clause-on
rise-requires-clause-on g c = on_its_own _ _ _ c.loop.invariant

pub rise-requires-clause-some : goal.rise-requires-clause-some
rise-requires-clause-some g c =
    let items = ap (λ m. length m.state.path) c.self.view_is in
    let size : length c.args.self.now.state.path ≡ c.len.result = omega (arith, items, c.len.ensures, c.self.inside.state.path.ok.0) in
    some_left _ _ _ _ _ (on_the_path _ _ _ c.loop.invariant) size c.loop-test.true

pub loop-init : goal.loop-init
loop-init g c = rise_from _ _ _ c.requires.on

pub loop-preserved : goal.loop-preserved
loop-preserved g c =
    let items = ap (λ m. length m.state.path) c.self.view_is in
    let size : length c.args.self.now.state.path ≡ c.len.result = omega (arith, items, c.len.ensures, c.self.inside.state.path.ok.0) in
    rose _ _ _ _ _ _ _ _ (on_problem _ _ _ c.loop.invariant) (on_the_path _ _ _ c.loop.invariant) size c.loop-test.true c.rise.ensures

pub returns : goal.returns
returns g c =
    let items = ap (λ m. length m.state.path) c.self.view_is in
    let size : length c.args.self.now.state.path ≡ c.len.result = omega (arith, items, c.len.ensures, c.self.inside.state.path.ok.0) in
    rise_ended _ _ _ _ _ _ c.requires.within size c.loop.auto.counter-end c.loop-test.false c.loop.invariant
