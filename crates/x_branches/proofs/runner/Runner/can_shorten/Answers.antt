use Rattle.std.proofs.Common.{◌≡◌, refl, sym, ◌∙◌}
use Rattle.x_steps.specs.Steps.{Fits}
use Rattle.x_branches.specs.Cut.{cut_state}
use Rattle.x_branches.proofs.BranchLemmas.{shorten_tested}
use Rattle.x_branches.proofs.runner.Runner.can_shorten.Goals as goal

pub returns : goal.returns
returns g c =
    let p = c.self.inside.machine.problem in
    let same : c.args.cut.now.problem ≡ c.self.inside.machine.problem = sym c.problem.ensures ∙ c.if-not-same.ensures.equal.0 refl ∙ c.problem-2.ensures in
    let here : c.of.result ≡ c.self.inside.machine.state = c.of.ensures ∙ c.state.ensures.state in
    let position_fits : Fits p c.of.result = rw here c.state.ensures.fits in
    let cut_fits : Fits p (cut_state c.args.cut.now.path) = rw (← same) c.position.ensures.fits in
    let first_fits : Fits p c.position.result = rw c.position.ensures.position cut_fits in
    let second_fits : Fits p c.position-2.result = rw c.position-2.ensures.position cut_fits in
    let end_fits : Fits p c.end.result = rw c.end.ensures.position c.self.invariant.end_fits in
    let later = rw (here, c.position.ensures.position) at ((c.if-not-is_before.ensures p position_fits first_fits).0 refl) in
    let test = rw (c.position-2.ensures.position, c.end.ensures.position) at (c.is_before-2.ensures p second_fits end_fits) in
    rw (← c.self.view_is) (shorten_tested _ _ _ same later test)
