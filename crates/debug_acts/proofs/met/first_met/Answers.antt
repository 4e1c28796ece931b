use Rattle.std.proofs.Common.{length, sym, ◌∙◌, ap, arith}
use Rattle.debug_acts.proofs.MetLemmas.{met_at_visit, met_at_level, met_at_option, met_nowhere, path_small}
use Rattle.debug_acts.proofs.met.first_met.Goals as goal

pub overflow_cast-level : goal.overflow_cast-level
overflow_cast-level g c =
    let small = path_small c.args.runner.now c.state-state.ensures.problem c.state-state.ensures.runner in
    omega (arith, small, c.len.ensures, c.state-state.result.now.path.ok.0, ap (λ s. length s.path) c.state-state.ensures.state)

pub returns-then-is_visit : goal.returns-then-is_visit
returns-then-is_visit g c =
    c.first_set.ensures ∙ met_at_visit c.args.runner.now.problem c.args.runner.now.position c.args.breaks.now.keys c.len.result
    (omega (arith, c.len.ensures, c.state-state.result.now.path.ok.0, ap (λ s. length s.path) c.state-state.ensures.state)) (ap (λ s. s.label) (sym c.state-state.ensures.state) ∙ c.in-X2-default.is-0)
    (sym c.is_visit.ensures ∙ c.if-is_visit.true)

pub returns-else-is_visit : goal.returns-else-is_visit
returns-else-is_visit g c =
    c.if_set.ensures ∙ met_at_level c.args.runner.now.problem c.args.runner.now.position c.args.breaks.now.keys c.len.result
    (omega (arith, c.len.ensures, c.state-state.result.now.path.ok.0, ap (λ s. length s.path) c.state-state.ensures.state)) (ap (λ s. s.label) (sym c.state-state.ensures.state) ∙ c.in-X2-default.is-0)
    (sym c.is_visit.ensures ∙ c.if-is_visit.false)

pub returns-in-X5-At : goal.returns-in-X5-At
returns-in-X5-At g c =
    c.if_set-in-X5-At.ensures ∙ met_at_option c.args.runner.now.problem c.args.runner.now.position c.args.breaks.now.keys c.in-X5-At.option
    (ap (λ s. s.label) (sym c.state-state.ensures.state) ∙ c.in-X5-At.is-0) (ap (λ s. s.cursor) (sym c.state-state.ensures.state) ∙ c.in-X5-At.is-1)

pub returns-in_default : goal.returns-in_default
returns-in_default g c =
    let state = c.state-state.ensures.state in
    met_nowhere c.args.runner.now.problem c.args.runner.now.position c.args.breaks.now.keys (λ h. c.in_default.not-X2-0 (ap (λ s. s.label) state ∙ h))
    (λ h. c.in_default.not-X4-0 (ap (λ s. s.label) state ∙ h)) (λ h o e. c.in_default.not-At-1 o (ap (λ s. s.cursor) state ∙ e))

pub returns-in_default-2 : goal.returns-in_default-2
returns-in_default-2 g c =
    let state = c.state-state.ensures.state in
    met_nowhere c.args.runner.now.problem c.args.runner.now.position c.args.breaks.now.keys (λ h. c.in_default.not-X2-0 (ap (λ s. s.label) state ∙ h))
    (λ h. c.in_default.not-X4-0 (ap (λ s. s.label) state ∙ h)) (λ h o e. absurd (c.in_default.not-X5-0 (ap (λ s. s.label) state ∙ h)))
