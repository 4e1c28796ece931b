use Rattle.std.proofs.Common.{ap, sym, ◌∙◌}
use Rattle.std.specs.List.{slice_get}
use Rattle.std.proofs.lemmas.Option.{slice_get_within}
use Rattle.x_steps.specs.StateValue.{StateValue}
use Rattle.x_branches.specs.Cut.{choices}
use Rattle.x_branches.specs.Branch.{end_of}
use Rattle.x_branches.proofs.UntriedLemmas.{none_without}
use Rattle.x_branches.proofs.runner.Runner.first_in.Goals as goal

pub returns-in_default : goal.returns-in_default
returns-in_default g c =
    let here = c.in_default.ensures ∙ ap (λ (s : StateValue). slice_get (choices s) c.args.level) c.state.ensures.state in
    rw (← c.self.view_is) (none_without c.self.inside.machine.problem (end_of c.self.inside.branch.hi) c.self.inside.machine.state c.args.level here)

pub item_at-requires : goal.item_at-requires
item_at-requires g c =
    let here = c.in-Some.ensures ∙ ap (λ (s : StateValue). slice_get (choices s) c.args.level) c.state.ensures.state in
    rw (← c.self.view_is) (slice_get_within _ _ _ (sym here))
