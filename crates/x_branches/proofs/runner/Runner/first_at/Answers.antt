use Rattle.std.proofs.Common.{sym, ◌∙◌}
use Rattle.std.proofs.lemmas.Option.{slice_get_within}
use Rattle.cover_problem.proofs.RemainingLemmas.{list_rises}
use Rattle.x_steps.specs.declared.state.Label.TheVariants.{X5}
use Rattle.x_steps.specs.declared.state.Cursor.TheVariants.{At}
use Rattle.x_steps.specs.StateValue.{at}
use Rattle.x_steps.specs.Steps.{Fits}
use Rattle.x_branches.specs.Branch.{end_of}
use Rattle.x_branches.proofs.RunnerLemmas.{position_fits}
use Rattle.x_branches.proofs.UntriedLemmas.{at_level}
use Rattle.x_branches.proofs.FirstLemmas.{none_left_above, first_inside, none_inside, first_fits}
use Rattle.x_branches.proofs.runner.Runner.first_at.Goals as goal

pub next_option-requires : goal.next_option-requires
next_option-requires g c =
    let l = at_level _ _ _ _ c.self.invariant.sound (position_fits _ _ _ _ c.self.invariant) (rw (← c.self.view_is) at c.requires.choice) in
    rw (c.table.ensures.same_problem, c.table.ensures.covered, c.requires.item, ← c.self.view_is) l.member

pub returns-in_default : goal.returns-in_default
returns-in_default g c =
    let p = c.self.inside.machine.problem in
    let s = c.self.inside.machine.state in
    let end = end_of c.self.inside.branch.hi in
    let l = at_level _ _ _ _ c.self.invariant.sound (position_fits _ _ _ _ c.self.invariant) (rw (← c.self.view_is) at c.requires.choice) in
    let next = rw (c.table.ensures.same_problem, c.table.ensures.covered, c.requires.item, ← c.self.view_is) at c.in_default.ensures in
    rw (← c.self.view_is) (none_left_above p end s c.args.level c.args.choice _ l.left next)

pub front-requires : goal.front-requires
front-requires g c = slice_get_within _ _ _ (sym c.requires.choice)

pub returns-then-is_cut_inside : goal.returns-then-is_cut_inside
returns-then-is_cut_inside g c =
    let p = c.self.inside.machine.problem in
    let s = c.self.inside.machine.state in
    let end = end_of c.self.inside.branch.hi in
    let fits = position_fits _ _ _ _ c.self.invariant in
    let choice = rw (← c.self.view_is) at c.requires.choice in
    let l = at_level p s c.args.level c.args.choice c.self.invariant.sound fits choice in
    let next = rw (c.table.ensures.same_problem, c.table.ensures.covered, c.requires.item, ← c.self.view_is) at c.in-Some.ensures in
    let fits_there = first_fits p end s c.args.level c.args.choice _ l.left _ fits choice next in
    let here : Fits p (at X5 c.front.result.now (At c.in-Some.option)) = rw (c.front.ensures, ← c.self.view_is) fits_there in
    let test = rw (c.front.ensures, ← c.self.view_is) at (c.is_cut_inside.ensures p c.self.invariant.inside.branch.high here) in
    rw (← c.self.view_is) (first_inside p end s c.args.level c.args.choice _ l.left _ next (sym test ∙ c.if-is_cut_inside.true))

pub returns-else-is_cut_inside : goal.returns-else-is_cut_inside
returns-else-is_cut_inside g c =
    let p = c.self.inside.machine.problem in
    let s = c.self.inside.machine.state in
    let end = end_of c.self.inside.branch.hi in
    let fits = position_fits _ _ _ _ c.self.invariant in
    let choice = rw (← c.self.view_is) at c.requires.choice in
    let l = at_level p s c.args.level c.args.choice c.self.invariant.sound fits choice in
    let next = rw (c.table.ensures.same_problem, c.table.ensures.covered, c.requires.item, ← c.self.view_is) at c.in-Some.ensures in
    let fits_there = first_fits p end s c.args.level c.args.choice _ l.left _ fits choice next in
    let here : Fits p (at X5 c.front.result.now (At c.in-Some.option)) = rw (c.front.ensures, ← c.self.view_is) fits_there in
    let test = rw (c.front.ensures, ← c.self.view_is) at (c.is_cut_inside.ensures p c.self.invariant.inside.branch.high here) in
    rw (← c.self.view_is) (none_inside p end s c.args.level c.args.choice _ l.left 1 _ fits c.self.invariant.end_fits (list_rises _ _ _) choice next (sym test ∙ c.if-is_cut_inside.false))
