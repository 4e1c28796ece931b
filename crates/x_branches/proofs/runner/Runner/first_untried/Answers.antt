use Rattle.std.proofs.Common.{◌≡◌, ℕ, length, sym, ap, ◌∙◌, arith}
use Rattle.std.specs.List.{slice_get}
use Rattle.x_branches.specs.Branch.{end_of}
use Rattle.x_branches.specs.Untried.{untried}
use Rattle.x_branches.proofs.RunnerLemmas.{position_fits}
use Rattle.x_branches.proofs.UntriedLemmas.{covered_within}
use Rattle.x_branches.proofs.FirstLemmas.{valid_front, sought_begin, sought_more, none_at_cursor}
use Rattle.x_branches.proofs.runner.Runner.first_untried.Goals as goal

pub covered_count-covered-requires : goal.covered_count-covered-requires
covered_count-covered-requires g c =
    let fits = position_fits _ _ _ _ c.self.invariant in
    rw (c.problem.ensures, c.split_at.ensures.front, c.path-path.ensures, c.covered.ensures, ← c.self.view_is)
    (record { valid = valid_front _ _ c.shared-parted.result fits; within = covered_within _ _ c.shared-parted.result fits })

pub seeking-init : goal.seeking-init
seeking-init g c =
    let shared = rw (c.path-path.ensures, c.end_choices.ensures, ← c.self.view_is) at c.shared-parted.ensures in
    let count = rw (c.problem.ensures, c.split_at.ensures.front, c.path-path.ensures, ← c.self.view_is) at c.covered_count-covered.ensures in
    rw (← c.self.view_is) (sought_begin _ _ (position_fits _ _ _ _ c.self.invariant) c.self.inside.branch.hi _ _ c.self.invariant.end_fits shared count)

pub seeking-preserved : goal.seeking-preserved
seeking-preserved g c =
    let sought = rw (← c.self.view_is) at c.seeking.invariant in
    let none = rw (← c.self.view_is) at (sym c.in_default.is ∙ c.first_at.ensures) in
    let count = rw (← c.self.view_is) at c.pass_level-item.ensures.covered in
    rw (← c.self.view_is) (sought_more _ _ (position_fits _ _ _ _ c.self.invariant) _ _ _ sought _ none count)

pub returns-in-None-clause-none : goal.returns-in-None-clause-none
returns-in-None-clause-none g c none =
    let sought = rw (← c.self.view_is) at c.seeking.invariant in
    let size = ap (length {A = ℕ}) (rw (← c.self.view_is) at c.path-path.ensures) in
    let last : length c.path-path.result.now ≡ c.seeking.level = omega (arith, c.seeking-test.false, c.seeking.auto.level-end) in
    let here = rw (← c.self.view_is) at (sym c.in-None.is ∙ c.first_in.ensures) in
    rw (← c.self.view_is) (none_at_cursor _ _ (position_fits _ _ _ _ c.self.invariant) _ _ _ sought (sym last ∙ size)
    (here ∙ (λ j. slice_get (untried c.self.inside.machine.problem (end_of c.self.inside.branch.hi) (last j) c.self.inside.machine.state) 0)))
