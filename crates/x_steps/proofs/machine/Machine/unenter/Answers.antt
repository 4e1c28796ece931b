use Rattle.std.proofs.Common.{arith, refl, length, ◌≡◌}
use Rattle.x_steps.proofs.BackLemmas.{to_start, as_taken, to_option, goes_back}
use Rattle.x_steps.proofs.MachineLemmas.{retry_option_in, others_count, can_uncover, kept_at}
use Rattle.x_steps.proofs.machine.Machine.unenter.Goals as goal

pub invariant_of-self : goal.invariant_of-self
invariant_of-self g c =
    let zero : length c.self.inside.state.path.items ≡ 0 = omega (arith, c.in-None.ensures.cases.0, c.self.inside.state.path.ok.0) in
    rw c.go.ensures (to_start _ _ _ _ _ _ _ _ c.in-None.ensures.items zero c.pop.ensures.capacity (kept_at c.self.view_is c.requires c.self.invariant)).keeps

pub option-requires : goal.option-requires
option-requires g c =
    let taken = as_taken _ _ _ _ _ _ _ _ c.in-Some.ensures.items (kept_at c.self.view_is c.requires c.self.invariant) in
    let w = retry_option_in _ _ _ _ _ _ _ refl taken in record { some = w.0; within = w.1 }

pub overflow_sub-others : goal.overflow_sub-others
overflow_sub-others g c =
    let taken = as_taken _ _ _ _ _ _ _ _ c.in-Some.ensures.items (kept_at c.self.view_is c.requires c.self.invariant) in
    let count = others_count _ _ _ _ _ _ _ refl taken in rw c.option.ensures (omega arith)

pub uncover_last-requires : goal.uncover_last-requires
uncover_last-requires g c =
    let taken = as_taken _ _ _ _ _ _ _ _ c.in-Some.ensures.items (kept_at c.self.view_is c.requires c.self.invariant) in
    can_uncover _ _ _ _ _ _ _ refl c.option.ensures taken

pub invariant_of-self-in-Some : goal.invariant_of-self-in-Some
invariant_of-self-in-Some g c =
    let here = kept_at c.self.view_is c.requires c.self.invariant in
    let taken = as_taken _ _ _ _ _ _ _ _ c.in-Some.ensures.items here in
    rw c.go-in-Some.ensures (to_option _ _ _ _ _ _ _ _ _ _ _ c.in-Some.ensures.items c.pop.ensures.capacity c.uncover_last.ensures.same_problem c.option.ensures c.uncover_last.ensures.covered here).keeps

pub returns-in-None : goal.returns-in-None
returns-in-None g c =
    let zero : length c.self.inside.state.path.items ≡ 0 = omega (arith, c.in-None.ensures.cases.0, c.self.inside.state.path.ok.0) in
    rw c.go.ensures (goes_back c.self.view_is c.requires tt (to_start _ _ _ _ _ _ _ _ c.in-None.ensures.items zero c.pop.ensures.capacity (kept_at c.self.view_is c.requires c.self.invariant)))

pub returns-in-Some : goal.returns-in-Some
returns-in-Some g c =
    let here = kept_at c.self.view_is c.requires c.self.invariant in
    let taken = as_taken _ _ _ _ _ _ _ _ c.in-Some.ensures.items here in
    rw c.go-in-Some.ensures (goes_back c.self.view_is c.requires tt (to_option _ _ _ _ _ _ _ _ _ _ _ c.in-Some.ensures.items c.pop.ensures.capacity c.uncover_last.ensures.same_problem c.option.ensures c.uncover_last.ensures.covered here))
