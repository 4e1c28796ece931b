use Rattle.x_steps.proofs.BackLemmas.{option_within, option_has, can_retake, to_open, to_retry, came_in, goes_back}
use Rattle.x_steps.proofs.MachineLemmas.{some_chosen, kept_at}
use Rattle.x_steps.proofs.machine.Machine.return_to.Goals as goal

pub last_covered-item-requires : goal.last_covered-item-requires
last_covered-item-requires g c = some_chosen _ _ _ _ _ _ (kept_at c.self.view_is c.requires.label c.self.invariant)

pub invariant_of-self : goal.invariant_of-self
invariant_of-self g c =
    let came = came_in c.self.view_is c.requires.label c.requires.came c.in-None.is in
    rw c.go.ensures (to_open _ _ _ _ _ _ _ c.last_covered-item.ensures _ _ came c.uncover.ensures.same_problem c.uncover.ensures.covered (kept_at c.self.view_is c.requires.label c.self.invariant)).keeps

pub option-requires : goal.option-requires
option-requires g c =
    let came = came_in c.self.view_is c.requires.label c.requires.came c.in-Some.is in
    let w = option_within _ _ _ _ _ _ _ c.last_covered-item.ensures _ came (kept_at c.self.view_is c.requires.label c.self.invariant) in record { some = w.0; within = w.1 }

pub cover_others-requires : goal.cover_others-requires
cover_others-requires g c =
    let came = came_in c.self.view_is c.requires.label c.requires.came c.in-Some.is in
    record {
      member = rw c.option.ensures (option_has _ _ _ _ _ _ _ c.last_covered-item.ensures _ came (kept_at c.self.view_is c.requires.label c.self.invariant));
      can = rw c.option.ensures (can_retake _ _ _ _ _ _ _ c.last_covered-item.ensures _ came (kept_at c.self.view_is c.requires.label c.self.invariant));
    }

pub invariant_of-self-in-Some : goal.invariant_of-self-in-Some
invariant_of-self-in-Some g c =
    let came = came_in c.self.view_is c.requires.label c.requires.came c.in-Some.is in
    rw c.go-in-Some.ensures (to_retry _ _ _ _ _ _ _ c.last_covered-item.ensures _ came _ _ c.cover_others.ensures.same_problem (rw c.option.ensures at c.cover_others.ensures.covered) (kept_at c.self.view_is c.requires.label c.self.invariant)).keeps

pub returns-in-None : goal.returns-in-None
returns-in-None g c =
    let came = came_in c.self.view_is c.requires.label c.requires.came c.in-None.is in
    rw c.go.ensures (goes_back c.self.view_is c.requires.label tt (to_open _ _ _ _ _ _ _ c.last_covered-item.ensures _ _ came c.uncover.ensures.same_problem c.uncover.ensures.covered (kept_at c.self.view_is c.requires.label c.self.invariant)))

pub returns-in-Some : goal.returns-in-Some
returns-in-Some g c =
    let came = came_in c.self.view_is c.requires.label c.requires.came c.in-Some.is in
    rw c.go-in-Some.ensures (goes_back c.self.view_is c.requires.label tt (to_retry _ _ _ _ _ _ _ c.last_covered-item.ensures _ came _ _ c.cover_others.ensures.same_problem (rw c.option.ensures at c.cover_others.ensures.covered) (kept_at c.self.view_is c.requires.label c.self.invariant)))
