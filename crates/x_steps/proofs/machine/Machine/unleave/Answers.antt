use Rattle.x_steps.proofs.BackLemmas.{covers_again, to_close, to_visit, goes_back}
use Rattle.x_steps.proofs.MachineLemmas.{kept_at}
use Rattle.x_steps.proofs.machine.Machine.unleave.Goals as goal

pub cover-requires : goal.cover-requires
cover-requires g c = let w = covers_again _ _ _ _ _ _ _ c.has_active.ensures c.if-has_active.true _ c.choose-item.ensures (kept_at c.self.view_is c.requires c.self.invariant) in record { some = w.some; within = w.within; uncovered = w.uncovered }

pub invariant_of-self : goal.invariant_of-self
invariant_of-self g c = rw c.go.ensures (to_close _ _ _ _ _ _ _ c.has_active.ensures c.if-has_active.true _ _ _ c.choose-item.ensures c.cover.ensures.same_problem c.cover.ensures.covered (kept_at c.self.view_is c.requires c.self.invariant)).keeps

pub invariant_of-self-else-has_active : goal.invariant_of-self-else-has_active
invariant_of-self-else-has_active g c = rw c.go-else-has_active.ensures (to_visit _ _ _ _ _ _ _ c.has_active.ensures c.if-has_active.false (kept_at c.self.view_is c.requires c.self.invariant)).keeps

pub returns-then-has_active : goal.returns-then-has_active
returns-then-has_active g c = rw c.go.ensures (goes_back c.self.view_is c.requires tt (to_close _ _ _ _ _ _ _ c.has_active.ensures c.if-has_active.true _ _ _ c.choose-item.ensures c.cover.ensures.same_problem c.cover.ensures.covered (kept_at c.self.view_is c.requires c.self.invariant)))

pub returns-else-has_active : goal.returns-else-has_active
returns-else-has_active g c = rw c.go-else-has_active.ensures (goes_back c.self.view_is c.requires tt (to_visit _ _ _ _ _ _ _ c.has_active.ensures c.if-has_active.false (kept_at c.self.view_is c.requires c.self.invariant)))
