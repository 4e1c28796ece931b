use Rattle.std.proofs.Common.{arith, length, ◌≡◌}
use Rattle.x_steps.proofs.MachineLemmas.{ends, leaves, goes, kept_at}
use Rattle.x_steps.proofs.machine.Machine.leave.Goals as goal

pub invariant_of-self : goal.invariant_of-self
invariant_of-self g c =
    let zero : length c.self.inside.state.path.items ≡ 0 = omega (arith, c.in-None.ensures.cases.0, c.self.inside.state.path.ok.0) in
    rw c.go.ensures (ends _ _ _ _ _ _ _ _ c.in-None.ensures.items zero c.pop.ensures.capacity (kept_at c.self.view_is c.requires c.self.invariant)).keeps

pub returns-in-None : goal.returns-in-None
returns-in-None g c =
    let zero : length c.self.inside.state.path.items ≡ 0 = omega (arith, c.in-None.ensures.cases.0, c.self.inside.state.path.ok.0) in
    rw c.go.ensures (goes c.self.view_is c.requires (ends _ _ _ _ _ _ _ _ c.in-None.ensures.items zero c.pop.ensures.capacity (kept_at c.self.view_is c.requires c.self.invariant)))

pub invariant_of-self-in-Some : goal.invariant_of-self-in-Some
invariant_of-self-in-Some g c =
    rw c.go-in-Some.ensures (leaves _ _ _ _ _ _ _ _ _ c.in-Some.ensures.items c.pop.ensures.capacity (kept_at c.self.view_is c.requires c.self.invariant)).keeps

pub returns-in-Some : goal.returns-in-Some
returns-in-Some g c =
    rw c.go-in-Some.ensures (goes c.self.view_is c.requires (leaves _ _ _ _ _ _ _ _ _ c.in-Some.ensures.items c.pop.ensures.capacity (kept_at c.self.view_is c.requires c.self.invariant)))
