use Rattle.std.proofs.Common.{sym, ap, ◌∙◌}
use Rattle.x_steps.proofs.MachineLemmas.{gives_up, goes, kept_at}
use Rattle.x_steps.proofs.machine.Machine.give_up.Goals as goal

pub invariant_of-self : goal.invariant_of-self
invariant_of-self g c = rw c.go.ensures (gives_up _ _ _ _ _ _ (λ o e. c.requires.cursor o (ap (λ v. v.state.cursor) (sym c.self.view_is) ∙ e)) (kept_at c.self.view_is c.requires.label c.self.invariant)).keeps

pub returns : goal.returns
returns g c = rw c.go.ensures (goes c.self.view_is c.requires.label (gives_up _ _ _ _ _ _ (λ o e. c.requires.cursor o (ap (λ v. v.state.cursor) (sym c.self.view_is) ∙ e)) (kept_at c.self.view_is c.requires.label c.self.invariant)))
