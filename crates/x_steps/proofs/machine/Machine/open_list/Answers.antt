use Rattle.std.proofs.Common.{sym, ◌∙◌}
use Rattle.x_steps.proofs.MachineLemmas.{opens, opens_covers, goes, kept_at, chosen_for}
use Rattle.x_steps.proofs.machine.Machine.open_list.Goals as goal

pub cover-requires : goal.cover-requires
cover-requires g c = let w = opens_covers _ _ _ _ _ _ _ (c.requires.item ∙ sym (chosen_for c.self.view_is c.requires.label c.self.invariant)) (kept_at c.self.view_is c.requires.label c.self.invariant) in record { some = w.some; within = w.within; uncovered = w.uncovered }

pub first_option-requires-clause-some : goal.first_option-requires-clause-some
first_option-requires-clause-some g c = (opens_covers _ _ _ _ _ _ _ (c.requires.item ∙ sym (chosen_for c.self.view_is c.requires.label c.self.invariant)) (kept_at c.self.view_is c.requires.label c.self.invariant)).some

pub first_option-requires-clause-within : goal.first_option-requires-clause-within
first_option-requires-clause-within g c = rw c.cover.ensures.same_problem (opens_covers _ _ _ _ _ _ _ (c.requires.item ∙ sym (chosen_for c.self.view_is c.requires.label c.self.invariant)) (kept_at c.self.view_is c.requires.label c.self.invariant)).within

pub invariant_of-self : goal.invariant_of-self
invariant_of-self g c = rw c.go.ensures (opens _ _ _ _ _ _ _ _ _ _ _ (c.requires.item ∙ sym (chosen_for c.self.view_is c.requires.label c.self.invariant)) c.cover.ensures.same_problem c.cover.ensures.covered c.first_option.ensures c.cursor_at-cursor.ensures (kept_at c.self.view_is c.requires.label c.self.invariant)).keeps

pub returns : goal.returns
returns g c = rw c.go.ensures (goes c.self.view_is c.requires.label (opens _ _ _ _ _ _ _ _ _ _ _ (c.requires.item ∙ sym (chosen_for c.self.view_is c.requires.label c.self.invariant)) c.cover.ensures.same_problem c.cover.ensures.covered c.first_option.ensures c.cursor_at-cursor.ensures (kept_at c.self.view_is c.requires.label c.self.invariant)))
