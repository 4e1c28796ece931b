use Rattle.std.proofs.Common.{◌≡◌, length, arith, refl, ◌∙◌}
use Rattle.std.proofs.lemmas.Bool.{false≢true}
use Rattle.x_steps.proofs.WalkLemmas.{lent_whole}
use Rattle.x_branches.proofs.RunnerLemmas.{level_in, count_small, goes_on, advanced}
use Rattle.x_branches.proofs.runner.Runner.advance.Goals as goal

pub note-requires : goal.note-requires
note-requires g c = record {
  within = level_in _ _ _ _ c.self.invariant _ c.deref_mut.ensures.value;
  small = λ _. count_small _ _ _ _ c.self.invariant _ c.deref_mut.ensures.value c.if-self.false (omega arith);
}

pub unreachable-requires : goal.unreachable-requires
unreachable-requires g c =
    let other = rw (← c.self.view_is) at c.if-is_at_end.ensures.1 in
    goes_on _ _ _ _ c.self.invariant (λ e. false≢true (other e)) (c.in_default-step.ensures.over.0 refl)

pub invariant_of-self-2 : goal.invariant_of-self-2
invariant_of-self-2 g c =
    let other = rw (← c.self.view_is) at c.if-is_at_end.ensures.1 in
    let same : length c.note.new.counts ≡ length c.self.inside.counts.items = omega arith in
    let all = lent_whole c.self.inside.counts.len c.note.new.counts c.self.inside.counts.items same c.self.inside.counts.ok.0 in
    advanced _ _ _ _ c.self.invariant (λ e. false≢true (other e)) _ _ _ _ _ c.in-Ok-step.ensures.problem c.in-Ok-step.ensures.state refl c.in-Ok.ensures.visits (all ∙ rw c.deref_mut.ensures.value at c.in-Ok.ensures.counts)
