use Rattle.std.proofs.Common.{ℕ, List, sym, subst, ◌∙◌}
use Rattle.polylab_engine.specs.Outcome.{debug_outcome, HasOutcome}
use Rattle.polylab_engine.proofs.DebugLemmas.{replies_are}
use Rattle.polylab_engine.proofs.workers.TogetherAnswering.answer.Goals as goal

pub returns-in-Some-clause-outcome : goal.returns-in-Some-clause-outcome
returns-in-Some-clause-outcome g c =
    replies_are c.args.input.items c.replies.result c.args.job c.in-Some.kind (sym c.debugged.ensures ∙ c.in-Some.is)
    (subst (λ (bytes : List ℕ). HasOutcome c.replies.result (debug_outcome c.in-Some.kind bytes)) c.deref.ensures.value (c.requires.4 _ _ _ _ c.replies.ensures))
