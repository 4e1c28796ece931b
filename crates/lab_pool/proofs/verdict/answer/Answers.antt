use Rattle.std.proofs.Common.{Result, Ok, Err, List, inl, inr, sym, drop, subst, ◌∙◌, arith}
use Rattle.std.proofs.lemmas.Bool.{false≢true}
use Rattle.cover_problem.specs.declared.fault.Refused.{Refused}
use Rattle.cover_problem.specs.Answers.{IfRefused}
use Rattle.lab_history.specs.declared.entry.Entry.{Entry}
use Rattle.lab_book_laws.specs.Searched.{ArePoolCalls}
use Rattle.lab_pool.proofs.verdict.answer.Goals.{then-leased-gt0-via-then-leased-gt0, then-leased-gt0-via-else-leased-gt0+then-not-are_pool_calls}
use Rattle.lab_pool.proofs.verdict.answer.Goals as goal

pub returns-then-leased-gt0-clause-unexplained : goal.returns-then-leased-gt0-clause-unexplained
returns-then-leased-gt0-clause-unexplained c = λ e. elim c.then-leased-gt0.branch [
  | then-leased-gt0-via-then-leased-gt0 w ↦ inl (inl (omega (arith, w.if-leased-gt0.true, c.leased.ensures)))
  | then-leased-gt0-via-else-leased-gt0+then-not-are_pool_calls w ↦ inl (inr (λ calls.
      false≢true (sym w.if-not-are_pool_calls.true ∙ w.are_pool_calls.ensures.1
      (subst (λ (es : List Entry). ArePoolCalls (drop c.args.from es)) (sym w.history.ensures.history) calls))))
]

-- what is true is so where a call is refused
refused_so : {X F G : Type 0} (r : Result X (Refused F G)) (f : F) (claim : Type 0) → claim → IfRefused r f claim
refused_so (Ok x) f claim p = tt
refused_so (Err e) f claim p = λ h. p

pub returns-then-waiting-eq0-clause-held : goal.returns-then-waiting-eq0-clause-held
returns-then-waiting-eq0-clause-held c =
    refused_so _ _ _ (record {
      calls = subst (λ (es : List Entry). ArePoolCalls (drop c.args.from es)) c.history.ensures.history
          (c.are_pool_calls.ensures.0 c.if-not-are_pool_calls.false);
      none_waits = omega (arith, c.waiting.ensures, c.if-waiting-eq0.true);
      none_leased = omega (arith, c.leased.ensures, c.if-leased-gt0.false);
    })
