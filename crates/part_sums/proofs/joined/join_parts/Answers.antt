use Rattle.part_sums.specs.declared.fault.JoinFault.{JoinFault}
use Rattle.std.proofs.Common.{ℕ, List, Result, Ok, sym, ap, ap₂, ◌∙◌}
use Rattle.std.proofs.lemmas.Result.{err_from_is_err_and}
use Rattle.text_lines.specs.Writing.{text_of}
use Rattle.cover_problem.specs.Problem.{ProblemValue}
use Rattle.part_sums.specs.Answers.{CountsValue, sum_lines}
use Rattle.part_sums.proofs.JoinLemmas.{all_taken}
use Rattle.part_sums.proofs.RefusalLemmas.{parts_refused, last_refused}
use Rattle.part_sums.proofs.FoundLemmas.{sum_found, part_fault_found, end_fault_found}
use Rattle.part_sums.proofs.joined.join_parts.Goals as goal

pub returns-in_err-take_parts-clause-refused : goal.returns-in_err-take_parts-clause-refused
returns-in_err-take_parts-clause-refused c =
    let p = err_from_is_err_and c.from_residual-in_err-take_parts.result c.from_residual-in_err-take_parts.ensures.1 in
    rw (p.1, p.2)
    (parts_refused c.args.text.now c.args.parts.now _ c.args.whole.now _ c.requires (c.deref.ensures.value ∙ c.in_ok-head.ensures) c.in_ok-joining.ensures c.in_err-take_parts.field-0.0 c.in_err-take_parts.ensures.refused).0

pub returns-in_err-take_parts-clause-line : goal.returns-in_err-take_parts-clause-line
returns-in_err-take_parts-clause-line c =
    let p = err_from_is_err_and c.from_residual-in_err-take_parts.result c.from_residual-in_err-take_parts.ensures.1 in
    rw (p.1, p.2)
    (parts_refused c.args.text.now c.args.parts.now _ c.args.whole.now _ c.requires (c.deref.ensures.value ∙ c.in_ok-head.ensures) c.in_ok-joining.ensures c.in_err-take_parts.field-0.0 c.in_err-take_parts.ensures.refused).1

pub returns-in_err-check_end-clause-refused : goal.returns-in_err-check_end-clause-refused
returns-in_err-check_end-clause-refused c =
    let p = err_from_is_err_and c.from_residual-in_err-check_end.result c.from_residual-in_err-check_end.ensures.1 in
    rw (p.1, p.2)
    (last_refused c.args.text.now c.args.parts.now _ c.args.whole.now _ c.requires (c.deref.ensures.value ∙ c.in_ok-head.ensures) c.in_ok-joining.ensures _ c.in_err-check_end.field-0.0 c.in_ok-take_parts.ensures.taken c.in_err-check_end.ensures.refused).0

pub returns-in_err-check_end-clause-line : goal.returns-in_err-check_end-clause-line
returns-in_err-check_end-clause-line c =
    let p = err_from_is_err_and c.from_residual-in_err-check_end.result c.from_residual-in_err-check_end.ensures.1 in
    rw (p.1, p.2)
    (last_refused c.args.text.now c.args.parts.now _ c.args.whole.now _ c.requires (c.deref.ensures.value ∙ c.in_ok-head.ensures) c.in_ok-joining.ensures _ c.in_err-check_end.field-0.0 c.in_ok-take_parts.ensures.taken c.in_err-check_end.ensures.refused).1

pub returns-clause-sum : goal.returns-clause-sum
returns-clause-sum c =
    let t = c.in_ok-take_parts.ensures.taken in
    let q = all_taken c.args.text.now c.args.parts.now _ c.args.whole.now _ _ t.0 c.requires (c.deref.ensures.value ∙ c.in_ok-head.ensures) c.in_ok-joining.ensures t.1 c.in_ok-check_end.ensures.ended in
    (q.0, q.1, c.in_ok-lines.ensures ∙ ap₂ (λ (p : ProblemValue) (s : CountsValue). text_of (sum_lines c.args.counted p s)) c.problem.ensures.problem (c.counts.ensures ∙ q.2))

pub returns-in_err-take_parts-clause-found : goal.returns-in_err-take_parts-clause-found
returns-in_err-take_parts-clause-found c =
    let p = err_from_is_err_and c.from_residual-in_err-take_parts.result c.from_residual-in_err-take_parts.ensures.1 in
    rw (p.1, p.2)
    (part_fault_found c.args.text.now c.args.parts.now _ c.args.whole.now _ c.requires (c.deref.ensures.value ∙ c.in_ok-head.ensures) c.in_ok-joining.ensures c.args.counted c.in_err-take_parts.field-0.0 c.in_err-take_parts.ensures.refused)

pub returns-in_err-check_end-clause-found : goal.returns-in_err-check_end-clause-found
returns-in_err-check_end-clause-found c =
    let p = err_from_is_err_and c.from_residual-in_err-check_end.result c.from_residual-in_err-check_end.ensures.1 in
    rw (p.1, p.2)
    (end_fault_found c.args.text.now c.args.parts.now _ c.args.whole.now _ c.requires (c.deref.ensures.value ∙ c.in_ok-head.ensures) c.in_ok-joining.ensures c.args.counted _ c.in_err-check_end.field-0.0 c.in_ok-take_parts.ensures.taken c.in_err-check_end.ensures.refused)

pub returns-clause-found : goal.returns-clause-found
returns-clause-found c =
    sum_found c.args.text.now c.args.parts.now _ c.args.whole.now _ c.requires (c.deref.ensures.value ∙ c.in_ok-head.ensures) c.in_ok-joining.ensures c.args.counted _ c.in_ok-take_parts.ensures.taken c.in_ok-check_end.ensures.ended
    ∙ sym (ap (λ lines. found lines) (c.in_ok-lines.ensures ∙ ap₂ (λ (p : ProblemValue) (s : CountsValue). text_of (sum_lines c.args.counted p s)) c.problem.ensures.problem c.counts.ensures))
  where
    found : List ℕ → Result (List ℕ) (JoinFault × ℕ)
    found lines = Ok lines
