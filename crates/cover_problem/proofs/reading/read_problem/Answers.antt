use Rattle.std.proofs.Common.{◌≡◌, ◌∙◌, sym, subst, nat_lt, true, false}
use Rattle.std.proofs.lemmas.Result.{err_from_is_err_and}
use Rattle.text_lines.specs.Lines.{lines_of}
use Rattle.text_lines.specs.Answers.{IsFaultAt}
use Rattle.text_lines.specs.Reading.{lines_read}
use Rattle.text_lines.proofs.ReadingLemmas.{text_refused}
use Rattle.cover_problem.specs.Problem.{ProblemValue}
use Rattle.cover_problem.specs.Reading.{line, nothing, with_items, problem_of}
use Rattle.cover_problem.proofs.TextLemmas.{lines_are, text_with_items, text_without_items}
use Rattle.cover_problem.proofs.reading.read_problem.Goals as goal

pub returns-in_err-draft : goal.returns-in_err-draft
unfolding problem_of
returns-in_err-draft c =
    let p = err_from_is_err_and c.from_residual.result c.from_residual.ensures.1 in
    let lines = lines_of c.args.bytes.now in
    let r = c.in_err-draft.field-0.0 in
    let h : IsFaultAt r (lines_read line nothing lines) = subst (λ (s : ProblemValue). IsFaultAt r (lines_read line s lines)) c.new.ensures c.in_err-draft.ensures.refused in
    rw (p.1, p.2) (text_refused line nothing with_items lines r h)

pub returns-in-Err : goal.returns-in-Err
returns-in-Err c =
    let none : nat_lt 0 c.in_ok-draft.draft.primary ≡ false = sym c.has_items.ensures ∙ c.in-Err.ensures.fault.1 in
    let read = rw c.new.ensures at c.in_ok-draft.ensures.read in
    rw (c.in_line.ensures, c.from.ensures, c.in-Err.ensures.fault.0) (text_without_items c.args.bytes.now c.in_ok-draft.draft read.0 read.1 none)

pub into_problem-requires : goal.into_problem-requires
into_problem-requires c =
    let some : nat_lt 0 c.in_ok-draft.draft.primary ≡ true = sym c.has_items.ensures ∙ c.in-Ok.ensures.holds in
    let read = rw c.new.ensures at c.in_ok-draft.ensures.read in
    let text = lines_are c.args.bytes.now c.in_ok-draft.draft read.0 read.1 some in
    text.problem

pub returns-in-Ok : goal.returns-in-Ok
returns-in-Ok c =
    let some : nat_lt 0 c.in_ok-draft.draft.primary ≡ true = sym c.has_items.ensures ∙ c.in-Ok.ensures.holds in
    let read = rw c.new.ensures at c.in_ok-draft.ensures.read in
    rw c.into_problem.ensures (text_with_items c.args.bytes.now c.in_ok-draft.draft read.0 read.1 some)
