use Rattle.std.proofs.Common.{◌≡◌, ℕ, List, ◌++◌, sym, ap, ◌∙◌}
use Rattle.text_lines.specs.Writing.{line_text}
use Rattle.cover_problem.specs.Problem.{ProblemValue}
use Rattle.x_snapshot.specs.Judged.{judged_parts}
use Rattle.debug_language.specs.Replies.{state_line}
use Rattle.x_debug.specs.Session.{SessionValue}
use Rattle.x_debug.specs.LoadedTexts.{loaded, answers, load_by}
use Rattle.debug_acts.proofs.LineLemmas.{on_ok}
use Rattle.x_debug.proofs.LoadLemmas.{resumed_answer, said, left, none_said, none_left}
use Rattle.x_debug.proofs.session.Session.go_on.Goals as goal

pub runner-requires : goal.runner-requires
runner-requires g c =
    let book : c.problem.result.now ≡ c.args.self.now.book.problem =
    ◌∙◌ {A = ProblemValue} c.problem.ensures (ap (λ (v : SessionValue). v.book.problem) c.self.view_is) in
    c.requires.same ∙ sym book

pub resume-requires-clause-runner : goal.resume-requires-clause-runner
resume-requires-clause-runner g c =
    let book : c.problem.result.now ≡ c.args.self.now.book.problem =
    ◌∙◌ {A = ProblemValue} c.problem.ensures (ap (λ (v : SessionValue). v.book.problem) c.self.view_is) in
    rw (← book) c.in-Ok.ensures.runner

pub returns-in_ok-write_at-in-Ok-clause-reply : goal.returns-in_ok-write_at-in-Ok-clause-reply
returns-in_ok-write_at-in-Ok-clause-reply g c =
    said c.resume.result c.args.text.now.items c.write_at.new.text.items _ (answers (state_line c.args.draft.now.state) (loaded c.args.self.now c.args.draft.now))
    (ap (load_by c.args.self.now) c.in-Ok.ensures.sound ∙ resumed_answer c.args.self.now c.args.draft.now c.requires.test)
    (on_ok c.resume.result (◌∙◌ {A = List ℕ} c.in_ok-write_at-in-Ok.ensures (ap (λ s. c.args.text.now.items ++ line_text (state_line s)) c.state.ensures)))

pub returns-in_ok-write_at-in-Ok-clause-session : goal.returns-in_ok-write_at-in-Ok-clause-session
returns-in_ok-write_at-in-Ok-clause-session g c =
    left c.resume.result c.resume.new.self _ (answers (state_line c.args.draft.now.state) (loaded c.args.self.now c.args.draft.now))
    (ap (load_by c.args.self.now) c.in-Ok.ensures.sound ∙ resumed_answer c.args.self.now c.args.draft.now c.requires.test) c.resume.ensures.made

pub returns-in-Err-clause-reply : goal.returns-in-Err-clause-reply
returns-in-Err-clause-reply g c =
    none_said c.args.self.now (judged_parts c.args.draft.now) c.write_snapshot_fault.result c.in-Err.fault c.args.text.now.items c.write_snapshot_fault.new.text.items
    c.in-Err.ensures.fault c.write_snapshot_fault.ensures.numbered c.write_snapshot_fault.ensures.line

pub returns-in-Err-clause-session : goal.returns-in-Err-clause-session
returns-in-Err-clause-session g c =
    none_left c.args.self.now (judged_parts c.args.draft.now) c.write_snapshot_fault.result c.in-Err.fault
    c.in-Err.ensures.fault c.write_snapshot_fault.ensures.numbered
