use Rattle.std.proofs.Common.{Some, ◌++◌, subst, sym, refl, ap, ◌∙◌}
use Rattle.std.proofs.lemmas.Bool.{false≢true}
use Rattle.text_lines.specs.Writing.{text_of}
use Rattle.x_branches.specs.Runner.{IsRunner}
use Rattle.debug_language.specs.declared.fault.DebugFault.TheVariants.{AtEnd}
use Rattle.x_snapshot.proofs.PositionLemmas.{on_ok as when_ok}
use Rattle.debug_acts.specs.Lines.{debug_refusal}
use Rattle.debug_acts.proofs.LineLemmas.{answered}
use Rattle.debug_acts.specs.Walk.{run_count, stop_line}
use Rattle.debug_acts.proofs.ForwardLemmas.{some_ahead}
use Rattle.debug_acts.proofs.WorkLemmas.{work, IsWork, can_walk}
use Rattle.debug_acts.proofs.LeadLemmas.{plays_all, plays_err}
use Rattle.debug_acts.proofs.WalkedLemmas.{read_end}
use Rattle.debug_acts.proofs.AnswerLemmas.{stands_at, walk_text, line_more, run_refused, run_refused_lines, run_came, run_problem, run_lines_are, met_is_break}
use Rattle.debug_acts.proofs.walk.breakpoint.run.Goals as goal

pub returns-then-is_at_end-clause-acts : goal.returns-then-is_at_end-clause-acts
returns-then-is_at_end-clause-acts g c =
    run_refused (work c.args.book.now c.args.worker.now)
    (record { tiling = c.is_sound.ensures.tiling; holds = c.requires.holds; runner = subst IsRunner c.runner.ensures c.is_sound-2.ensures.runner })
    c.args.breaks.now.keys c.write_debug_fault.result (read_end _ _ c.runner-2.ensures (c.if-is_at_end.ensures.0 refl))

pub returns-then-is_at_end-clause-text : goal.returns-then-is_at_end-clause-text
returns-then-is_at_end-clause-text g c =
    answered c.write_debug_fault.result c.args.text.now.items c.write_debug_fault.new.text.items (debug_refusal AtEnd) _
    (run_refused_lines (work c.args.book.now c.args.worker.now)
    (record { tiling = c.is_sound.ensures.tiling; holds = c.requires.holds; runner = subst IsRunner c.runner.ensures c.is_sound-2.ensures.runner })
    c.args.breaks.now.keys (read_end _ _ c.runner-2.ensures (c.if-is_at_end.ensures.0 refl)))
    c.write_debug_fault.ensures

pub walk_to_stop-requires-clause-ahead : goal.walk_to_stop-requires-clause-ahead
walk_to_stop-requires-clause-ahead g c =
    some_ahead c.args.worker.now.runner
    (can_walk (work c.args.book.now c.args.worker.now)
    (record { tiling = c.is_sound.ensures.tiling; holds = c.requires.holds; runner = subst IsRunner c.runner.ensures c.is_sound-2.ensures.runner }))
    (λ e. false≢true (c.if-is_at_end.ensures.1 (read_end _ _ (sym c.runner-2.ensures) e)))

pub returns-in_err-moved-clause-acts : goal.returns-in_err-moved-clause-acts
returns-in_err-moved-clause-acts g c =
    plays_err c.args.book.now c.walk_to_stop.new.book (Some c.args.worker.now) (Some c.walk_to_stop.new.worker) _ c.from_residual.result _ _
    c.from_residual.ensures.1 c.in_err-moved.ensures.acts.1

pub returns-in_err-write_moved-clause-acts : goal.returns-in_err-write_moved-clause-acts
returns-in_err-write_moved-clause-acts g c =
    plays_all c.args.book.now c.walk_to_stop.new.book (Some c.args.worker.now) (Some c.walk_to_stop.new.worker) c.from_residual-in_err-write_moved.result _
    c.in_ok-moved.ensures.acts.0

pub write_stop-requires : goal.write_stop-requires
write_stop-requires g c =
    let u = work c.args.book.now c.args.worker.now in
    let s : IsWork (work c.args.book.now c.args.worker.now) = record { tiling = c.is_sound.ensures.tiling; holds = c.requires.holds; runner = subst IsRunner c.runner.ensures c.is_sound-2.ensures.runner } in
    let problem = run_problem u s c.args.breaks.now.keys (work c.walk_to_stop.new.book c.walk_to_stop.new.worker) c.in_ok-moved.ensures.acts.0 in
    met_is_break u s c.args.breaks.now.keys c.walk_to_stop.new.book.problem c.args.book.now.problem (problem ∙ c.requires.holds.problem)
    c.requires.breaks _ c.in_ok-moved.met c.in_ok-moved.ensures.met

pub returns-clause-acts : goal.returns-clause-acts
returns-clause-acts g c =
    plays_all c.args.book.now c.walk_to_stop.new.book (Some c.args.worker.now) (Some c.walk_to_stop.new.worker) c.write_stop.result _
    c.in_ok-moved.ensures.acts.0

pub returns-clause-text : goal.returns-clause-text
returns-clause-text g c =
    let u = work c.args.book.now c.args.worker.now in
    let v = work c.walk_to_stop.new.book c.walk_to_stop.new.worker in
    let s : IsWork (work c.args.book.now c.args.worker.now) = record { tiling = c.is_sound.ensures.tiling; holds = c.requires.holds; runner = subst IsRunner c.runner.ensures c.is_sound-2.ensures.runner } in
    let n = run_count c.args.breaks.now.keys c.args.worker.now.runner in
    let came = run_came u s c.args.breaks.now.keys v c.in_ok-moved.ensures.acts.0 in
    let lines = run_lines_are u s c.args.breaks.now.keys (λ e. false≢true (c.if-is_at_end.ensures.1 (read_end _ _ (sym c.runner-2.ensures) e)))
    c.walk_to_stop.new.book.problem (run_problem u s c.args.breaks.now.keys v c.in_ok-moved.ensures.acts.0) c.in_ok-moved.met c.in_ok-moved.ensures.met in
    let walked = walk_text c.args.worker.now.runner n c.in_ok-moved.moved c.walk_to_stop.new.worker.runner.position c.args.text.now.items c.walk_to_stop.new.text.items c.write_moved.new.text.items
    c.in_ok-moved.ensures.count (stands_at u n v came) c.in_ok-moved.ensures.text c.in_ok-write_moved.ensures in
    when_ok c.write_stop.result
    (λ e. line_more _ (stop_line c.walk_to_stop.new.book.problem.names c.in_ok-moved.met) c.args.text.now.items c.write_moved.new.text.items c.write_stop.new.text.items walked e
    ∙ ap (λ ls. c.args.text.now.items ++ text_of ls) (sym lines))
    c.write_stop.ensures
