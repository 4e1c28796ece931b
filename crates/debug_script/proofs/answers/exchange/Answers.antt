use Rattle.std.proofs.Common.{◌∙◌, [], ◌∷◌, Option, Some, None, List, ℕ, ap, sym, subst, refl, take, drop, append-nil}
use Rattle.std.specs.List.{concat}
use Rattle.debug_language.specs.declared.engine.EngineCommand.TheVariants as engine
use Rattle.debug_language.specs.Reader.{engine_command_of}
use Rattle.x_debug.specs.Commands.{answer_line}
use Rattle.x_debug.specs.LoadedTexts.{load_answer}
use Rattle.debug_laws.proofs.AnswerLemmas.{line_alike, load_alike}
use Rattle.debug_script.specs.Input.{without_newline, raw_lines}
use Rattle.debug_script.specs.Refusals.{IsWantOrPool, IsWantOrAsked, MayRefuse, MayEnd}
use Rattle.debug_script.proofs.RefusalLemmas.{command_may_end, asked_by, passed_on}
use Rattle.debug_script.proofs.AlikeLemmas.{read_as, left_by, text_by, session_by, text_of_alike, session_of_alike}
use Rattle.debug_script.proofs.answers.exchange.Goals as goal

-- ---- a line for the session

pub returns-in_ok-append-in-None-clause-text : goal.returns-in_ok-append-in-None-clause-text
returns-in_ok-append-in-None-clause-text g c = λ f k.
    let line = c.without_newline-line.ensures in
    text_by f c.args.raw.now (raw_lines c.args.after.now) None (c.in-None.ensures ∙ ap engine_command_of line) c.args.text.now.items _
    (text_of_alike (answer_line c.args.session (without_newline c.args.raw.now)) (answer_line f (without_newline c.args.raw.now)) c.args.text.now.items _ _
    (line_alike c.args.session f k (without_newline c.args.raw.now)) c.in_ok-append-in-None.ensures
    (c.as_slice.ensures.value ∙ c.in_ok-reply-in-None.ensures.reply ∙ ap (λ (l : List ℕ). (answer_line c.args.session l).text) line))

pub returns-in_ok-append-in-None-clause-session : goal.returns-in_ok-append-in-None-clause-session
returns-in_ok-append-in-None-clause-session g c = λ f k.
    let line = c.without_newline-line.ensures in
    session_by f c.args.raw.now (raw_lines c.args.after.now) None (c.in-None.ensures ∙ ap engine_command_of line) c.command.new.self
    (session_of_alike (answer_line c.args.session (without_newline c.args.raw.now)) (answer_line f (without_newline c.args.raw.now)) c.command.new.self
    (line_alike c.args.session f k (without_newline c.args.raw.now))
    (c.in_ok-reply-in-None.ensures.session ∙ ap (λ (l : List ℕ). (answer_line c.args.session l).session) line))

pub returns-in_ok-append-in-None-clause-left : goal.returns-in_ok-append-in-None-clause-left
returns-in_ok-append-in-None-clause-left g c = λ f.
    left_by f c.args.raw.now (raw_lines c.args.after.now) None (c.in-None.ensures ∙ ap engine_command_of c.without_newline-line.ensures) (Some 0) refl

-- ---- `load`

pub returns-in_ok-append-in-Some-Load-clause-text : goal.returns-in_ok-append-in-Some-Load-clause-text
returns-in_ok-append-in-Some-Load-clause-text g c = λ f k.
    let n = c.in-Some-Load.lines in
    let bytes = concat (take n (raw_lines c.args.after.now)) in
    text_by f c.args.raw.now (raw_lines c.args.after.now) (Some (engine.Load n)) (read_as c.args.raw.now c.without_newline-line.result.now c.in-Some-Load.field-0 (engine.Load n) c.in-Some-Load.field-0-is c.in-Some-Load.ensures
    c.without_newline-line.ensures)
    c.args.text.now.items _
    (text_of_alike (load_answer c.args.session bytes) (load_answer f bytes) c.args.text.now.items _ _ (load_alike c.args.session f k bytes)
    c.in_ok-append-in-Some-Load.ensures
    (c.as_slice-in-Some-Load.ensures.value ∙ c.in_ok-loaded-in-Some-Load.ensures.reply
    ∙ ap (λ (l : List ℕ). (load_answer c.args.session l).text) (c.take_lines.ensures.taken ∙ ap (λ (m : ℕ). concat (take m (raw_lines c.args.after.now))) c.in-Some-Load.lines-is)))

pub returns-in_ok-append-in-Some-Load-clause-session : goal.returns-in_ok-append-in-Some-Load-clause-session
returns-in_ok-append-in-Some-Load-clause-session g c = λ f k.
    let n = c.in-Some-Load.lines in
    let bytes = concat (take n (raw_lines c.args.after.now)) in
    session_by f c.args.raw.now (raw_lines c.args.after.now) (Some (engine.Load n)) (read_as c.args.raw.now c.without_newline-line.result.now c.in-Some-Load.field-0 (engine.Load n) c.in-Some-Load.field-0-is c.in-Some-Load.ensures
    c.without_newline-line.ensures)
    c.load.new.self
    (session_of_alike (load_answer c.args.session bytes) (load_answer f bytes) c.load.new.self (load_alike c.args.session f k bytes)
    (c.in_ok-loaded-in-Some-Load.ensures.session ∙ ap (λ (l : List ℕ). (load_answer c.args.session l).session) (c.take_lines.ensures.taken ∙ ap (λ (m : ℕ). concat (take m (raw_lines c.args.after.now))) c.in-Some-Load.lines-is)))

pub returns-in_ok-append-in-Some-Load-clause-left : goal.returns-in_ok-append-in-Some-Load-clause-left
returns-in_ok-append-in-Some-Load-clause-left g c = λ f.
    let n = c.in-Some-Load.lines in
    ap {B = Option (List (List ℕ))} (λ (ls : List (List ℕ)). Some ls) (c.take_lines.ensures.rest ∙ ap (λ (m : ℕ). drop m (raw_lines c.args.after.now)) c.in-Some-Load.lines-is)
    ∙ left_by f c.args.raw.now (raw_lines c.args.after.now) (Some (engine.Load n)) (read_as c.args.raw.now c.without_newline-line.result.now c.in-Some-Load.field-0 (engine.Load n) c.in-Some-Load.field-0-is c.in-Some-Load.ensures
    c.without_newline-line.ensures)
    (Some n) refl

-- ---- `pool`

pub returns-in_ok-session-in-Some-Pool-clause-text : goal.returns-in_ok-session-in-Some-Pool-clause-text
returns-in_ok-session-in-Some-Pool-clause-text g c = λ f k.
    text_by f c.args.raw.now (raw_lines c.args.after.now) (Some (engine.Pool c.in-Some-Pool.workers))
    (read_as c.args.raw.now c.without_newline-line.result.now c.in-Some-Pool.field-0 (engine.Pool c.in-Some-Pool.workers) c.in-Some-Pool.field-0-is c.in-Some-Pool.ensures
    c.without_newline-line.ensures) c.args.text.now.items _
    (c.in_ok-session-in-Some-Pool.ensures.text f k)

pub returns-in_ok-session-in-Some-Pool-clause-session : goal.returns-in_ok-session-in-Some-Pool-clause-session
returns-in_ok-session-in-Some-Pool-clause-session g c = λ f k.
    session_by f c.args.raw.now (raw_lines c.args.after.now) (Some (engine.Pool c.in-Some-Pool.workers))
    (read_as c.args.raw.now c.without_newline-line.result.now c.in-Some-Pool.field-0 (engine.Pool c.in-Some-Pool.workers) c.in-Some-Pool.field-0-is c.in-Some-Pool.ensures
    c.without_newline-line.ensures) c.in_ok-session-in-Some-Pool.session
    (c.in_ok-session-in-Some-Pool.ensures.session f k)

pub returns-in_ok-session-in-Some-Pool-clause-left : goal.returns-in_ok-session-in-Some-Pool-clause-left
returns-in_ok-session-in-Some-Pool-clause-left g c = λ f.
    left_by f c.args.raw.now (raw_lines c.args.after.now) (Some (engine.Pool c.in-Some-Pool.workers))
    (read_as c.args.raw.now c.without_newline-line.result.now c.in-Some-Pool.field-0 (engine.Pool c.in-Some-Pool.workers) c.in-Some-Pool.field-0-is c.in-Some-Pool.ensures
    c.without_newline-line.ensures) (Some 0) refl

-- ---- `quit`

pub returns-in-Some-Quit-clause-text : goal.returns-in-Some-Quit-clause-text
returns-in-Some-Quit-clause-text g c = λ f k.
    text_by f c.args.raw.now (raw_lines c.args.after.now) (Some engine.Quit) (read_as c.args.raw.now c.without_newline-line.result.now c.in-Some-Quit.field-0 engine.Quit c.in-Some-Quit.field-0-is c.in-Some-Quit.ensures
    c.without_newline-line.ensures)
    c.args.text.now.items c.args.text.now.items (sym (append-nil c.args.text.now.items))

pub returns-in-Some-Quit-clause-session : goal.returns-in-Some-Quit-clause-session
returns-in-Some-Quit-clause-session g c = λ f k.
    session_by f c.args.raw.now (raw_lines c.args.after.now) (Some engine.Quit) (read_as c.args.raw.now c.without_newline-line.result.now c.in-Some-Quit.field-0 engine.Quit c.in-Some-Quit.field-0-is c.in-Some-Quit.ensures
    c.without_newline-line.ensures)
    c.args.session k

pub returns-in-Some-Quit-clause-left : goal.returns-in-Some-Quit-clause-left
returns-in-Some-Quit-clause-left g c = λ f.
    left_by f c.args.raw.now (raw_lines c.args.after.now) (Some engine.Quit) (read_as c.args.raw.now c.without_newline-line.result.now c.in-Some-Quit.field-0 engine.Quit c.in-Some-Quit.field-0-is c.in-Some-Quit.ensures
    c.without_newline-line.ensures)
    None refl

pub returns-in_err-session-in-Some-Pool-clause-why : goal.returns-in_err-session-in-Some-Pool-clause-why
returns-in_err-session-in-Some-Pool-clause-why g c =
    passed_on (IsWantOrPool MayEnd) c.in_err-session-in-Some-Pool.field-0.0 c.from_residual-in_err-session-in-Some-Pool.result
    c.from_residual-in_err-session-in-Some-Pool.ensures.1
    (command_may_end (without_newline c.args.raw.now) c.in-Some-Pool.workers
    (sym (read_as c.args.raw.now c.without_newline-line.result.now c.in-Some-Pool.field-0 (engine.Pool c.in-Some-Pool.workers) c.in-Some-Pool.field-0-is
    c.in-Some-Pool.ensures c.without_newline-line.ensures))
    c.in_err-session-in-Some-Pool.field-0.0
    (subst (λ (n : ℕ). IsWantOrPool (MayRefuse n) c.in_err-session-in-Some-Pool.field-0.0) c.in-Some-Pool.workers-is c.in_err-session-in-Some-Pool.ensures.why))

pub returns-in_err-session-in-Some-Pool-clause-asked : goal.returns-in_err-session-in-Some-Pool-clause-asked
returns-in_err-session-in-Some-Pool-clause-asked g c =
    passed_on (IsWantOrAsked (c.args.raw.now ∷ [])) c.in_err-session-in-Some-Pool.field-0.0 c.from_residual-in_err-session-in-Some-Pool.result
    c.from_residual-in_err-session-in-Some-Pool.ensures.1
    (asked_by c.args.raw.now c.in-Some-Pool.workers
    (sym (read_as c.args.raw.now c.without_newline-line.result.now c.in-Some-Pool.field-0 (engine.Pool c.in-Some-Pool.workers) c.in-Some-Pool.field-0-is
    c.in-Some-Pool.ensures c.without_newline-line.ensures))
    c.in_err-session-in-Some-Pool.field-0.0)
