use Rattle.std.proofs.Common.{◌≤◌, [], arith}
use Rattle.std.proofs.lemmas.Result.{err_from_is_err_and}
use Rattle.text_lines.proofs.ResultLemmas.{passes_on}
use Rattle.x_snapshot.specs.Reader.{next_break, add_break, repeated}
use Rattle.x_snapshot.proofs.ReadLemmas.{step_goes, step_stops, steps_end}
use Rattle.x_snapshot.proofs.reader.breaks.breaks_from.Goals as goal

pub returns-in_err-rest : goal.returns-in_err-rest
returns-in_err-rest c =
    let p = err_from_is_err_and c.from_residual.result c.from_residual.ensures.1 in
    let step = next_break c.args.problem.now in
    let all = repeated step c.args.count ([], c.args.text.now) in
    rw (p.1, p.2)
    (passes_on c.in_err-rest.field-0.0 (add_break c.args.problem.now c.loop.seen.keys c.loop.rest.now) all
    (λ f h. step_stops step c.args.count c.loop.counter (c.loop.seen.keys, c.loop.rest.now) all c.loop.invariant f c.loop-test.true h)
    c.in_err-rest.ensures)

pub loop-preserved : goal.loop-preserved
loop-preserved c =
    let step = next_break c.args.problem.now in
    step_goes step c.args.count c.loop.counter (c.loop.seen.keys, c.loop.rest.now) (repeated step c.args.count ([], c.args.text.now)) c.loop.invariant (c.add_break.new.seen.keys, c.in_ok-rest.rest.now) c.loop-test.true c.in_ok-rest.ensures

pub returns : goal.returns
returns c =
    let step = next_break c.args.problem.now in
    let none : c.args.count ≤ c.loop.counter = omega arith in
    rw (c.in_ok-breaks.ensures.items, c.as_slice.ensures.keys)
    (steps_end step c.args.count c.loop.counter (c.loop.seen.keys, c.loop.rest.now) (repeated step c.args.count ([], c.args.text.now)) c.loop.invariant none)
