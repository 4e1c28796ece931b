use Rattle.std.proofs.Common.{◌≤◌, arith, refl}
use Rattle.std.proofs.lemmas.Result.{err_from_is_err_and}
use Rattle.text_lines.proofs.ResultLemmas.{passes_on}
use Rattle.x_snapshot.specs.Reader.{first_line, after_line, repeated}
use Rattle.x_snapshot.proofs.ReadLemmas.{step_goes, step_stops, steps_end, shorter}
use Rattle.x_snapshot.proofs.reader.problem.after_lines.Goals as goal

pub returns-in_err-after-clause-rest : goal.returns-in_err-after-clause-rest
returns-in_err-after-clause-rest c =
    let p = err_from_is_err_and c.from_residual.result c.from_residual.ensures.1 in
    let all = repeated after_line c.args.count c.args.text.now in
    rw (p.1, p.2)
    (passes_on c.in_err-after.field-0.0 (first_line c.loop.rest.now) all
    (λ f h. step_stops after_line c.args.count c.loop.counter c.loop.rest.now all c.loop.invariant.so_far f c.loop-test.true (rw h refl))
    c.in_err-after.ensures)

pub loop-preserved : goal.loop-preserved
loop-preserved c = record {
  so_far = step_goes after_line c.args.count c.loop.counter c.loop.rest.now (repeated after_line c.args.count c.args.text.now) c.loop.invariant.so_far c.in_ok-after.after.now c.loop-test.true (rw c.in_ok-after.ensures refl);
  within = let l = shorter c.loop.rest.now _ c.in_ok-after.ensures in let w = c.loop.invariant.within in omega arith;
}

pub returns-clause-rest : goal.returns-clause-rest
returns-clause-rest c =
    let none : c.args.count ≤ c.loop.counter = omega arith in
    steps_end after_line c.args.count c.loop.counter c.loop.rest.now (repeated after_line c.args.count c.args.text.now) c.loop.invariant.so_far none
