use Rattle.std.proofs.Common.{[], map, length}
use Rattle.std.proofs.lemmas.Result.{err_from_is_err_and}
use Rattle.text_lines.specs.Each.{each}
use Rattle.cover_problem.specs.Validation.{add_option}
use Rattle.cover_problem.proofs.OptionLemmas.{options_go, options_stop, options_end}
use Rattle.cover_problem.proofs.validation.check_each.Goals as goal

pub returns-in_err-check_option : goal.returns-in_err-check_option
returns-in_err-check_option c =
    let p = err_from_is_err_and c.from_residual.result c.from_residual.ensures.1 in
    let n = length c.args.marks.now in
    let all = each (add_option n) [] (map (λ o. o.items) c.args.options.now) in
    rw (p.1, p.2)
    (options_stop (λ o. o.items) n c.args.options.now c.loop-place.place all c.loop-place.invariant.so_far c.index-options-place.result c.loop-place-test.true c.index-options-place.is c.in_err-check_option.field-0.0
    (rw (c.loop-place.auto.marks, c.deref.ensures.value) at c.in_err-check_option.ensures.option))

pub loop-place-preserved : goal.loop-place-preserved
loop-place-preserved c =
    let n = length c.args.marks.now in
    let all = each (add_option n) [] (map (λ o. o.items) c.args.options.now) in
    record {
      so_far = options_go (λ o. o.items) n c.args.options.now c.loop-place.place all c.loop-place.invariant.so_far c.index-options-place.result c.loop-place-test.true c.index-options-place.is
          (rw (c.loop-place.auto.marks, c.deref.ensures.value) at c.in_ok-check_option.ensures.option);
      old = c.in_ok-check_option.ensures.marks;
    }

pub returns : goal.returns
returns c =
    let n = length c.args.marks.now in
    let all = each (add_option n) [] (map (λ o. o.items) c.args.options.now) in
    options_end (λ o. o.items) n c.args.options.now c.loop-place.place all c.loop-place.invariant.so_far c.loop-place-test.false
