use Rattle.std.proofs.Common.{length, arith, inl, inr}
use Rattle.cover_problem.specs.Validation.{option_from}
use Rattle.cover_problem.proofs.OptionLemmas.{stops_unknown, stops_twice, takes_once, stamped, numbers_end}
use Rattle.cover_problem.proofs.validation.check_option.Goals as goal
use Rattle.cover_problem.proofs.validation.check_option.Goals.{then-number-eq0-via-then-number-eq0, then-number-eq0-via-else-number-eq0+then-number-marks}

pub returns-then-number-eq0-clause-option : goal.returns-then-number-eq0-clause-option
returns-then-number-eq0-clause-option c =
    stops_unknown (length c.args.marks.now) c.args.stamp c.loop-number.number-index c.loop-number.marks c.args.numbers.now (option_from (length c.args.marks.now) c.args.numbers.now) c.loop-number.auto.marks c.loop-number.invariant.so_far c.loop-number.invariant.marked c.loop-number-test.true
    (elim c.then-number-eq0.branch [ then-number-eq0-via-then-number-eq0 w ↦ inl w.if-number-eq0.true | then-number-eq0-via-else-number-eq0+then-number-marks w ↦ inr (omega arith) ])

pub returns-then-marks-number-clause-option : goal.returns-then-marks-number-clause-option
returns-then-marks-number-clause-option c =
    stops_twice (length c.args.marks.now) c.args.stamp c.loop-number.number-index c.loop-number.marks c.args.numbers.now (option_from (length c.args.marks.now) c.args.numbers.now) c.loop-number.auto.marks c.loop-number.invariant.so_far c.loop-number.invariant.marked c.loop-number-test.true c.if-number-eq0.false (omega arith) c.if-marks-number.true

pub loop-number-preserved : goal.loop-number-preserved
loop-number-preserved c = record {
  so_far = takes_once (length c.args.marks.now) c.args.stamp c.loop-number.number-index c.loop-number.marks c.args.numbers.now (option_from (length c.args.marks.now) c.args.numbers.now) c.loop-number.auto.marks c.loop-number.invariant.so_far c.loop-number.invariant.marked c.loop-number-test.true c.if-number-eq0.false (omega arith) c.if-marks-number.false;
  marked = stamped (length c.args.marks.now) c.args.stamp c.loop-number.number-index c.loop-number.marks c.args.numbers.now (option_from (length c.args.marks.now) c.args.numbers.now) c.loop-number.auto.marks c.loop-number.invariant.so_far c.loop-number.invariant.marked c.loop-number-test.true c.if-number-eq0.false (omega arith);
}

pub returns-clause-option : goal.returns-clause-option
returns-clause-option c = numbers_end (length c.args.marks.now) c.args.numbers.now c.loop-number.number-index (option_from (length c.args.marks.now) c.args.numbers.now) c.loop-number.invariant.so_far (omega arith)
