use Rattle.std.proofs.Common.{arith, ◌+◌}
use Rattle.text_lines.proofs.NumberLemmas.{next_digit, none_above, value_so_far}
use Rattle.text_lines.proofs.decimal.number.Goals as goal

pub returns-then-more-from : goal.returns-then-more-from
returns-then-more-from c =
    none_above c.args.most c.args.word.now
    (omega (arith, next_digit c.args.word.now c.loop-byte.byte-index c.loop-byte.value c.loop-byte-test.true c.loop-byte.invariant.so_far, value_so_far c.args.word.now (c.loop-byte.byte-index + 1)))

pub loop-byte-preserved : goal.loop-byte-preserved
loop-byte-preserved c = record {
  so_far = rw (c.from.ensures, c.from-in-loop-byte.ensures) (next_digit c.args.word.now c.loop-byte.byte-index c.loop-byte.value c.loop-byte-test.true c.loop-byte.invariant.so_far);
  within = omega arith;
}
