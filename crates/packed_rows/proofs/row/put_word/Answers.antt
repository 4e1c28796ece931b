use Rattle.std.proofs.Common.{◌∙◌, ◌++◌, ◌/◌, ap, arith}
use Rattle.packed_rows.specs.Numbers.{front}
use Rattle.packed_rows.proofs.NumberLemmas.{put_small, put_two, put_word}
use Rattle.packed_rows.proofs.row.put_word.Goals as goal

pub returns-then-n-lt128-clause-added : goal.returns-then-n-lt128-clause-added
returns-then-n-lt128-clause-added c = put_small _ _ _ c.if-n-lt128.true c.push_reserved.ensures.items

pub returns-then-n-lt16384-clause-added : goal.returns-then-n-lt16384-clause-added
returns-then-n-lt16384-clause-added c =
    put_two _ _ _ _ (omega (arith, c.if-n-lt128.false)) c.if-n-lt16384.true c.push_reserved-then-n-lt16384.ensures.items c.push_reserved-then-n-lt16384-2.ensures.items

pub returns-clause-added : goal.returns-clause-added
returns-clause-added c = put_word _ _ _ _ (omega (arith, c.ranges.n.fits)) (c.with_front.ensures.added ∙ ap (λ bs. bs.items ++ front 4 (c.args.n / 128)) c.replace-taken.ensures.value) c.push_reserved-2.ensures.items
