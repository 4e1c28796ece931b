use Rattle.std.proofs.Common.{◌+◌, ◌-◌, refl, ap, arith}
use mir.Val.{bool_byte}
use Rattle.std.proofs.lemmas.Bool.{lt-ltb, le-ltb}
use Rattle.x_texts.proofs.DigitLemmas.{one_digit, two_digits}
use Rattle.x_texts.proofs.visit_line.put_small.Goals.{then-choice-lt10, else-choice-lt10}
use Rattle.x_texts.proofs.visit_line.put_small.Goals as goal

pub returns-clause-written : goal.returns-clause-written
returns-clause-written c =
    let choice = c.args.choice in let at = c.args.at in let bytes = c.args.bytes.now in
    elim c.if-choice-lt10.branch [
      | then-choice-lt10 w ↦
          let cut = ap (λ b. at + 3 - bool_byte b) (lt-ltb choice 10 (omega (arith, w.if-choice-lt10))) in
          one_digit bytes at _ choice c.if-choice-lt10.first _ (omega (arith, w.if-choice-lt10)) w.first-is (omega (arith, cut)) (omega (arith, cut, c.requires.room))
      | else-choice-lt10 w ↦
          let cut = ap (λ b. at + 3 - bool_byte b) (le-ltb choice 10 (omega (arith, w.if-choice-lt10))) in
          two_digits bytes at _ choice c.if-choice-lt10.first _ (omega (arith, w.if-choice-lt10)) c.requires.small w.first-is refl (omega (arith, cut)) (omega (arith, cut, c.requires.room))
    ]
