use Rattle.std.proofs.Common.{refl}
use Rattle.x_texts.proofs.DigitLemmas.{three_digits}
use Rattle.x_texts.proofs.visit_line.put_three.Goals as goal

pub returns-clause-written : goal.returns-clause-written
returns-clause-written c = three_digits c.args.bytes.now c.args.at _ c.args.choice c.requires.three_digits.0 c.requires.three_digits.1 refl c.requires.room
