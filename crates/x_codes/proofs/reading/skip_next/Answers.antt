use Rattle.std.proofs.Common.{◌∙◌, sym, arith}
use Rattle.x_codes.proofs.StateLemmas.{odd_rest, even_rest}
use Rattle.x_codes.proofs.reading.skip_next.Goals as goal

pub returns-then-n-eq0 : goal.returns-then-n-eq0
returns-then-n-eq0 c = c.skip.ensures ∙ sym (even_rest _ _ (λ o. omega (arith, o, c.if-n-eq0.true)))

pub returns-else-n-eq0 : goal.returns-else-n-eq0
returns-else-n-eq0 c = sym (odd_rest _ _ (omega (arith, c.if-n-eq0.false)))
