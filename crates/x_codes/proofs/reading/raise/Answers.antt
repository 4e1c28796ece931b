use Rattle.std.proofs.Common.{◌∙◌, ◌≢◌, ◌<◌, ◌+◌, ◌-◌, ℕ, ap, get_or, get_or-set_other, length-set, set, arith}
use Rattle.cover_problem.proofs.FlatListLemmas.{same_default}
use Rattle.x_codes.specs.StateCode.{choice_of}
use Rattle.x_codes.proofs.StateLemmas.{raised_last, raised_none}
use Rattle.x_codes.proofs.reading.raise.Goals as goal

pub returns-then-count-eq0 : goal.returns-then-count-eq0
returns-then-count-eq0 c = raised_none _ _ (omega (arith, c.if-count-eq0.true, c.len-count.ensures))

pub returns : goal.returns
returns c =
    let ns = c.args.path.now.items in let last = c.len-count.result - 1 in
    let below : (k : ℕ) → k < last → get_or ns k 0 < 4294967296 = λ k l.
    let ne : k ≢ last = omega arith in
    let same = get_or-set_other ns last k c.choice.result 0 ne in
    omega (arith, same, c.type_inv.path k 0 (omega (arith, length-set ns last c.choice.result, c.len-count.ensures))) in
    ap (set ns last) (c.choice.ensures ∙ ap (λ n. choice_of (n + c.args.step)) (c.index-last.ensures ∙ same_default ns last _ 0 (omega (arith, c.if-count-eq0.false, c.len-count.ensures))))
    ∙ raised_last ns c.args.step last (omega (arith, c.if-count-eq0.false, c.len-count.ensures)) below
