use Rattle.std.proofs.Common.{take, ◌++◌, ap, ◌∙◌, arith}
use Rattle.x_steps.specs.StateValue.{StateValue}
use Rattle.x_codes.specs.StateCode.{state_of, state_rest, after_of, after_rest}
use Rattle.x_codes.proofs.StateLemmas.{take_most}
use Rattle.x_codes.proofs.reading.read_after.Goals as goal

pub returns-clause-state : goal.returns-clause-state
unfolding after_of
returns-clause-state c =
    let before = c.args.before.now in
    let below = c.in_ok-below.ensures.state ∙ ap state_of c.number-same.ensures.rest in
    let front = c.in_ok-path.ensures.items ∙ c.split_at.ensures.front ∙ take_most c.number-same.result c.min.result before (λ l. omega (arith, c.min.ensures)) (λ l. omega (arith, c.min.ensures))
    ∙ ap (λ n. take n before) c.number-same.ensures.number in
    let path = c.in_ok-extend_from_slice.ensures.items
    ∙ (λ j. front j ++ (c.deref.ensures.value ∙ ap (λ (s : StateValue). s.path) below) j) in
    (λ j. record { label = (below j).label; path = path j; cursor = (below j).cursor })

pub returns-clause-rest : goal.returns-clause-rest
unfolding after_rest
returns-clause-rest c = c.in_ok-below.ensures.rest ∙ ap state_rest c.number-same.ensures.rest
