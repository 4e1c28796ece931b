use Rattle.std.proofs.Common.{◌≡◌, ◌-◌, ◌+◌, ◌++◌, ℕ, List, length, sym, ap, subst, ◌∙◌, arith}
use Rattle.std.proofs.lemmas.Result.{IfOk-weaker}
use Rattle.shared_words.specs.Lists.{numbers, RisesFrom}
use Rattle.poly_texts.specs.Puzzle.{PuzzleValue}
use Rattle.poly_place.specs.Packings.{packing_problem}
use Rattle.poly_distinct.specs.Distinct.{laying_left, numbers_left}
use Rattle.poly_distinct.specs.Fewer.{AreNumbersTo}
use Rattle.poly_distinct.specs.Moves.{thing_of, kept_at}
use Rattle.poly_distinct.proofs.LeftInLemmas.{few_choices, all_left}
use Rattle.poly_distinct.proofs.SmallerLemmas.{numbers_are, numbers_rise}
use Rattle.poly_distinct.proofs.smaller.numbers_left.Goals as goal
use Rattle.poly_distinct.proofs.smaller.numbers_left.Goals.{After-with_numbers}
use Rattle.poly_texts.specs.Puzzle.{IsPuzzle}

pub laying_left-requires-clause-puzzle : goal.laying_left-requires-clause-puzzle
laying_left-requires-clause-puzzle c = subst IsPuzzle (sym c.requires) c.choices-choices.ensures.puzzle

pub laying_left-requires-clause-limit : goal.laying_left-requires-clause-limit
laying_left-requires-clause-limit c =
    let few = few_choices c.args.compiled.now c.problem-problem.result.now c.choices-choices.result.now c.problem-problem.ensures c.is_sound.ensures.problem c.choices-choices.ensures.value in
    omega (arith, few.0, few.1)

pub overflow_cast-choices : goal.overflow_cast-choices
overflow_cast-choices c =
    let few = few_choices c.args.compiled.now c.problem-problem.result.now c.choices-choices.result.now c.problem-problem.ensures c.is_sound.ensures.problem c.choices-choices.ensures.value in
    omega (arith, few.0, few.1)

pub with_numbers-requires-clause-order : goal.with_numbers-requires-clause-order
with_numbers-requires-clause-order c =
    let few = few_choices c.args.compiled.now c.problem-problem.result.now c.choices-choices.result.now c.problem-problem.ensures c.is_sound.ensures.problem c.choices-choices.ensures.value in
    omega (arith, few.0, c.options.ensures)

-- what the call returns is the list of the definition
is_left : (c : After-with_numbers) (left : List ℕ)
    → left ≡ c.in_ok-laying.laying.items ++ numbers (c.options.result - length c.choices-choices.result.now) (length c.choices-choices.result.now + 1)
    → left ≡ numbers_left c.args.compiled.now (thing_of c.args.anchor.now) (kept_at c.args.compiled.now c.args.moves.now.group (thing_of c.args.anchor.now))
is_left c left h =
    let p = c.args.compiled.now in
    let t = thing_of c.args.anchor.now in
    let cs = c.choices-choices.result.now in
    all_left p t (kept_at p c.args.moves.now.group t) c.problem-problem.result.now cs c.in_ok-laying.laying.items left c.problem-problem.ensures c.choices-choices.ensures.value
    (c.in_ok-laying.ensures ∙ ap (λ (q : PuzzleValue). laying_left q t (kept_at q c.args.moves.now.group t) cs) c.requires)
    (h ∙ ap (λ (n : ℕ). c.in_ok-laying.laying.items ++ numbers (n - length cs) (length cs + 1)) c.options.ensures)

pub returns-clause-value : goal.returns-clause-value
returns-clause-value c = IfOk-weaker c.with_numbers.result _ _ (λ left h. is_left c left.items h) c.with_numbers.ensures

pub returns-clause-numbers : goal.returns-clause-numbers
returns-clause-numbers c =
    let p = c.args.compiled.now in
    let t = thing_of c.args.anchor.now in
    IfOk-weaker c.with_numbers.result _ _ (λ left h.
    subst (AreNumbersTo (length (packing_problem p).options)) (sym (is_left c left.items h)) (numbers_are p c.choices-choices.ensures.puzzle t (kept_at p c.args.moves.now.group t))) c.with_numbers.ensures

pub returns-clause-rise : goal.returns-clause-rise
returns-clause-rise c =
    let p = c.args.compiled.now in
    let t = thing_of c.args.anchor.now in
    IfOk-weaker c.with_numbers.result _ _ (λ left h. subst (RisesFrom 1) (sym (is_left c left.items h)) (numbers_rise p t (kept_at p c.args.moves.now.group t))) c.with_numbers.ensures
