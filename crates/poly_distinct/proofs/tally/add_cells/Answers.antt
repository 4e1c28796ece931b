use Rattle.std.proofs.Common.{arith}
use Rattle.poly_distinct.proofs.LeftInLemmas.{few_choices}
use Rattle.poly_distinct.proofs.tally.add_cells.Goals as goal

pub count_cells-requires-clause-limit : goal.count_cells-requires-clause-limit
count_cells-requires-clause-limit c =
    let few = few_choices c.args.compiled.now c.problem.result.now c.choices.result.now c.problem.ensures c.is_sound.ensures.problem c.choices.ensures.value in
    omega (arith, few.0, few.1)
