use Rattle.std.proofs.Common.{◌≡◌, ◌+◌, ◌<◌, ◌++◌, ℕ, List, length, sym, ap, ap₂, ◌∙◌, append_assoc, arith}
use Rattle.std.proofs.lemmas.List.{length-map}
use Rattle.text_lines.specs.Writing.{text_of}
use Rattle.shared_words.specs.Lists.{numbers}
use Rattle.cover_problem.proofs.NumberLemmas.{length-numbers}
use Rattle.x_branches.specs.Refusals.{untried_in}
use Rattle.debug_acts.proofs.LineLemmas.{levels_to, levels_more, level_listed}
use Rattle.debug_acts.proofs.overview.write_levels.Goals as goal

pub loop-level-preserved : goal.loop-level-preserved
loop-level-preserved g c =
    let r = c.args.runner.now in
    let within : c.loop-level.level < length c.in_ok-levels.levels = rw c.len-level-end.ensures at c.loop-level-test.true in
    let line = level_listed r c.in_ok-levels.levels c.list.result.now c.loop-level.level c.in_ok-levels.ensures within c.list.ensures in
    c.in_ok-write_level.ensures ∙ ap₂ (λ a b. a ++ text_of b) c.loop-level.invariant line
    ∙ append_assoc c.args.text.now.items (text_of (levels_to r c.loop-level.level)) _
    ∙ ap (λ t. c.args.text.now.items ++ t) (sym (levels_more r c.loop-level.level))

pub returns : goal.returns
returns g c =
    let r = c.args.runner.now in
    let size : length c.in_ok-levels.levels ≡ length r.position.path + 1 = ap (length {A = List ℕ}) c.in_ok-levels.ensures
    ∙ length-map (numbers (length r.position.path + 1) 0) (untried_in r) ∙ length-numbers (length r.position.path + 1) 0 in
    let last : c.loop-level.level ≡ length r.position.path + 1 =
    omega (arith, c.loop-level-test.false, c.loop-level.auto.level-end, c.len-level-end.ensures) in
    c.loop-level.invariant ∙ ap (λ n. c.args.text.now.items ++ text_of (levels_to r n)) last
