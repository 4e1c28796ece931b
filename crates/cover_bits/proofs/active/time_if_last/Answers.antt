use Rattle.std.proofs.Common.{◌++◌, ◌∷◌, [], ap, ◌∙◌}
use Rattle.cover_bits.proofs.TableLemmas.{last_place}
use Rattle.cover_bits.proofs.active.time_if_last.Goals as goal

pub returns-in-Some : goal.returns-in-Some
returns-in-Some c =
    last_place c.args.covered.now c.in-Some.before.now c.args.item (c.in-Some.ensures.cases.0 ∙ ap (λ x. c.in-Some.before.now ++ x ∷ []) c.if-last-item.true) c.requires.distinct
