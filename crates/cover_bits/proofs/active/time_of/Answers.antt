use Rattle.std.proofs.Common.{◌++◌, ◌∷◌, [], ap, ◌∙◌}
use Rattle.cover_bits.proofs.TableLemmas.{last_place}
use Rattle.cover_bits.proofs.active.time_of.Goals as goal

pub returns-in-Some : goal.returns-in-Some
returns-in-Some c =
    last_place c.args.covered.now c.in-Some.before.now c.args.item (c.in-Some.ensures.cases.0 ∙ ap (λ x. c.in-Some.before.now ++ x ∷ []) c.if-last-item.true) c.requires.distinct

pub returns-in_default : goal.returns-in_default
returns-in_default c = c.place_among.ensures
