use Rattle.std.proofs.Common.{ℕ, Option, ap, subst, ◌∙◌}
use Rattle.shared_words.specs.Answers.{Returns}
use Rattle.poly_distinct.specs.UpTo.{UpToValue, each_stands}
use Rattle.poly_distinct.proofs.PartLemmas.{each_whole, each_part}
use Rattle.poly_distinct.proofs.up_to.Smaller.each.Goals as goal

pub returns-in-None : goal.returns-in-None
returns-in-None c = each_whole _ _ _ c.self.invariant.part_is c.in-None.is ∙ ap (λ (a : UpToValue). each_stands a.puzzle a.group) c.self.view_is

pub returns-in-Some : goal.returns-in-Some
returns-in-Some c =
    subst (λ (n : Option ℕ). Returns c.each.result n)
    (each_part _ _ _ _ c.self.invariant.part_is c.in-Some.is ∙ ap (λ (a : UpToValue). each_stands a.puzzle a.group) c.self.view_is) c.each.ensures
