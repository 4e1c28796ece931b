use Rattle.std.proofs.Common.{ℕ, ap, sym, subst, ◌∙◌}
use Rattle.shared_words.specs.Answers.{Returns}
use Rattle.cover_problem.specs.Problem.{ProblemValue}
use Rattle.poly_place.specs.Listing.{AreExactCovers}
use Rattle.poly_distinct.specs.UpTo.{UpToValue, smaller, stood_for}
use Rattle.poly_distinct.proofs.PartLemmas.{problem_part, stood_whole, stood_part}
use Rattle.poly_distinct.proofs.up_to.Smaller.packings.Goals as goal

pub packings-requires : goal.packings-requires
packings-requires c =
    let all = subst (λ (a : UpToValue). AreExactCovers (smaller a.puzzle a.group) c.args.visits.now) (sym c.self.view_is) c.requires in
    subst (λ (q : ProblemValue). AreExactCovers q c.args.visits.now) (sym (problem_part _ _ _ _ c.self.invariant.part_is c.in-Some.is)) all

pub returns-in-None : goal.returns-in-None
returns-in-None c =
    c.len.ensures ∙ stood_whole _ _ _ c.self.invariant.part_is c.in-None.is c.args.visits.now ∙ ap (λ (a : UpToValue). stood_for a.puzzle a.group c.args.visits.now) c.self.view_is

pub returns-in-Some : goal.returns-in-Some
returns-in-Some c =
    subst (λ (n : ℕ). Returns c.packings.result n)
    (stood_part _ _ _ _ c.self.invariant.part_is c.in-Some.is c.args.visits.now ∙ ap (λ (a : UpToValue). stood_for a.puzzle a.group c.args.visits.now) c.self.view_is) c.packings.ensures
