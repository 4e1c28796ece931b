use Rattle.std.proofs.Common.{ℕ, List, IfOk, ap, sym, subst, ◌∙◌}
use Rattle.shared_words.specs.Answers.{Returns}
use Rattle.cover_problem.specs.Problem.{ProblemValue}
use Rattle.poly_place.specs.Packings.{packing_problem}
use Rattle.poly_place.specs.Listing.{AreExactCovers}
use Rattle.poly_distinct.specs.Distinct.{distinct_paths}
use Rattle.poly_distinct.specs.UpTo.{UpToValue, smaller, new_paths}
use Rattle.poly_distinct.proofs.PartLemmas.{part_is_of, problem_whole, problem_part, paths_whole, paths_part, whole_paths_cover, new_covers, ok_is}
use Rattle.poly_distinct.proofs.up_to.Smaller.distinct_paths.Goals as goal

pub distinct_paths-requires : goal.distinct_paths-requires
distinct_paths-requires c =
    let all = subst (λ (a : UpToValue). AreExactCovers (smaller a.puzzle a.group) c.args.visits.now) (sym c.self.view_is) c.requires in
    subst (λ (q : ProblemValue). AreExactCovers q c.args.visits.now) (sym (problem_whole _ _ _ c.self.invariant.part_is c.in-None.is)) all

pub whole_paths-requires : goal.whole_paths-requires
whole_paths-requires c =
    let all = subst (λ (a : UpToValue). AreExactCovers (smaller a.puzzle a.group) c.args.visits.now) (sym c.self.view_is) c.requires in
    subst (λ (q : ProblemValue). AreExactCovers q c.args.visits.now) (sym (problem_part _ _ _ _ c.self.invariant.part_is c.in-Some.is)) all

pub distinct_with-requires-clause-covers : goal.distinct_with-requires-clause-covers
distinct_with-requires-clause-covers c =
    let all = subst (λ (a : UpToValue). AreExactCovers (smaller a.puzzle a.group) c.args.visits.now) (sym c.self.view_is) c.requires in
    subst (λ (ps : List (List ℕ)). AreExactCovers (packing_problem c.self.inside.compiled.now) ps)
    (sym (c.in_ok-paths-in-Some.ensures ∙ paths_part _ _ _ _ c.self.invariant.part_is c.in-Some.is c.args.visits.now))
    (whole_paths_cover c.self.inside.compiled.now c.self.invariant.sound c.self.inside.group c.args.visits.now all)

pub returns-in-None-clause-paths : goal.returns-in-None-clause-paths
returns-in-None-clause-paths c =
    subst (λ (ps : List (List ℕ)). Returns c.distinct_paths.result ps)
    (ap (distinct_paths c.self.inside.compiled.now c.self.inside.group) (paths_whole _ _ _ c.self.invariant.part_is c.in-None.is c.args.visits.now)
    ∙ ap (λ (a : UpToValue). new_paths a.puzzle a.group c.args.visits.now) c.self.view_is) c.distinct_paths.ensures

pub returns-in-None-clause-covers : goal.returns-in-None-clause-covers
returns-in-None-clause-covers c =
    let all = subst (λ (a : UpToValue). AreExactCovers (smaller a.puzzle a.group) c.args.visits.now) (sym c.self.view_is) c.requires in
    let p = c.self.inside.compiled.now in
    let made = subst (λ (ps : List (List ℕ)). Returns c.distinct_paths.result ps)
    (ap (distinct_paths p c.self.inside.group) (paths_whole _ _ _ c.self.invariant.part_is c.in-None.is c.args.visits.now)) c.distinct_paths.ensures in
    subst (λ (a : UpToValue). IfOk c.distinct_paths.result (λ paths. AreExactCovers (packing_problem a.puzzle) paths)) c.self.view_is
    (ok_is (AreExactCovers (packing_problem p)) c.distinct_paths.result (new_paths p c.self.inside.group c.args.visits.now) made (new_covers p c.self.invariant.sound c.self.inside.group c.args.visits.now all))

pub returns-in_ok-paths-in-Some-clause-paths : goal.returns-in_ok-paths-in-Some-clause-paths
returns-in_ok-paths-in-Some-clause-paths c =
    subst (λ (ps : List (List ℕ)). Returns c.distinct_with.result ps)
    (ap (distinct_paths c.self.inside.compiled.now c.self.inside.group) (c.in_ok-paths-in-Some.ensures ∙ paths_part _ _ _ _ c.self.invariant.part_is c.in-Some.is c.args.visits.now)
    ∙ ap (λ (a : UpToValue). new_paths a.puzzle a.group c.args.visits.now) c.self.view_is) c.distinct_with.ensures

pub returns-in_ok-paths-in-Some-clause-covers : goal.returns-in_ok-paths-in-Some-clause-covers
returns-in_ok-paths-in-Some-clause-covers c =
    let all = subst (λ (a : UpToValue). AreExactCovers (smaller a.puzzle a.group) c.args.visits.now) (sym c.self.view_is) c.requires in
    let p = c.self.inside.compiled.now in
    let made = subst (λ (ps : List (List ℕ)). Returns c.distinct_with.result ps)
    (ap (distinct_paths p c.self.inside.group) (c.in_ok-paths-in-Some.ensures ∙ paths_part _ _ _ _ c.self.invariant.part_is c.in-Some.is c.args.visits.now)) c.distinct_with.ensures in
    subst (λ (a : UpToValue). IfOk c.distinct_with.result (λ paths. AreExactCovers (packing_problem a.puzzle) paths)) c.self.view_is
    (ok_is (AreExactCovers (packing_problem p)) c.distinct_with.result (new_paths p c.self.inside.group c.args.visits.now) made (new_covers p c.self.invariant.sound c.self.inside.group c.args.visits.now all))

pub distinct_with-requires-clause-moves : goal.distinct_with-requires-clause-moves
distinct_with-requires-clause-moves c = c.moves.ensures ∙ part_is_of _ _ _ _ c.self.invariant.part_is c.in-Some.is
