-- The covered items are distinct items of the problem: one more, one less, and how many.
use Rattle.std.proofs.Common.{◌≡◌, ℕ, ◌+◌, ◌<◌, ◌≤◌, true, not, List, [], ◌∷◌, ◌++◌, length, refl, sym, arith, append_assoc, append-nil, length-append, ◌∙◌}
use Rattle.std.specs.List.{list_all}
use Rattle.std.proofs.lemmas.Bool.{and_parts, not-true, both_ways, false_from_ne_true}
use Rattle.shared_words.specs.Lists.{has, are_distinct}
use Rattle.cover_problem.specs.Problem.{ProblemValue, is_item}
use Rattle.cover_problem.specs.Covering.{uncovered}
use Rattle.cover_problem.specs.Coverable.{IsUncovered, CanCover}
use Rattle.cover_problem.specs.Table.{IsCoveredList}
use Rattle.cover_problem.proofs.BoundLemmas.{item_bounds, item_numbered}
use Rattle.cover_problem.proofs.MemberLemmas.{has_here, has_append_right, all_member}
use Rattle.cover_problem.proofs.PartLemmas.{distinct_parts}
use Rattle.std.proofs.lemmas.List.Folds.{list_all-append}
use Rattle.cover_problem.proofs.PartLemmas.{are_distinct_push}
use Rattle.cover_problem.proofs.MemberLemmas.{all_push}
use Rattle.cover_problem.proofs.ActiveLemmas.{uncovered_from, uncovered_none, uncovered_add, uncovered_less}

pub covered_none : (p : ProblemValue) → IsCoveredList p []
covered_none p = record { distinct = refl; items = refl }

pub covered_item : (p : ProblemValue) (c : List ℕ) (i : ℕ) → IsCoveredList p c → has c i ≡ true → (0 < i) × (i ≤ length p.names)
covered_item p c i a h = item_bounds (length p.names) i (all_member (is_item (length p.names)) c i a.items h)

pub covered_push : (p : ProblemValue) (c : List ℕ) (i : ℕ) → IsCoveredList p c → IsUncovered p c i → IsCoveredList p (c ++ i ∷ [])
covered_push p c i a u = record {
  distinct = are_distinct_push c i a.distinct u.uncovered;
  items = all_push (is_item (length p.names)) c i a.items (item_numbered (length p.names) i u.some u.within);
}

-- what stands at the front is covered by itself
pub covered_front : (p : ProblemValue) (c more : List ℕ) → IsCoveredList p (c ++ more) → IsCoveredList p c
covered_front p c more a = record {
  distinct = (distinct_parts c more a.distinct).0;
  items = (and_parts (list_all (is_item (length p.names)) c) (list_all (is_item (length p.names)) more) (sym (list_all-append (is_item (length p.names)) c more) ∙ a.items)).0;
}

pub covered_pop : (p : ProblemValue) (c : List ℕ) (i : ℕ) → IsCoveredList p (c ++ i ∷ []) → IsCoveredList p c
covered_pop p c i a = covered_front p c (i ∷ []) a

-- what stands in the list is an item that was uncovered before
pub covered_middle : (p : ProblemValue) (c : List ℕ) (i : ℕ) (more : List ℕ) → IsCoveredList p (c ++ i ∷ more) → IsUncovered p c i
covered_middle p c i more a =
    let r = covered_item p (c ++ i ∷ more) i a (has_append_right c (i ∷ more) i (has_here i more)) in
    record {
      some = r.0;
      within = r.1;
      uncovered = false_from_ne_true (has c i) (λ h. both_ways (has (i ∷ more) i) ((distinct_parts c (i ∷ more) a.distinct).2 i h) (has_here i more));
    }

-- the item that was covered last was an uncovered item before
pub covered_last : (p : ProblemValue) (c : List ℕ) (i : ℕ) → IsCoveredList p (c ++ i ∷ []) → IsUncovered p c i
covered_last p c i a = covered_middle p c i [] a

-- *how many are covered*

-- distinct items and the others are all of them
counted : (n : ℕ) (c : List ℕ) → are_distinct c ≡ true → list_all (is_item n) c ≡ true → length c + length (uncovered n c) ≡ n
counted n [] d a = let e = uncovered_none n in omega arith
counted n (i ∷ c) d a =
    let e = and_parts (not (has c i)) (are_distinct c) d in
    let f = and_parts (is_item n i) (list_all (is_item n) c) a in
    let g = item_bounds n i f.0 in
    let later = counted n c e.1 f.1 in
    let less = uncovered_less n c i (uncovered_from n c i (not-true (has c i) e.0) g.0 g.1) in
    let add = uncovered_add n c i in
    omega arith

-- the covered items and the uncovered ones are all
pub covered_whole : (p : ProblemValue) (c : List ℕ) → IsCoveredList p c → length c + length (uncovered (length p.names) c) ≡ length p.names
covered_whole p c a = counted (length p.names) c a.distinct a.items

-- no more items are covered than there are
pub covered_most : (p : ProblemValue) (c : List ℕ) → IsCoveredList p c → length c ≤ length p.names
covered_most p c a = omega (arith, covered_whole p c a)

pub covered_room : (p : ProblemValue) (c : List ℕ) (i : ℕ) → IsCoveredList p c → IsUncovered p c i → length c < length p.names
covered_room p c i a u = omega (arith, covered_most p (c ++ i ∷ []) (covered_push p c i a u), length-append c (i ∷ []))

pub covered_each : (p : ProblemValue) (c xs : List ℕ) → IsCoveredList p c → CanCover p c xs → IsCoveredList p (c ++ xs)
covered_each p c [] a can = rw append-nil a
covered_each p c (x ∷ xs) a can = let b = covered_each p (c ++ x ∷ []) xs (covered_push p c x a can.0) can.1 in rw append_assoc at b
