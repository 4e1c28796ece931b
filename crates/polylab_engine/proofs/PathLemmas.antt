-- Lists of paths in the words of the library: one of them is an element of the list, and paths that rise are sorted; and back.
use Rattle.std.proofs.Common.{◌≡◌, ℕ, inl, inr, List, [], ◌∷◌, Contains, Less, Equal, Greater, refl, sym, ◌∙◌, ap, arith, subst}
use Rattle.std.proofs.lemmas.Bool as bools
use Rattle.std.specs.List.{AllByRecursion}
use Rattle.std.specs.List.Sorted.{IsStrictlySortedBy}
use Rattle.std.specs.Ordering.{nat_cmp, ordering_then}
use Rattle.std.specs.Cmp.{nat_cmp_is}
use Rattle.std.specs.Cmp.Lexicographic.{slice_cmp}
use Rattle.poly_cells.specs.Sets as sets
use Rattle.poly_cells.proofs.SetLemmas.{contains_from_in, in_from_contains}
use Rattle.poly_place.proofs.DistinctLemmas as distinct
use Rattle.cover_problem.specs.Problem.{ProblemValue}
use Rattle.x_steps.specs.Order.{IsIn, PathLess, AllAfter, PathsRise}
use Rattle.x_steps.specs.Covers.{AreCovers}
use Rattle.polylab_engine.specs.Listed.{AreAllCovers}

-- ---- one of the paths

pub in_from : (q : List ℕ) (xs : List (List ℕ)) → IsIn q xs → sets.IsIn q xs
in_from q [] i = absurd i
in_from q (x ∷ xs) i = elim i [ inl e ↦ inl e | inr j ↦ inr (in_from q xs j) ]

pub in_to : (q : List ℕ) (xs : List (List ℕ)) → sets.IsIn q xs → IsIn q xs
in_to q [] i = absurd i
in_to q (x ∷ xs) i = elim i [ inl e ↦ inl e | inr j ↦ inr (in_to q xs j) ]

contained : (q : List ℕ) (xs : List (List ℕ)) → IsIn q xs → Contains xs q
contained q xs i = contains_from_in xs q (in_from q xs i)

found : (q : List ℕ) (xs : List (List ℕ)) → Contains xs q → IsIn q xs
found q xs c = in_to q xs (in_from_contains xs q c)

-- ---- the order

path_less : (q r : List ℕ) → PathLess q r → slice_cmp nat_cmp q r ≡ Less
path_less q [] l = absurd l
path_less [] (y ∷ r) l = refl
path_less (x ∷ q) (y ∷ r) l =
    elim l [
      | inl less ↦ ap (λ o. ordering_then o (slice_cmp nat_cmp q r)) (sym (nat_cmp_is x y Less less))
      | inr same ↦ ap (λ o. ordering_then o (slice_cmp nat_cmp q r)) (sym (nat_cmp_is x y Equal same.0)) ∙ path_less q r same.1
    ]

less_path : (q r : List ℕ) → slice_cmp nat_cmp q r ≡ Less → PathLess q r
less_path [] [] e = absurd (cc)
less_path (x ∷ q) [] e = absurd (cc)
less_path [] (y ∷ r) e = tt
less_path (x ∷ q) (y ∷ r) e =
    elim (bools.cases_order x y) [
      | inl same ↦ inr (same, less_path q r (ap (λ o. ordering_then o (slice_cmp nat_cmp q r)) (nat_cmp_is x y Equal same) ∙ e))
      | inr other ↦ elim other [
        | inl less ↦ inl less
        | inr more ↦ absurd (let greater : Greater ≡ Less = ap (λ o. ordering_then o (slice_cmp nat_cmp q r)) (nat_cmp_is x y Greater more) ∙ e in cc)
      ]
    ]

after_sorted : (q : List ℕ) (xs : List (List ℕ)) → AllAfter q xs → AllByRecursion (λ r. slice_cmp nat_cmp q r ≡ Less) xs
after_sorted q [] a = tt
after_sorted q (x ∷ xs) a = (path_less q x a.0, after_sorted q xs a.1)

sorted_after : (q : List ℕ) (xs : List (List ℕ)) → AllByRecursion (λ r. slice_cmp nat_cmp q r ≡ Less) xs → AllAfter q xs
sorted_after q [] a = tt
sorted_after q (x ∷ xs) a = (less_path q x a.0, sorted_after q xs a.1)

sorted : (xs : List (List ℕ)) → PathsRise xs → IsStrictlySortedBy (slice_cmp nat_cmp) xs
unfolding IsStrictlySortedBy
sorted [] r = tt
sorted (x ∷ xs) r = (after_sorted x xs r.0, sorted xs r.1)

rising : (xs : List (List ℕ)) → IsStrictlySortedBy (slice_cmp nat_cmp) xs → PathsRise xs
unfolding IsStrictlySortedBy
rising [] s = tt
rising (x ∷ xs) s = (sorted_after x xs s.0, rising xs s.1)

pub not_before_itself : (q : List ℕ) → PathLess q q → ⊥
not_before_itself [] l = l
not_before_itself (x ∷ q) l = elim l [ inl less ↦ omega (arith, less) | inr same ↦ not_before_itself q same.1 ]

pub after_member : (q t : List ℕ) (ts : List (List ℕ)) → AllAfter q ts → sets.IsIn t ts → PathLess q t
after_member q t [] l i = absurd i
after_member q t (u ∷ us) l i = elim i [ inl e ↦ subst (λ (v : List ℕ). PathLess q v) (sym e) l.0 | inr j ↦ after_member q t us l.1 j ]

-- none of rising paths comes twice
pub paths_distinct : (paths : List (List ℕ)) → PathsRise paths → distinct.IsDistinct paths
paths_distinct [] rise = tt
paths_distinct (q ∷ qs) rise = ((λ i. not_before_itself q (after_member q q qs rise.0 i)), paths_distinct qs rise.1)

-- ---- exact covers

pub all_covers : (p : ProblemValue) (paths : List (List ℕ)) → PathsRise paths → AreCovers p paths → AreAllCovers p paths
all_covers p paths rise covers = record {
  rise = sorted paths rise;
  sound = λ q i. covers.sound q (found q paths i);
  complete = λ set e. let q = covers.complete set e in (q.0, contained q.0 paths q.1, q.2);
  once = λ q r i j same. covers.once q r (found q paths i) (found r paths j) same;
}

pub all_covers_back : (p : ProblemValue) (paths : List (List ℕ)) → AreAllCovers p paths → PathsRise paths × AreCovers p paths
all_covers_back p paths all = (
  rising paths all.rise,
  record {
    sound = λ q i. all.sound q (contained q paths i);
    complete = λ set e. let q = all.complete set e in (q.0, found q.0 paths q.1, q.2);
    once = λ q r i j same. all.once q r (contained q paths i) (contained r paths j) same;
  },
)
