-- The secondary items that are not covered, one after the other.
use Rattle.std.proofs.Common.{◌≡◌, ℕ, suc, ◌+◌, ◌-◌, ◌≤◌, ◌⊎◌, inl, inr, Bool, true, false, not, List, [], ◌∷◌, ◌++◌, length, get_or, map, filter, All, if◌then◌else◌, arith, refl, sym, ap, ◌∙◌, append-nil}
use Rattle.std.proofs.lemmas.List.{map-append}
use Rattle.std.proofs.lemmas.Bool.{cases_Bool, not_from_true, not_from_false}
use Rattle.shared_words.specs.Lists.{has, numbers}
use Rattle.cover_problem.specs.Problem.{ProblemValue}
use Rattle.cover_problem.specs.Covering.{remaining, list_of}
use Rattle.cover_problem.specs.Table.{IsCoveredList}
use Rattle.cover_problem.proofs.MemberLemmas.{has_at}
use Rattle.cover_problem.proofs.NumberLemmas.{numbers_push}
use Rattle.cover_problem.proofs.CoveredLemmas.{covered_item}
use Rattle.cover_problem.proofs.RemainingLemmas.{list_uncovered}
use Rattle.x_steps.specs.Machine.{secondary}
use Rattle.x_steps.specs.Flags.{AreFlagsOf}

-- of the items up to `before` those that are secondary and not covered have a row each
pub record ListsSecond (p : ProblemValue) (c : List ℕ) (before : ℕ) (rows : List (ℕ × List ℕ)) : Type 0 where
  pub passed : ℕ
  pub reached : p.primary + passed ≡ before
  pub rows_are : rows ≡ map (λ i. (i, remaining p c i)) (filter (λ i. not (has c i)) (numbers passed (p.primary + 1)))

filter_last : (test : ℕ → Bool) (xs : List ℕ) (x : ℕ) (b : Bool) → test x ≡ b → filter test (xs ++ x ∷ []) ≡ filter test xs ++ (if b then x ∷ [] else [])
filter_last test [] x true e = rw e refl
filter_last test [] x false e = rw e refl
filter_last test (y ∷ ys) x b e = step (cases_Bool (test y)) (filter_last test ys x b e)
  where
    step : (test y ≡ true) ⊎ (test y ≡ false) → filter test (ys ++ x ∷ []) ≡ filter test ys ++ (if b then x ∷ [] else []) → filter test (y ∷ ys ++ x ∷ []) ≡ filter test (y ∷ ys) ++ (if b then x ∷ [] else [])
    step (inl t) ih = rw (t, ih) refl
    step (inr t) ih = rw (t, ih) refl

module _ (p : ProblemValue) (c : List ℕ) where
  module _ (before : ℕ) (rows : List (ℕ × List ℕ)) (l : ListsSecond p c before rows) where
    next_is : (p.primary + 1) + l.passed ≡ before + 1
    next_is = let r = l.reached in omega arith

    grown : (b : Bool) → not (has c (before + 1)) ≡ b → filter (λ i. not (has c i)) (numbers (suc l.passed) (p.primary + 1)) ≡ filter (λ i. not (has c i)) (numbers l.passed (p.primary + 1)) ++ (if b then (before + 1) ∷ [] else [])
    grown b e =
        ap (filter (λ i. not (has c i))) (numbers_push l.passed (p.primary + 1) ∙ ap (λ x. numbers l.passed (p.primary + 1) ++ x ∷ []) next_is)
        ∙ filter_last (λ i. not (has c i)) (numbers l.passed (p.primary + 1)) (before + 1) b e

    second_covered : has c (before + 1) ≡ true → ListsSecond p c (before + 1) rows
    second_covered h = record {
      passed = suc l.passed;
      reached = let r = l.reached in omega arith;
      rows_are = l.rows_are ∙ ap (map (λ i. (i, remaining p c i))) (sym (grown false (not_from_true (has c (before + 1)) h) ∙ append-nil (filter (λ i. not (has c i)) (numbers l.passed (p.primary + 1)))));
    }

    second_more : has c (before + 1) ≡ false → (found : List ℕ) → found ≡ list_of p c (before + 1) → ListsSecond p c (before + 1) (rows ++ (before + 1, found) ∷ [])
    second_more h found f = record {
      passed = suc l.passed;
      reached = let r = l.reached in omega arith;
      rows_are =
          let options : found ≡ remaining p c (before + 1) = f ∙ list_uncovered p c (before + 1) h in
          rw (l.rows_are, options, grown true (not_from_false (has c (before + 1)) h)) (sym (map-append (λ (i : ℕ). (i, remaining p c i)) (filter (λ i. not (has c i)) (numbers l.passed (p.primary + 1))) ((before + 1) ∷ [])));
    }

    -- the same, by the item's flag
    module _ (b : Bool) (flag : b ≡ has c (before + 1)) where
      pub second_flagged : b ≡ true → ListsSecond p c (before + 1) rows
      second_flagged e = second_covered (sym flag ∙ e)

      pub second_unflagged : b ≡ false → (table_problem : ProblemValue) → table_problem ≡ p → (found : List ℕ) → found ≡ list_of table_problem c (before + 1) → ListsSecond p c (before + 1) (rows ++ (before + 1, found) ∷ [])
      second_unflagged e table_problem same found f = second_more (sym flag ∙ e) found (f ∙ ap (λ q. list_of q c (before + 1)) same)

  pub second_all : (before : ℕ) (rows : List (ℕ × List ℕ)) → ListsSecond p c before rows → before ≡ length p.names → rows ≡ map (λ i. (i, remaining p c i)) (secondary p c)
  unfolding secondary
  second_all before rows l e =
      let r = l.reached in
      let n : l.passed ≡ length p.names - p.primary = omega arith in
      l.rows_are ∙ ap (λ n. map (λ i. (i, remaining p c i)) (filter (λ i. not (has c i)) (numbers n (p.primary + 1)))) n

-- the covered items are items of the problem
pub covered_within : (table_problem p : ProblemValue) (c list : List ℕ) (n : ℕ) → table_problem ≡ p → n ≡ length p.names → IsCoveredList table_problem c → list ≡ c → All (λ i. i ≤ n) list
covered_within table_problem p c list n same size a e k d l =
    let within = (covered_item table_problem c (get_or c k d) a (has_at c k d (rw e at l))).1 in
    let names : length table_problem.names ≡ n = ap (λ (q : ProblemValue). length q.names) same ∙ sym size in
    rw (e, ← names) within

-- what a flag says
pub flag_is : (flags slice : List Bool) (list c : List ℕ) (n item : ℕ) (b : Bool) → AreFlagsOf flags n list → list ≡ c → slice ≡ flags → b ≡ get_or slice item false → item ≤ n → b ≡ has c item
flag_is flags slice list c n item b a e f g l = g ∙ ap (λ m. get_or m item false) f ∙ a.flagged item l ∙ ap (λ c. has c item) e
