-- The options of a problem, and the items that are uncovered and active.
use Rattle.std.proofs.Common.{◌≡◌, ℕ, zero, suc, ◌-◌, ◌<◌, ◌≤◌, ◌==◌, nat_lt, Bool, true, false, not, ◌&&◌, ◌||◌, List, [], ◌∷◌, ◌++◌, length, filter, refl, ap, arith, le_trans}
use Rattle.std.specs.List.{list_all}
use Rattle.std.proofs.lemmas.Bool.{and_parts, ltb-true, not-true, not_from_true, not_from_false}
use Rattle.std.proofs.lemmas.List.Sums.{AllPass-from_list_all}
use Rattle.shared_words.specs.Lists.{has, are_distinct, numbers, RisesFrom}
use Rattle.cover_problem.specs.Problem.{ProblemValue, IsProblem, is_item, is_option, option_at}
use Rattle.cover_problem.specs.Covering.{uncovered, active}
use Rattle.cover_problem.specs.Coverable.{IsUncovered}
use Rattle.cover_problem.proofs.BoundLemmas.{item_bounds}
use Rattle.cover_problem.proofs.MemberLemmas.{has_here, has_append_right, has_append_not, all_member, has_filter_in, has_filter, filter_agree_on, filter_falls, filter_at_most, has_not}
use Rattle.cover_problem.proofs.NumberLemmas.{has_numbers_in, has_numbers, filter_but_one, rises_filter}

-- *what a problem's options are*

-- an option of a problem: not empty, distinct items
pub record IsOptionOf (p : ProblemValue) (option : List ℕ) : Type 0 where
  pub some : 0 < length option
  pub distinct : are_distinct option ≡ true
  pub items : (i : ℕ) → has option i ≡ true → (0 < i) × (i ≤ length p.names)

pub option_is : (p : ProblemValue) (o : ℕ) → IsProblem p → 0 < o → o ≤ length p.options → IsOptionOf p (option_at p o)
option_is p o s l m =
    let t = AllPass-from_list_all (is_option (length p.names)) p.options s.options_are (o - 1) [] (omega arith) in
    let a = and_parts (nat_lt 0 (length (option_at p o)) && are_distinct (option_at p o)) (list_all (is_item (length p.names)) (option_at p o)) t in
    let b = and_parts (nat_lt 0 (length (option_at p o))) (are_distinct (option_at p o)) a.0 in
    record { some = ltb-true 0 (length (option_at p o)) b.0; distinct = b.1; items = λ i h. item_bounds (length p.names) i (all_member (is_item (length p.names)) (option_at p o) i a.1 h) }

pub option_items_in : (p : ProblemValue) (o i : ℕ) → IsProblem p → 0 < o → o ≤ length p.options → has (option_at p o) i ≡ true → (0 < i) × (i ≤ length p.names)
option_items_in p o i s a b h = (option_is p o s a b).items i h

-- *uncovered and active items*

pub uncovered_rises : (n : ℕ) (c : List ℕ) → RisesFrom 1 (uncovered n c)
uncovered_rises n c = rises_filter (λ i. not (has c i)) n 1

pub uncovered_in : (n : ℕ) (c : List ℕ) (i : ℕ) → has (uncovered n c) i ≡ true → (has c i ≡ false) × (0 < i) × (i ≤ n)
uncovered_in n c i h =
    let r = has_filter_in (λ i. not (has c i)) (numbers n 1) i h in
    let s = has_numbers_in n 1 i r.1 in
    (not-true (has c i) r.0, omega arith, omega arith)

pub uncovered_from : (n : ℕ) (c : List ℕ) (i : ℕ) → has c i ≡ false → 0 < i → i ≤ n → has (uncovered n c) i ≡ true
uncovered_from n c i a b d = has_filter (λ i. not (has c i)) (numbers n 1) i (not_from_false (has c i) a) (has_numbers n 1 i b (omega arith))

pub active_rises : (p : ProblemValue) (c : List ℕ) → RisesFrom 1 (active p c)
unfolding active
active_rises p c = uncovered_rises p.primary c

pub active_in : (p : ProblemValue) (c : List ℕ) (i : ℕ) → has (active p c) i ≡ true → (has c i ≡ false) × (0 < i) × (i ≤ p.primary)
unfolding active
active_in p c i h = uncovered_in p.primary c i h

pub active_from : (p : ProblemValue) (c : List ℕ) (i : ℕ) → has c i ≡ false → 0 < i → i ≤ p.primary → has (active p c) i ≡ true
unfolding active
active_from p c i a b d = uncovered_from p.primary c i a b d

-- an active item of a problem is an item that is not covered
pub active_item : (p : ProblemValue) (c : List ℕ) (i : ℕ) → IsProblem p → has (active p c) i ≡ true → IsUncovered p c i
active_item p c i s h = let r = active_in p c i h in record { some = r.1; within = le_trans r.2 s.within; uncovered = r.0 }

pub uncovered_falls : (n : ℕ) (c more : List ℕ) (i : ℕ) → has (uncovered n c) i ≡ true → length (uncovered n (c ++ i ∷ more)) < length (uncovered n c)
uncovered_falls n c more i h =
    let r = has_filter_in (λ i. not (has c i)) (numbers n 1) i h in
    filter_falls (λ i. not (has c i)) (λ j. not (has (c ++ i ∷ more) j)) (numbers n 1) i (λ y e. left y (has_append_not c (i ∷ more) y (not-true (has (c ++ i ∷ more) y) e))) r.1 r.0 (not_from_true (has (c ++ i ∷ more) i) (has_append_right c (i ∷ more) i (has_here i more)))
  where
    left : (y : ℕ) → (has c y ≡ false) × (has (i ∷ more) y ≡ false) → not (has c y) ≡ true
    left y t = not_from_false (has c y) t.0

pub active_falls : (p : ProblemValue) (c more : List ℕ) (i : ℕ) → has (active p c) i ≡ true → length (active p (c ++ i ∷ more)) < length (active p c)
unfolding active
active_falls p c more i h = uncovered_falls p.primary c more i h

-- more covered, no more active
pub active_at_most : (p : ProblemValue) (c more : List ℕ) → length (active p (c ++ more)) ≤ length (active p c)
unfolding active
active_at_most p c more = filter_at_most (λ i. not (has c i)) (λ i. not (has (c ++ more) i)) (numbers p.primary 1) (λ y e. left y (has_append_not c more y (not-true (has (c ++ more) y) e)))
  where
    left : (y : ℕ) → (has c y ≡ false) × (has more y ≡ false) → not (has c y) ≡ true
    left y t = not_from_false (has c y) t.0

pub uncovered_none : (n : ℕ) → length (uncovered n []) ≡ n
uncovered_none n = go n 1
  where
    go : (n k : ℕ) → length (filter (λ i. not (has [] i)) (numbers n k)) ≡ n
    go zero k = refl
    go (suc n) k = ap suc (go n (suc k))

pub uncovered_add : (n : ℕ) (c : List ℕ) (i : ℕ) → length (uncovered n c) ≤ suc (length (uncovered n (i ∷ c)))
uncovered_add n c i =
    let e = filter_but_one (λ j. not (has c j)) i n 1 in
    let f = ap length (filter_agree_on (λ j. not (i == j) && not (has c j)) (λ j. not (has (i ∷ c) j)) (numbers n 1) (λ j h. same (i == j) (has c j))) in
    omega (arith, e, f)
  where
    same : (a b : Bool) → (not a && not b) ≡ not (a || b)
    same true b = refl
    same false b = refl

-- one more covered, one less uncovered
pub uncovered_less : (n : ℕ) (c : List ℕ) (i : ℕ) → has (uncovered n c) i ≡ true → length (uncovered n (i ∷ c)) < length (uncovered n c)
uncovered_less n c i h =
    let r = has_filter_in (λ j. not (has c j)) (numbers n 1) i h in
    filter_falls (λ j. not (has c j)) (λ j. not (has (i ∷ c) j)) (numbers n 1) i (λ y e. not_from_false (has c y) (has_not i c y (not-true (has (i ∷ c) y) e)).1) r.1 r.0 (not_from_true (has (i ∷ c) i) (has_here i c))
