-- The options that are left for an item, its list, and the choice.
use Rattle.std.proofs.Common.{◌≡◌, ℕ, ◌-◌, ◌<◌, ◌≤◌, ◌⊎◌, ◌==◌, nat_le, true, false, not, unwrap_or, List, [], ◌∷◌, ◌++◌, length, find, ap, inl, inr, arith}
use Rattle.std.specs.List.{list_any, slice_index_or, before_first}
use Rattle.std.proofs.lemmas.Bool.{and_parts, cases_Bool, cases_lt, leb-true, leb-false, le-leb, not-true}
use Rattle.shared_words.specs.Lists.{has, numbers, RisesFrom}
use Rattle.cover_problem.specs.Problem.{ProblemValue, option_at}
use Rattle.cover_problem.specs.Covering.{active, is_remaining, remaining_among, remaining, list_of, is_shortest, choice}
use Rattle.cover_problem.proofs.MemberLemmas.{all_member, all_from, not_all, has_filter_in, has_filter, least_is, has_some, some_head}
use Rattle.cover_problem.proofs.NumberLemmas.{has_numbers_in, has_numbers, rises_filter}
use Rattle.cover_problem.proofs.PartLemmas.{before_here, before_none}
use Rattle.cover_problem.proofs.RisingLemmas.{IsFirst, find_first}
use Rattle.cover_problem.proofs.ActiveLemmas.{active_rises}

-- *the options left*

pub left_rises : (options : List (List ℕ)) (c : List ℕ) (j : ℕ) → RisesFrom 1 (remaining_among options c j)
left_rises options c j = rises_filter (λ k. is_remaining c j (slice_index_or options (k - 1) [])) (length options) 1

pub remaining_rises : (p : ProblemValue) (c : List ℕ) (j : ℕ) → RisesFrom 1 (remaining p c j)
unfolding remaining
remaining_rises p c j = left_rises p.options c j

pub remaining_in : (p : ProblemValue) (c : List ℕ) (j o : ℕ) → has (remaining p c j) o ≡ true → (is_remaining c j (option_at p o) ≡ true) × (0 < o) × (o ≤ length p.options)
unfolding remaining
remaining_in p c j o h =
    let r = has_filter_in (λ k. is_remaining c j (option_at p k)) (numbers (length p.options) 1) o h in
    let s = has_numbers_in (length p.options) 1 o r.1 in
    (r.0, omega arith, omega arith)

pub remaining_from : (p : ProblemValue) (c : List ℕ) (j o : ℕ) → is_remaining c j (option_at p o) ≡ true → 0 < o → o ≤ length p.options → has (remaining p c j) o ≡ true
unfolding remaining
remaining_from p c j o t a b = has_filter (λ k. is_remaining c j (option_at p k)) (numbers (length p.options) 1) o t (has_numbers (length p.options) 1 o a (omega arith))

-- the option has the item, and none that is covered
pub remaining_has : (p : ProblemValue) (c : List ℕ) (j o : ℕ) → has (remaining p c j) o ≡ true → (has (option_at p o) j ≡ true) × (list_any (has c) (option_at p o) ≡ false)
remaining_has p c j o h =
    let t = and_parts (has (option_at p o) j) (not (list_any (has c) (option_at p o))) (remaining_in p c j o h).0 in
    (t.0, not-true (list_any (has c) (option_at p o)) t.1)

pub list_rises : (p : ProblemValue) (c : List ℕ) (j : ℕ) → RisesFrom 1 (list_of p c j)
unfolding list_of
list_rises p c j = remaining_rises p (before_first (λ x. x == j) c) j

pub list_in : (p : ProblemValue) (c : List ℕ) (j o : ℕ) → has (list_of p c j) o ≡ true → (has (option_at p o) j ≡ true) × (0 < o) × (o ≤ length p.options)
unfolding list_of
list_in p c j o h =
    let r = remaining_in p (before_first (λ x. x == j) c) j o h in
    let s = remaining_has p (before_first (λ x. x == j) c) j o h in
    (s.0, r.1, r.2)

-- the list of an item that is not covered is what is left
pub list_uncovered : (p : ProblemValue) (c : List ℕ) (j : ℕ) → has c j ≡ false → list_of p c j ≡ remaining p c j
unfolding list_of
list_uncovered p c j h = ap (λ d. remaining p d j) (before_none j c h)

-- and stays so once it is covered
pub list_covered : (p : ProblemValue) (c : List ℕ) (j : ℕ) (more : List ℕ) → has c j ≡ false → list_of p (c ++ j ∷ more) j ≡ remaining p c j
unfolding list_of
list_covered p c j more h = ap (λ d. remaining p d j) (before_here c j more h)

-- *the choice*

-- the choice is the first active item that passes the test of the shortest
pub choice_first : (p : ProblemValue) (c : List ℕ) → 0 < length (active p c) → IsFirst (is_shortest p c) (active p c) (choice p c)
unfolding choice
choice_first p c h = step (some_head (active p c) h)
  where
    step : ((y : ℕ) × (ys : List ℕ) × (active p c ≡ y ∷ ys)) → IsFirst (is_shortest p c) (active p c) (unwrap_or (find (is_shortest p c) (active p c)) 0)
    step s =
        let w = λ (j : ℕ). length (remaining p c j) in
        let l = least_is w s.0 s.1 in
        find_first (is_shortest p c) 1 (active p c) l.0 (active_rises p c) (rw s.2 l.1)
        (all_from (λ i. nat_le (w l.0) (w i)) (active p c) (λ i m. le-leb (w l.0) (w i) (l.2 i (rw s.2 at m))))

pub choice_active : (p : ProblemValue) (c : List ℕ) → 0 < length (active p c) → has (active p c) (choice p c) ≡ true
choice_active p c h = (choice_first p c h).member

pub choice_least : (p : ProblemValue) (c : List ℕ) (i : ℕ) → has (active p c) i ≡ true → length (remaining p c (choice p c)) ≤ length (remaining p c i)
choice_least p c i h =
    let s = choice_first p c (has_some (active p c) i h) in
    leb-true (length (remaining p c (choice p c))) (length (remaining p c i)) (all_member (λ i. nat_le (length (remaining p c (choice p c))) (length (remaining p c i))) (active p c) i s.passes h)

pub choice_before : (p : ProblemValue) (c : List ℕ) (i : ℕ) → has (active p c) i ≡ true → i < choice p c → length (remaining p c (choice p c)) < length (remaining p c i)
choice_before p c i h l = step (cases_Bool (is_shortest p c i))
  where
    step : (is_shortest p c i ≡ true) ⊎ (is_shortest p c i ≡ false) → length (remaining p c (choice p c)) < length (remaining p c i)
    step (inl t) = let s = (choice_first p c (has_some (active p c) i h)).first i h t in absurd (omega arith)
    step (inr t) =
        let r = not_all (λ j. nat_le (length (remaining p c i)) (length (remaining p c j))) (active p c) t in
        let a = leb-false (length (remaining p c i)) (length (remaining p c r.0)) r.2 in
        let b = choice_least p c r.0 r.1 in
        omega arith

-- nothing else is first among the shortest
pub choice_unique : (p : ProblemValue) (c : List ℕ) (k : ℕ) → has (active p c) k ≡ true → ((i : ℕ) → has (active p c) i ≡ true → length (remaining p c k) ≤ length (remaining p c i)) → ((i : ℕ) → has (active p c) i ≡ true → i < k → length (remaining p c k) < length (remaining p c i)) → k ≡ choice p c
choice_unique p c k h least before = step (cases_lt (choice p c) k)
  where
    f : IsFirst (is_shortest p c) (active p c) (choice p c)
    f = choice_first p c (has_some (active p c) k h)

    down : choice p c ≤ k
    down = f.first k h (all_from (λ i. nat_le (length (remaining p c k)) (length (remaining p c i))) (active p c) (λ i m. le-leb (length (remaining p c k)) (length (remaining p c i)) (least i m)))

    step : (choice p c < k) ⊎ (k ≤ choice p c) → k ≡ choice p c
    step (inl l) = let a = before (choice p c) f.member l in let b = choice_least p c k h in absurd (omega arith)
    step (inr l) = let d = down in omega arith
