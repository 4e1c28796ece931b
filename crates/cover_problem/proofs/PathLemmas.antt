-- Choices one after another, and what they cover.
use Rattle.std.proofs.Common.{◌≡◌, ℕ, suc, ◌+◌, ◌<◌, ◌≤◌, ◌⊎◌, ◌==◌, true, false, not, List, [], ◌∷◌, ◌++◌, length, refl, sym, ap, inl, inr, arith, append_assoc, append-nil, length-append}
use Rattle.std.specs.List.{list_any, before_first, after_first}
use Rattle.std.proofs.lemmas.Bool.{or_left, or_from, and_parts, eq-eqb, ne_eqb, not-true, both_ways}
use Rattle.shared_words.specs.Lists.{has, are_distinct}
use Rattle.cover_problem.specs.Problem.{ProblemValue, IsProblem, option_at}
use Rattle.cover_problem.specs.Covering.{active, choice}
use Rattle.cover_problem.specs.Path.{others, taken, IsChoice, covered_from, IsValidFrom, covered_by, IsValid}
use Rattle.cover_problem.specs.Coverable.{IsUncovered, CanCover}
use Rattle.cover_problem.specs.Table.{IsCoveredList}
use Rattle.cover_problem.proofs.MemberLemmas.{has_cases, has_here, has_later, has_append_cases, has_append_left, has_append_right, has_append_not_from, none_member}
use Rattle.cover_problem.proofs.PartLemmas.{parts_are, distinct_swap}
use Rattle.cover_problem.proofs.ActiveLemmas.{IsOptionOf, option_is, active_falls, active_at_most, uncovered_none}
use Rattle.cover_problem.proofs.CoveredLemmas.{covered_none, covered_push, covered_each}
use Rattle.cover_problem.proofs.RemainingLemmas.{remaining_in, remaining_has, choice_active}

-- *choices and paths*

-- the option that was chosen has the chosen item, none that is covered, and a number
pub record IsTaken (p : ProblemValue) (c : List ℕ) (o : ℕ) : Type 0 where
  pub item : has (option_at p o) (choice p c) ≡ true
  pub free : list_any (has c) (option_at p o) ≡ false
  pub some : 0 < o
  pub within : o ≤ length p.options
  pub chosen : has (active p c) (choice p c) ≡ true

pub choice_has : (p : ProblemValue) (c : List ℕ) (o : ℕ) → IsChoice p c o → IsTaken p c o
choice_has p c o h =
    let r = remaining_in p c (choice p c) o h.left in
    let s = remaining_has p c (choice p c) o h.left in
    record { item = s.0; free = s.1; some = r.1; within = r.2; chosen = choice_active p c h.active }

pub choice_falls : (p : ProblemValue) (c : List ℕ) (o : ℕ) → IsChoice p c o → length (active p (taken p c o)) < length (active p c)
unfolding taken
choice_falls p c o h = active_falls p c (others (choice p c) (option_at p o)) (choice p c) (choice_active p c h.active)

pub covered_from_push : (p : ProblemValue) (c path : List ℕ) (o : ℕ) → covered_from p c (path ++ o ∷ []) ≡ taken p (covered_from p c path) o
covered_from_push p c [] o = refl
covered_from_push p c (x ∷ path) o = covered_from_push p (taken p c x) path o

pub valid_from_push : (p : ProblemValue) (c path : List ℕ) (o : ℕ) → IsValidFrom p c path → IsChoice p (covered_from p c path) o → IsValidFrom p c (path ++ o ∷ [])
valid_from_push p c [] o v h = (h, tt)
valid_from_push p c (x ∷ path) o v h = (v.0, valid_from_push p (taken p c x) path o v.1 h)

pub valid_from_pop : (p : ProblemValue) (c path : List ℕ) (o : ℕ) → IsValidFrom p c (path ++ o ∷ []) → IsValidFrom p c path × IsChoice p (covered_from p c path) o
valid_from_pop p c [] o v = (tt, v.0)
valid_from_pop p c (x ∷ path) o v = let r = valid_from_pop p (taken p c x) path o v.1 in ((v.0, r.0), r.1)

-- one more choice at the path's end
pub covered_by_push : (p : ProblemValue) (path : List ℕ) (o : ℕ) → covered_by p (path ++ o ∷ []) ≡ taken p (covered_by p path) o
unfolding covered_by
covered_by_push p path o = covered_from_push p [] path o

pub covered_by_none : (p : ProblemValue) → covered_by p [] ≡ []
unfolding covered_by
covered_by_none p = refl

pub valid_push : (p : ProblemValue) (path : List ℕ) (o : ℕ) → IsValid p path → IsChoice p (covered_by p path) o → IsValid p (path ++ o ∷ [])
unfolding covered_by IsValid
valid_push p path o v h = valid_from_push p [] path o v h

pub valid_pop : (p : ProblemValue) (path : List ℕ) (o : ℕ) → IsValid p (path ++ o ∷ []) → IsValid p path × IsChoice p (covered_by p path) o
unfolding covered_by IsValid
valid_pop p path o v = valid_from_pop p [] path o v

pub valid_start : (p : ProblemValue) → IsValid p []
unfolding IsValid
valid_start p = tt

pub depth_from : (p : ProblemValue) (c path : List ℕ) → IsValidFrom p c path → length path + length (active p (covered_from p c path)) ≤ length (active p c)
depth_from p c [] v = omega arith
depth_from p c (o ∷ path) v = let r = depth_from p (taken p c o) path v.1 in let s = choice_falls p c o v.0 in omega arith

pub active_most : (p : ProblemValue) (c : List ℕ) → length (active p c) ≤ p.primary
unfolding active
active_most p c = let r = active_at_most p [] c in omega (arith, uncovered_none p.primary)

-- a path has at most as many choices as there are primary items, and fewer where an item is active
pub depth : (p : ProblemValue) (path : List ℕ) → IsValid p path → length path + length (active p (covered_by p path)) ≤ p.primary
unfolding covered_by IsValid
depth p path v = let r = depth_from p [] path v in omega (arith, active_most p [])

-- *covering an option*

pub can_parts : (p : ProblemValue) (c xs ys : List ℕ) → CanCover p c (xs ++ ys) → CanCover p c xs × CanCover p (c ++ xs) ys
can_parts p c [] ys h = (tt, rw append-nil h)
can_parts p c (x ∷ xs) ys h = let r = can_parts p (c ++ x ∷ []) xs ys h.1 in ((h.0, r.0), rw append_assoc at r.1)

-- distinct uncovered items can be covered one after another
pub can_from : (p : ProblemValue) (c xs : List ℕ) → ((x : ℕ) → has xs x ≡ true → IsUncovered p c x) → are_distinct xs ≡ true → CanCover p c xs
can_from p c [] each d = tt
can_from p c (x ∷ xs) each d =
    let t = and_parts (not (has xs x)) (are_distinct xs) d in
    (each x (has_here x xs), can_from p (c ++ x ∷ []) xs (λ y i. later (not-true (has xs x) t.0) y i (each y (has_later x xs y i))) t.1)
  where
    apart : has xs x ≡ false → (y : ℕ) → has xs y ≡ true → x ≡ y → ⊥
    apart n y i e = both_ways (has xs y) (rw e at n) i

    later : has xs x ≡ false → (y : ℕ) → has xs y ≡ true → IsUncovered p c y → IsUncovered p (c ++ x ∷ []) y
    later n y i u = record { some = u.some; within = u.within; uncovered = has_append_not_from c (x ∷ []) y u.uncovered (or_from (x == y) false (ne_eqb x y (apart n y i)) refl) }

pub others_in : (i : ℕ) (option : List ℕ) (x : ℕ) → has option i ≡ true → has (others i option) x ≡ true → has option x ≡ true
others_in i option x h m = rw (← parts_are i option h) at (step (has_append_cases (after_first (λ x. x == i) option) (before_first (λ x. x == i) option) x m))
  where
    step : (has (after_first (λ x. x == i) option) x ≡ true) ⊎ (has (before_first (λ x. x == i) option) x ≡ true) → has (before_first (λ x. x == i) option ++ i ∷ after_first (λ x. x == i) option) x ≡ true
    step (inl a) = has_append_right (before_first (λ x. x == i) option) (i ∷ after_first (λ x. x == i) option) x (has_later i (after_first (λ x. x == i) option) x a)
    step (inr b) = has_append_left (before_first (λ x. x == i) option) (i ∷ after_first (λ x. x == i) option) x b

-- the others, and i, are the option
pub others_has : (i : ℕ) (option : List ℕ) (x : ℕ) → has option x ≡ true → has option i ≡ true → has (i ∷ others i option) x ≡ true
others_has i option x m h = step (has_append_cases (before_first (λ x. x == i) option) (i ∷ after_first (λ x. x == i) option) x (rw (parts_are i option h) at m))
  where
    at_or_after : (i ≡ x) ⊎ (has (after_first (λ x. x == i) option) x ≡ true) → has (i ∷ others i option) x ≡ true
    at_or_after (inl e) = or_left (i == x) (has (others i option) x) (eq-eqb i x e)
    at_or_after (inr a) = has_later i (others i option) x (has_append_left (after_first (λ x. x == i) option) (before_first (λ x. x == i) option) x a)

    step : (has (before_first (λ x. x == i) option) x ≡ true) ⊎ (has (i ∷ after_first (λ x. x == i) option) x ≡ true) → has (i ∷ others i option) x ≡ true
    step (inl b) = has_later i (others i option) x (has_append_right (after_first (λ x. x == i) option) (before_first (λ x. x == i) option) x b)
    step (inr a) = at_or_after (has_cases i (after_first (λ x. x == i) option) x a)

pub length-others : (i : ℕ) (option : List ℕ) → has option i ≡ true → suc (length (others i option)) ≡ length option
length-others i option h =
    let e = ap length (parts_are i option h) in
    let f = length-append (before_first (λ x. x == i) option) (i ∷ after_first (λ x. x == i) option) in
    let g = length-append (after_first (λ x. x == i) option) (before_first (λ x. x == i) option) in
    omega arith

pub others_distinct : (i : ℕ) (option : List ℕ) → are_distinct option ≡ true → has option i ≡ true → are_distinct (i ∷ others i option) ≡ true
others_distinct i option d h = distinct_swap (before_first (λ x. x == i) option) (i ∷ after_first (λ x. x == i) option) (rw (parts_are i option h) at d)

-- an option's items, from one on, can be covered where none of them is covered
pub can_option : (p : ProblemValue) (c : List ℕ) (i o : ℕ) → IsProblem p → 0 < o → o ≤ length p.options → has (option_at p o) i ≡ true → list_any (has c) (option_at p o) ≡ false → CanCover p c (i ∷ others i (option_at p o))
can_option p c i o s a b h n =
    let option = option_is p o s a b in
    can_from p c (i ∷ others i (option_at p o)) (λ x m. each option x (member x (has_cases i (others i (option_at p o)) x m))) (others_distinct i (option_at p o) option.distinct h)
  where
    member : (x : ℕ) → (i ≡ x) ⊎ (has (others i (option_at p o)) x ≡ true) → has (option_at p o) x ≡ true
    member x (inl e) = rw e at h
    member x (inr m) = others_in i (option_at p o) x h m

    each : IsOptionOf p (option_at p o) → (x : ℕ) → has (option_at p o) x ≡ true → IsUncovered p c x
    each option x m = let r = option.items x m in record { some = r.0; within = r.1; uncovered = none_member (has c) (option_at p o) x n m }

-- where an option is chosen, the item and then the others can be covered
pub can_take : (p : ProblemValue) (c : List ℕ) (o : ℕ) → IsProblem p → IsChoice p c o → IsUncovered p c (choice p c) × CanCover p (c ++ choice p c ∷ []) (others (choice p c) (option_at p o))
can_take p c o s h = let t = choice_has p c o h in can_option p c (choice p c) o s t.some t.within t.item t.free

pub taken_is : (p : ProblemValue) (c : List ℕ) (o : ℕ) → taken p c o ≡ (c ++ choice p c ∷ []) ++ others (choice p c) (option_at p o)
unfolding taken
taken_is p c o = sym (append_assoc c (choice p c ∷ []) (others (choice p c) (option_at p o)))

pub length-taken : (p : ProblemValue) (c : List ℕ) (o : ℕ) → IsChoice p c o → length (taken p c o) ≡ length c + length (option_at p o)
unfolding taken
length-taken p c o h =
    let t = choice_has p c o h in
    let e = length-others (choice p c) (option_at p o) t.item in
    let f = length-append c (choice p c ∷ others (choice p c) (option_at p o)) in
    omega arith

-- what a path covers are distinct items
pub covered_taken : (p : ProblemValue) (c : List ℕ) (o : ℕ) → IsProblem p → IsCoveredList p c → IsChoice p c o → IsCoveredList p (taken p c o)
covered_taken p c o s a h = let t = can_take p c o s h in
    rw (taken_is p c o) (covered_each p (c ++ choice p c ∷ []) (others (choice p c) (option_at p o)) (covered_push p c (choice p c) a t.0) t.1)

pub covered_path_from : (p : ProblemValue) (c path : List ℕ) → IsProblem p → IsCoveredList p c → IsValidFrom p c path → IsCoveredList p (covered_from p c path)
covered_path_from p c [] s a v = a
covered_path_from p c (o ∷ path) s a v = covered_path_from p (taken p c o) path s (covered_taken p c o s a v.0) v.1

pub covered_path : (p : ProblemValue) (path : List ℕ) → IsProblem p → IsValid p path → IsCoveredList p (covered_by p path)
unfolding covered_by IsValid
covered_path p path s v = covered_path_from p [] path s (covered_none p) v
