-- Lemmas on where the entries stand: no two stand at one place.
use Rattle.std.proofs.Common.{◌≡◌, ℕ, zero, suc, ◌+◌, ◌-◌, ◌<◌, ◌≤◌, ◌⊎◌, inl, inr, ◌==◌, Bool, true, false, List, [], ◌∷◌, ◌++◌, length, refl, sym, ap, ◌∙◌, subst, arith, length-append, append_assoc, sum_by}
use Rattle.std.specs.List.{before_first, after_first, slice_index_or}
use Rattle.std.proofs.lemmas.List.Sums.{sum_by-cons}
use Rattle.std.proofs.lemmas.Bool.{cases_lt, both_ways}
use Rattle.shared_words.specs.Lists.{has, are_distinct}
use Rattle.cover_problem.specs.Problem.{ProblemValue, IsProblem, option_at, size_of}
use Rattle.cover_problem.proofs.MemberLemmas.{has_here}
use Rattle.cover_problem.proofs.PartLemmas.{before_here, parts_are, distinct_parts}
use Rattle.cover_problem.proofs.ActiveLemmas.{option_is}
use Rattle.cover_links.specs.Layout.{start_from, start_of, index_of, node_index, spacer_of, place_after}

-- the options after the first k and one more
start_next : (a : ℕ) (options : List (List ℕ)) (k : ℕ) → k < length options → start_from a options (suc k) ≡ suc (start_from a options k + length (slice_index_or options k []))
start_next a [] k lt = absurd (omega arith)
start_next a (o ∷ options) zero lt = refl
start_next a (o ∷ options) (suc k) lt = start_next (suc (a + length o)) options k (omega arith)

start_least : (a : ℕ) (options : List (List ℕ)) (k : ℕ) → a ≤ start_from a options k
start_least a options zero = omega arith
start_least a [] (suc k) = omega arith
start_least a (o ∷ options) (suc k) = let r = start_least (suc (a + length o)) options k in omega arith

start_rises : (a : ℕ) (options : List (List ℕ)) (k m : ℕ) → k < m → m ≤ length options → start_from a options k + length (slice_index_or options k []) < start_from a options m
start_rises a [] k m lt le = absurd (omega arith)
start_rises a (o ∷ options) k zero lt le = absurd (omega arith)
start_rises a (o ∷ options) zero (suc m) lt le = let r = start_least (suc (a + length o)) options m in omega arith
start_rises a (o ∷ options) (suc k) (suc m) lt le = start_rises (suc (a + length o)) options k m (omega arith) (omega arith)

start_all : (a : ℕ) (options : List (List ℕ)) → start_from a options (length options) ≡ a + sum_by length options + length options
start_all a [] = omega arith
start_all a (o ∷ options) =
    let r = start_all (suc (a + length o)) options in let s = sum_by-cons (length {A = ℕ}) o options in
    let e : start_from a (o ∷ options) (length (o ∷ options)) ≡ start_from (suc (a + length o)) options (length options) = refl in omega arith

option_same : (p : ProblemValue) (k : ℕ) → option_at p (suc k) ≡ slice_index_or p.options k []
option_same p k = let e : suc k - 1 ≡ k = omega arith in ap (λ i. slice_index_or p.options i []) e

pub start_step : (p : ProblemValue) (k : ℕ) → k < length p.options → start_of p (suc k) ≡ suc (start_of p k + length (option_at p (suc k)))
unfolding start_of
start_step p k lt = start_next (suc (suc (length p.names))) p.options k lt ∙ ap (λ (o : List ℕ). suc (start_from (suc (suc (length p.names))) p.options k + length o)) (sym (option_same p k))

pub start_zero : (p : ProblemValue) → start_of p 0 ≡ suc (suc (length p.names))
unfolding start_of
start_zero p = refl

pub start_low : (p : ProblemValue) (k : ℕ) → suc (suc (length p.names)) ≤ start_of p k
unfolding start_of
start_low p k = start_least (suc (suc (length p.names))) p.options k

pub start_below : (p : ProblemValue) (k m : ℕ) → k < m → m ≤ length p.options → start_of p k + length (option_at p (suc k)) < start_of p m
unfolding start_of
start_below p k m lt le =
    let r = start_rises (suc (suc (length p.names))) p.options k m lt le in
    subst (λ (o : List ℕ). start_from (suc (suc (length p.names))) p.options k + length o < start_from (suc (suc (length p.names))) p.options m) (sym (option_same p k)) r

pub start_last : (p : ProblemValue) → start_of p (length p.options) ≡ size_of p
unfolding start_of
start_last p = let r = start_all (suc (suc (length p.names))) p.options in omega arith

-- ---- where an item stands in its option

pub index_at : (xs : List ℕ) (j : ℕ) (ys : List ℕ) → are_distinct (xs ++ j ∷ ys) ≡ true → index_of j (xs ++ j ∷ ys) ≡ length xs
index_at xs j ys d =
    let t = distinct_parts xs (j ∷ ys) d in
    ap length (before_here xs j ys (pick (has xs j) refl t.2))
  where
    pick : (b : Bool) → has xs j ≡ b → ((x : ℕ) → has xs x ≡ true → has (j ∷ ys) x ≡ false) → has xs j ≡ false
    pick true e h = absurd (both_ways (has (j ∷ ys) j) (h j e) (has_here j ys))
    pick false e h = e

pub index_below : (o : List ℕ) (j : ℕ) → has o j ≡ true → index_of j o < length o
index_below o j h =
    let e = ap length (parts_are j o h) in
    let f = length-append (before_first (λ x. x == j) o) (j ∷ after_first (λ x. x == j) o) in
    omega arith

-- the items of a list stand side by side, from the entry A on
abbrev pub IsRun : ProblemValue → ℕ → ℕ → List ℕ → Type 0
IsRun p k A [] = Unit {0}
IsRun p k A (j ∷ js) = (node_index p j k ≡ A) × IsRun p k (suc A) js

run_from : (p : ProblemValue) (k : ℕ) (xs js : List ℕ) → option_at p (suc k) ≡ xs ++ js → are_distinct (option_at p (suc k)) ≡ true → IsRun p (suc k) (start_of p k + length xs) js
run_from p k xs [] e d = tt
run_from p k xs (j ∷ js) e d =
    let here : index_of j (option_at p (suc k)) ≡ length xs = ap (λ o. index_of j o) e ∙ index_at xs j js (subst (λ o. are_distinct o ≡ true) e d) in
    let more : option_at p (suc k) ≡ (xs ++ j ∷ []) ++ js = e ∙ sym (append_assoc xs (j ∷ []) js) in
    let long : start_of p k + length (xs ++ j ∷ []) ≡ suc (start_of p k + length xs) = omega (arith, length-append xs (j ∷ [])) in
    (ap (λ n. start_of p k + n) here, subst (λ A. IsRun p (suc k) A js) long (run_from p k (xs ++ j ∷ []) js more d))

-- the nodes of an option
pub option_run : (p : ProblemValue) (k : ℕ) → IsProblem p → k < length p.options → IsRun p (suc k) (start_of p k) (option_at p (suc k))
option_run p k s lt =
    let o = option_is p (suc k) s (omega arith) (omega arith) in let none : start_of p k + 0 ≡ start_of p k = omega arith in
    subst (λ A. IsRun p (suc k) A (option_at p (suc k))) none (run_from p k [] (option_at p (suc k)) refl o.distinct)

pub run_parts : (p : ProblemValue) (k A : ℕ) (xs ys : List ℕ) → IsRun p k A (xs ++ ys) → IsRun p k A xs × IsRun p k (A + length xs) ys
run_parts p k A [] ys r = let none : A ≡ A + 0 = omega arith in (tt, subst (λ B. IsRun p k B ys) none r)
run_parts p k A (x ∷ xs) ys r =
    let s = run_parts p k (suc A) xs ys r.1 in let next : suc A + length xs ≡ A + suc (length xs) = omega arith in
    ((r.0, s.0), subst (λ B. IsRun p k B ys) next s.1)

-- the place of the node after that of the item j in the option k
abbrev pub next_place : ProblemValue → ℕ → ℕ → ℕ
next_place p j k = place_after (start_of p (k - 1)) (spacer_of p k) (node_index p j k)

-- ---- no two at one place

-- k numbers an option that has the item j
pub record IsNode (p : ProblemValue) (j k : ℕ) : Type 0 where
  pub some : 0 < k
  pub within : k ≤ length p.options
  pub has_item : has (option_at p k) j ≡ true

pub place_high : (p : ProblemValue) (j k : ℕ) → IsNode p j k → suc (length p.names) < node_index p j k
place_high p j zero n = absurd (omega (arith, n.some))
place_high p j (suc k) n = let r = start_low p k in omega arith

pub place_low : (p : ProblemValue) (j k : ℕ) → IsNode p j k → node_index p j k < size_of p
place_low p j zero n = absurd (omega (arith, n.some))
place_low p j (suc k) n =
    let a = start_below p k (suc k) (omega arith) n.within in let b = index_below (option_at p (suc k)) j n.has_item in let c = start_last p in
    pick a b c (cases_lt (suc k) (length p.options))
  where
    pick : start_of p k + length (option_at p (suc k)) < start_of p (suc k) → index_of j (option_at p (suc k)) < length (option_at p (suc k)) → start_of p (length p.options) ≡ size_of p
        → (suc k < length p.options) ⊎ (length p.options ≤ suc k) → node_index p j (suc k) < size_of p
    pick a b c (inl l) = let r = start_below p (suc k) (length p.options) l (omega arith) in omega arith
    pick a b c (inr l) = let e : suc k ≡ length p.options = omega (arith, n.within) in let f = ap (start_of p) e in omega arith

-- in an option each item has a place of its own
same_item : (o : List ℕ) (i j : ℕ) → has o i ≡ true → has o j ≡ true → index_of i o ≡ index_of j o → i ≡ j
same_item o i j hi hj e =
    heads (before_first (λ x. x == i) o) (before_first (λ x. x == j) o) i j (after_first (λ x. x == i) o) (after_first (λ x. x == j) o) e (sym (parts_are i o hi) ∙ parts_are j o hj)
  where
    heads : (xs ys : List ℕ) (i j : ℕ) (us vs : List ℕ) → length xs ≡ length ys → xs ++ i ∷ us ≡ ys ++ j ∷ vs → i ≡ j
    heads [] [] i j us vs l h = cc
    heads [] (y ∷ ys) i j us vs l h = absurd (omega arith)
    heads (x ∷ xs) [] i j us vs l h = absurd (omega arith)
    heads (x ∷ xs) (y ∷ ys) i j us vs l h = let t : xs ++ i ∷ us ≡ ys ++ j ∷ vs = cc in heads xs ys i j us vs (omega arith) t

pub place_apart : (p : ProblemValue) (i k j m : ℕ) → IsNode p i k → IsNode p j m → node_index p i k ≡ node_index p j m → (i ≡ j) × (k ≡ m)
place_apart p i zero j m a b e = absurd (omega (arith, a.some))
place_apart p i (suc k) j zero a b e = absurd (omega (arith, b.some))
place_apart p i (suc k) j (suc m) a b e = step (cases_lt k m) (cases_lt m k)
  where
    step : (k < m) ⊎ (m ≤ k) → (m < k) ⊎ (k ≤ m) → (i ≡ j) × (suc k ≡ suc m)
    step (inl l) d =
        let r = start_below p k m l (omega (arith, b.within)) in let s = index_below (option_at p (suc k)) i a.has_item in absurd (omega arith)
    step (inr l) (inl d) =
        let r = start_below p m k d (omega (arith, a.within)) in let s = index_below (option_at p (suc m)) j b.has_item in absurd (omega arith)
    step (inr l) (inr d) =
        let same : k ≡ m = omega arith in
        let f = ap (λ x. start_of p x) same in
        let g : index_of j (option_at p (suc m)) ≡ index_of j (option_at p (suc k)) = ap (λ x. index_of j (option_at p (suc x))) (sym same) in
        let q : index_of i (option_at p (suc k)) ≡ index_of j (option_at p (suc k)) = omega arith in
        (same_item (option_at p (suc k)) i j a.has_item (subst (λ x. has (option_at p (suc x)) j ≡ true) (sym same) b.has_item) q, ap suc same)

pub spacer_low : (p : ProblemValue) (k : ℕ) → 0 < k → k ≤ length p.options → (suc (length p.names) < spacer_of p k) × (spacer_of p k < size_of p)
spacer_low p zero a b = absurd (omega arith)
spacer_low p (suc k) a b =
    let l = start_low p k in let r = start_below p k (suc k) (omega arith) b in let c = start_last p in
    (omega arith, pick r c (cases_lt (suc k) (length p.options)))
  where
    pick : start_of p k + length (option_at p (suc k)) < start_of p (suc k) → start_of p (length p.options) ≡ size_of p → (suc k < length p.options) ⊎ (length p.options ≤ suc k) → spacer_of p (suc k) < size_of p
    pick r c (inl l) = let s = start_below p (suc k) (length p.options) l (omega arith) in omega arith
    pick r c (inr l) = let e : suc k ≡ length p.options = omega arith in let f = ap (start_of p) e in omega arith
