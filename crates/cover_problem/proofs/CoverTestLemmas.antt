-- The tests of an exact cover are passed by the exact covers, each option once, and by no other numbers.
use Rattle.std.proofs.Common.{◌≡◌, ℕ, suc, ◌+◌, ◌-◌, ◌<◌, ◌≤◌, nat_le, Bool, true, false, not, ◌&&◌, cond, ◌⊎◌, inl, inr, List, [], ◌∷◌, length, take, get_or, count_by, refl, sym, ap, ◌∙◌, arith, one-add, add-one, subst}
use Rattle.std.proofs.lemmas.Bool.{cases_lt, and_parts, and_from, false≢true, leb-true, le-leb}
use Rattle.std.proofs.lemmas.Bool.Decides.{eqb_tells, nat_tests}
use Rattle.std.proofs.lemmas.List.Sums.{sum_by-append}
use Rattle.std.proofs.lemmas.List.{take_more}
use Rattle.std.specs.List.{list_all}
use Rattle.shared_words.specs.Lists.{has, are_distinct, numbers}
use Rattle.cover_problem.specs.Problem.{ProblemValue, IsProblem, is_item, option_at}
use Rattle.cover_problem.specs.ExactCover.{IsExactCover}
use Rattle.cover_problem.specs.CoverTest.{occurrences, has_right_count, has_primary_item, is_cover}
use Rattle.cover_problem.proofs.BoundLemmas.{item_bounds, item_numbered}
use Rattle.cover_problem.proofs.MemberLemmas.{some_head, has_here, has_later, has_cases, all_member, all_from, some_member, some_from}
use Rattle.cover_problem.proofs.NumberLemmas.{has_numbers, has_numbers_in}
use Rattle.cover_problem.proofs.ActiveLemmas.{option_is}

-- *the loops*

-- the numbers from i on, once i has passed
pub right_count_more : (t : ℕ → Bool) (n i : ℕ) (whole : Bool) → i ≤ n → t i ≡ true → list_all t (numbers (n + 1 - i) i) ≡ whole → list_all t (numbers (n + 1 - (i + 1)) (i + 1)) ≡ whole
right_count_more t n i whole h passed e =
    let m : n + 1 - i ≡ suc (n + 1 - (i + 1)) = omega arith in
    let first : list_all t (numbers (n + 1 - i) i) ≡ (t i && list_all t (numbers (n + 1 - (i + 1)) (suc i))) = ap (λ k. list_all t (numbers k i)) m in
    let rest : (t i && list_all t (numbers (n + 1 - (i + 1)) (suc i))) ≡ list_all t (numbers (n + 1 - (i + 1)) (suc i)) = ap (λ b. b && list_all t (numbers (n + 1 - (i + 1)) (suc i))) passed in
    ap (λ k. list_all t (numbers (n + 1 - (i + 1)) k)) (add-one i) ∙ sym rest ∙ sym first ∙ e

-- *how many pass a test*

counted : (t : ℕ → Bool) (x : ℕ) (xs : List ℕ) → count_by t (x ∷ xs) ≡ cond (t x) 1 0 + count_by t xs
counted t x xs = sum_by-append (λ y. cond (t y) 1 0) (x ∷ []) xs ∙ ap (λ n. n + count_by t xs) (let e : count_by t (x ∷ []) ≡ cond (t x) 1 0 = omega arith in e)

one_more : (t : ℕ → Bool) (x : ℕ) (xs : List ℕ) → t x ≡ true → count_by t (x ∷ xs) ≡ suc (count_by t xs)
one_more t x xs h = counted t x xs ∙ ap (λ b. cond b 1 0 + count_by t xs) h ∙ one-add (count_by t xs)

not_fewer : (t : ℕ → Bool) (x : ℕ) (xs : List ℕ) → count_by t xs ≤ count_by t (x ∷ xs)
not_fewer t x xs = let e = counted t x xs in omega arith

-- one more of a list's front
pub count_more : (t : ℕ → Bool) (xs : List ℕ) (i n m : ℕ) → n ≡ count_by t (take i xs) → i < length xs → m ≡ cond (t (get_or xs i 0)) 1 0 → n + m ≡ count_by t (take (i + 1) xs)
count_more t xs i n m e h k =
    let x = get_or xs i 0 in
    let one : cond (t x) 1 0 ≡ count_by t (x ∷ []) = (let z : count_by t (x ∷ []) ≡ cond (t x) 1 0 = omega arith in sym z) in
    ap (λ c. c + m) e ∙ ap (λ c. count_by t (take i xs) + c) (k ∙ one) ∙ sym (sum_by-append (λ y. cond (t y) 1 0) (take i xs) (x ∷ [])) ∙ ap (count_by t) (sym (take_more xs i 0 h))

-- some pass where a member does
pub count_some : (t : ℕ → Bool) (xs : List ℕ) (x : ℕ) → has xs x ≡ true → t x ≡ true → 0 < count_by t xs
count_some t [] x h e = absurd (cc)
count_some t (y ∷ ys) x h e = step (λ later. count_some t ys x later e) (has_cases y ys x h) where
  step : (has ys x ≡ true → 0 < count_by t ys) → (y ≡ x) ⊎ (has ys x ≡ true) → 0 < count_by t (y ∷ ys)
  step rest (inl same) = let one = one_more t y ys (ap t same ∙ e) in omega arith
  step rest (inr later) = let some = rest later in let more = not_fewer t y ys in omega arith

skips : (t : ℕ → Bool) (y : ℕ) (ys : List ℕ) → t y ≡ false → count_by t (y ∷ ys) ≡ count_by t ys
skips t y ys e = counted t y ys ∙ ap (λ b. cond b 1 0 + count_by t ys) e ∙ (let z : 0 + count_by t ys ≡ count_by t ys = omega arith in z)

-- where some pass, a member does
pub some_count : (t : ℕ → Bool) (xs : List ℕ) → 0 < count_by t xs → (x : ℕ) × (has xs x ≡ true) × (t x ≡ true)
some_count t [] h = absurd (omega arith)
some_count t (y ∷ ys) h = step (some_count t ys) (t y) refl where
  step : (0 < count_by t ys → (x : ℕ) × (has ys x ≡ true) × (t x ≡ true)) → (b : Bool) → t y ≡ b → (x : ℕ) × (has (y ∷ ys) x ≡ true) × (t x ≡ true)
  step rest true e = (y, has_here y ys, e)
  step rest false e = let same = skips t y ys e in let r = rest (omega arith) in (r.0, has_later y ys r.0 r.1, r.2)

-- two members that pass are at least two
pub count_two : (t : ℕ → Bool) (xs : List ℕ) (a b : ℕ) → has xs a ≡ true → has xs b ≡ true → t a ≡ true → t b ≡ true → (a ≡ b → ⊥) → 2 ≤ count_by t xs
count_two t [] a b h k e f apart = absurd (cc)
count_two t (y ∷ ys) a b h k e f apart = step (λ p q. count_two t ys a b p q e f apart) (has_cases y ys a h) (has_cases y ys b k) where
  step : (has ys a ≡ true → has ys b ≡ true → 2 ≤ count_by t ys) → (y ≡ a) ⊎ (has ys a ≡ true) → (y ≡ b) ⊎ (has ys b ≡ true) → 2 ≤ count_by t (y ∷ ys)
  step rest (inl p) (inl q) = absurd (apart (sym p ∙ q))
  step rest (inl p) (inr q) = let one = one_more t y ys (ap t p ∙ e) in let some = count_some t ys b q f in omega arith
  step rest (inr p) (inl q) = let one = one_more t y ys (ap t q ∙ f) in let some = count_some t ys a p e in omega arith
  step rest (inr p) (inr q) = let two = rest p q in let more = not_fewer t y ys in omega arith

not_both : (b : Bool) → not b ≡ true → b ≡ true → ⊥
not_both true h e = false≢true h
not_both false h e = false≢true e

-- the first of distinct numbers doesn't come again
head_once : (y : ℕ) (ys : List ℕ) → are_distinct (y ∷ ys) ≡ true → has ys y ≡ true → ⊥
head_once y ys d = not_both (has ys y) (and_parts (not (has ys y)) (are_distinct ys) d).0

tail_distinct : (y : ℕ) (ys : List ℕ) → are_distinct (y ∷ ys) ≡ true → are_distinct ys ≡ true
tail_distinct y ys d = (and_parts (not (has ys y)) (are_distinct ys) d).1

-- of distinct numbers at most one passes, where no two do
pub count_one : (t : ℕ → Bool) (xs : List ℕ) → are_distinct xs ≡ true → ((a b : ℕ) → has xs a ≡ true → has xs b ≡ true → t a ≡ true → t b ≡ true → a ≡ b) → count_by t xs ≤ 1
count_one t [] d once = omega arith
count_one t (y ∷ ys) d once =
    step (count_one t ys (tail_distinct y ys d) (λ a b h k e f. once a b (has_later y ys a h) (has_later y ys b k) e f)) (t y) refl where
      step : count_by t ys ≤ 1 → (b : Bool) → t y ≡ b → count_by t (y ∷ ys) ≤ 1
      step few false e = let same = skips t y ys e in omega arith
      step few true e =
          let one = one_more t y ys e in
          elim (cases_lt 0 (count_by t ys)) [
            | inr none ↦ omega arith
            | inl some ↦ let w = some_count t ys some in
                let same = once y w.0 (has_here y ys) (has_later y ys w.0 w.1) e w.2 in
                absurd (head_once y ys d (ap (has ys) same ∙ w.1))
          ]

-- numbers each of which passes a test that at most one passes are distinct
pub distinct_counts : (xs : List ℕ) → ((k : ℕ) → has xs k ≡ true → (t : ℕ → Bool) × (t k ≡ true) × (count_by t xs ≤ 1)) → are_distinct xs ≡ true
distinct_counts [] h = refl
distinct_counts (y ∷ ys) h =
    step (distinct_counts ys (λ k m. let w = h k (has_later y ys k m) in let more = not_fewer w.0 y ys in let few = w.2 in (w.0, w.1, omega arith))) (has ys y) refl where
      step : are_distinct ys ≡ true → (b : Bool) → has ys y ≡ b → are_distinct (y ∷ ys) ≡ true
      step rest false e = and_from (not (has ys y)) (are_distinct ys) (ap not e) rest
      step rest true e =
          let w = h y (has_here y ys) in
          let one = one_more w.0 y ys w.1 in
          let some = count_some w.0 ys y e w.1 in
          let few = w.2 in absurd (omega arith)

-- *exact covers*

module _ (p : ProblemValue) (sound : IsProblem p) (chosen : List ℕ) where
  right_count_primary : (i : ℕ) → i ≤ p.primary → has_right_count p chosen i ≡ true → occurrences p chosen i ≡ 1
  right_count_primary i h e = grind (arith, nat_tests)

  right_count_most : (i : ℕ) → has_right_count p chosen i ≡ true → occurrences p chosen i ≤ 1
  right_count_most i e = grind (arith, nat_tests)

  right_count_from : (i : ℕ) → occurrences p chosen i ≤ 1 → (i ≤ p.primary → 0 < occurrences p chosen i) → has_right_count p chosen i ≡ true
  right_count_from i few some = grind (arith, nat_tests)

  first_item : (k : ℕ) → (0 < k) × (k ≤ length p.options) → (i : ℕ) × (has (option_at p k) i ≡ true)
  first_item k r =
      let s = some_head (option_at p k) (option_is p k sound r.0 r.1).some in
      (s.0, subst (λ xs. has xs s.0 ≡ true) (sym s.2) (has_here s.0 s.1))

  same_option : (i a b : ℕ) → has chosen a ≡ true → has chosen b ≡ true → has (option_at p a) i ≡ true → has (option_at p b) i ≡ true → occurrences p chosen i ≤ 1 → a ≡ b
  same_option i a b m n e f few =
      elim (eqb_tells a b) [ inl same ↦ same.1 | inr apart ↦ let two = count_two (λ k. has (option_at p k) i) chosen a b m n e f apart.1 in absurd (omega arith) ]

  pub passes_is : is_cover p chosen ≡ true → (are_distinct chosen ≡ true) × IsExactCover p (has chosen)
  passes_is h =
      let tests = and_parts (list_all (is_item (length p.options)) chosen && list_all (has_right_count p chosen) (numbers (length p.names) 1)) (list_all (has_primary_item p) chosen) h in
      let front = and_parts (list_all (is_item (length p.options)) chosen) (list_all (has_right_count p chosen) (numbers (length p.names) 1)) tests.0 in
      let options : (o : ℕ) → has chosen o ≡ true → (0 < o) × (o ≤ length p.options) = λ o m. item_bounds (length p.options) o (all_member _ chosen o front.0 m) in
      let right : (i : ℕ) → 0 < i → i ≤ length p.names → has_right_count p chosen i ≡ true = λ i a b. all_member _ (numbers (length p.names) 1) i front.1 (has_numbers (length p.names) 1 i a (omega arith)) in
      let items : (o i : ℕ) → has chosen o ≡ true → has (option_at p o) i ≡ true → (0 < i) × (i ≤ length p.names) = λ o i m e. let r = options o m in (option_is p o sound r.0 r.1).items i e in
      let few : (o i : ℕ) → has chosen o ≡ true → has (option_at p o) i ≡ true → occurrences p chosen i ≤ 1 = λ o i m e. let r = items o i m e in right_count_most i (right i r.0 r.1) in (
        distinct_counts chosen (λ k m. let r = options k m in let w = first_item k r in (λ o. has (option_at p o) w.0, w.1, few k w.0 m w.1)),
        record {
          options = options;
          covers = λ i a b. let one = right_count_primary i b (right i a (let w = sound.within in omega arith)) in let some = some_count (λ k. has (option_at p k) i) chosen (omega arith) in (some.0, some.1, some.2);
          once = λ i a b m n e f. same_option i a b m n e f (few a i m e);
          useful = λ o m. let w = some_member (λ i. nat_le i p.primary) (option_at p o) (all_member _ chosen o tests.1 m) in (w.0, (items o w.0 m w.1).0, leb-true w.0 p.primary w.2, w.1);
        },
      )

  pub passes_from : are_distinct chosen ≡ true → IsExactCover p (has chosen) → is_cover p chosen ≡ true
  passes_from d c =
      let options : list_all (is_item (length p.options)) chosen ≡ true = all_from _ chosen (λ o m. let r = c.options o m in item_numbered (length p.options) o r.0 r.1) in
      let right : list_all (has_right_count p chosen) (numbers (length p.names) 1) ≡ true = all_from _ (numbers (length p.names) 1) (λ i m. let r = has_numbers_in (length p.names) 1 i m in
      right_count_from i (count_one (λ k. has (option_at p k) i) chosen d (λ a b h k e f. c.once i a b h k e f))
      (λ b. let w = c.covers i (omega arith) b in count_some (λ k. has (option_at p k) i) chosen w.0 w.1 w.2)) in
      let useful : list_all (has_primary_item p) chosen ≡ true = all_from _ chosen (λ o m. let w = c.useful o m in some_from (λ i. nat_le i p.primary) (option_at p o) w.0 w.3 (le-leb w.0 p.primary w.2)) in
      and_from _ _ (and_from _ _ options right) useful
