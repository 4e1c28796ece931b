-- Counts of lists that have each number.
use Rattle.std.proofs.Common.{◌≡◌, ℕ, zero, suc, ◌+◌, ◌-◌, ◌<◌, ◌≤◌, ◌^◌, ◌==◌, Bool, true, false, ◌&&◌, ◌||◌, cond, List, [], ◌∷◌, ◌++◌, filter, length, get_or, set, take, drop, refl, sym, ap, ap₂, subst, ◌∙◌, arith, inl, inr, eq-eqb, eqb-true}
use Rattle.std.specs.Prelude.{nat_lt, nat_le}
use Rattle.std.specs.List.{list_all}
use Rattle.std.proofs.Math.Bool.{or-false}
use Rattle.std.proofs.lemmas.Bool.{and_parts, cases_eq, false_from_ne_true, leb-true, lt-ltb, ltb-true, true≢false}
use Rattle.std.proofs.lemmas.List.{drop_more, get_or-set_other, get_or-set_same, length-set, length-take-le, take-append-drop}
use Rattle.std.proofs.lemmas.List.Folds.{list_any-append}
use Rattle.shared_words.specs.Lists.{has, are_distinct, numbers}
use Rattle.cover_problem.specs.Problem.{ProblemValue, IsProblem, is_item, is_option, option_at}
use Rattle.cover_problem.proofs.PartLemmas.{distinct_parts}
use Rattle.poly_cells.specs.Sets.{IsIn}
use Rattle.poly_cells.proofs.MemberLemmas.{all_pass, passes}
use Rattle.poly_cells.proofs.SetLemmas.{in_at, take_next}
use Rattle.poly_place.proofs.CountLemmas.{filter_short}
use Rattle.poly_distinct.specs.Counts.{AreCounts, AreMore}
use Rattle.poly_distinct.specs.Rule.{is_below_all, options_with}
use Rattle.poly_distinct.proofs.StepLemmas.{count_more, count_same}

-- ---- one place more

module _ (places : List ℕ) (i x : ℕ) (lt : i < length places) (is : x ≡ get_or places i x) where
  has_next : (k : ℕ) → has (take (i + 1) places) k ≡ (has (take i places) k || (x == k))
  has_next k =
      ap (λ (ys : List ℕ). has ys k) (take_next places i x lt is)
      ∙ list_any-append (λ y. y == k) (take i places) (x ∷ [])
      ∙ ap (λ b. has (take i places) k || b) (or-false (x == k))

  halves : places ≡ take i places ++ (x ∷ drop (i + 1) places)
  halves = sym (take-append-drop i places) ∙ ap (λ (ys : List ℕ). take i places ++ ys) (drop_more places i x lt ∙ ap (λ y. y ∷ drop (i + 1) places) (sym is))

  -- it's none of those before it
  pub not_before : are_distinct places ≡ true → has (take i places) x ≡ false
  not_before d =
      let parts = distinct_parts (take i places) (x ∷ drop (i + 1) places) (subst (λ (ys : List ℕ). are_distinct ys ≡ true) halves d) in
      let here : has (x ∷ drop (i + 1) places) x ≡ true = ap (λ b. b || has (drop (i + 1) places) x) (eq-eqb x x refl) in
      false_from_ne_true (has (take i places) x) (λ t. true≢false (sym here ∙ parts.2 x t))

  added_one : (b : Bool) → b ≡ false → cond (b || (x == x)) 1 0 ≡ cond b 1 0 + 1
  added_one true e = cc
  added_one false e = ap (λ c. cond c 1 0) (eq-eqb x x refl)

  other : (k : ℕ) → (k ≡ x → ⊥) → (x == k) ≡ false
  other k n = false_from_ne_true (x == k) (λ t. n (sym (eqb-true x k t)))

  pub each_more : are_distinct places ≡ true → (old counts : List ℕ) → x < length old → AreMore old counts (take i places) → AreMore old (set counts x (get_or counts x 0 + 1)) (take (i + 1) places)
  each_more d old counts low m = record {
    long = length-set counts x (get_or counts x 0 + 1) ∙ m.long;
    each = λ k h. elim (cases_eq k x) [
      | inl e ↦
          let P : ℕ → Type 0 = λ j. get_or (set counts x (get_or counts x 0 + 1)) j 0 ≡ get_or old j 0 + cond (has (take (i + 1) places) j) 1 0 in
          let at = m.each x low in
          let one = ap (λ b. cond b 1 0) (has_next x) ∙ added_one (has (take i places) x) (not_before d) in
          let long = m.long in
          let same = get_or-set_same counts x (get_or counts x 0 + 1) 0 (omega (arith, low, long)) in
          subst P (sym e) (omega (arith, at, one, same))
      | inr n ↦
          get_or-set_other counts x k (get_or counts x 0 + 1) 0 n ∙ m.each k h
          ∙ ap (λ b. get_or old k 0 + cond b 1 0) (sym (has_next k ∙ ap (λ b. has (take i places) k || b) (other k n) ∙ or-false (has (take i places) k)))
    ];
  }

pub within_at : (places : List ℕ) (i x n : ℕ) → list_all (λ k. nat_lt k n) places ≡ true → i < length places → x ≡ get_or places i x → x < n
within_at places i x n all lt is =
    ltb-true x n (passes (λ k. nat_lt k n) places all x (subst (λ (y : ℕ). IsIn y places) (sym is) (in_at places i x lt)))

-- ---- one list more

module _ {X : Type 0} (n : ℕ) (f : X → List ℕ) (xs : List X) where
  one_more : (i : ℕ) (x : X) → i < length xs → x ≡ get_or xs i x → (k : ℕ) (b : Bool) → has (f x) k ≡ b
      → length (filter (λ y. has (f y) k) (take i xs)) + cond b 1 0 ≡ length (filter (λ y. has (f y) k) (take (i + 1) xs))
  one_more i x lt is k true h = count_more (λ y. has (f y) k) xs i x (length (filter (λ y. has (f y) k) (take i xs))) lt is h refl
  one_more i x lt is k false h = let same = count_same (λ y. has (f y) k) xs i x (length (filter (λ y. has (f y) k) (take i xs))) lt is h refl in omega (arith, same)

  pub counts_more : (i : ℕ) (x : X) (old new places : List ℕ) → i < length xs → x ≡ get_or xs i x → places ≡ f x → AreCounts n f (take i xs) old → AreMore old new places → AreCounts n f (take (i + 1) xs) new
  counts_more i x old new places lt is p c m = record {
    long = m.long ∙ c.long;
    each = λ k h.
        m.each k (subst (λ (l : ℕ). k < l) (sym c.long) h)
        ∙ ap₂ (λ a b. a + b) (c.each k h) (ap (λ (ps : List ℕ). cond (has ps k) 1 0) p)
        ∙ one_more i x lt is k (has (f x) k) refl;
  }

  -- no count is above the number of lists
  pub counts_low : (i k : ℕ) (counts : List ℕ) → i < length xs → length xs < 2 ^ 32 → AreCounts n f (take i xs) counts → k < length counts → get_or counts k 0 < 2 ^ 32
  counts_low i k counts lt small c h =
      let at = c.each k (subst (λ (l : ℕ). k < l) c.long h) in
      let short = filter_short (λ y. has (f y) k) (take i xs) in
      let part = length-take-le i xs (omega arith) in
      omega (arith, at, short, part, lt, small)

-- the items of an option have places among counts up to the last item
pub option_within : (q : ProblemValue) → IsProblem q → (k : ℕ) → k < length q.options → (counts option : List ℕ) → option ≡ option_at q (k + 1) → length counts ≡ length q.names + 1
    → list_all (λ i. nat_lt i (length counts)) option ≡ true
option_within q z k lt counts option e long =
    let o = get_or q.options k [] in
    let is : option_at q (k + 1) ≡ o = ap (λ (j : ℕ). get_or q.options j []) (let s : k + 1 - 1 ≡ k = omega arith in s) in
    let fits = passes (is_option (length q.names)) q.options z.options_are o (in_at q.options k [] lt) in
    let items = (and_parts (nat_lt 0 (length o) && are_distinct o) (list_all (is_item (length q.names)) o) fits).1 in
    subst (λ (ys : List ℕ). list_all (λ i. nat_lt i (length counts)) ys ≡ true) (sym (e ∙ is))
    (all_pass (λ i. nat_lt i (length counts)) o (λ i j.
    let item = and_parts (nat_lt 0 i) (nat_le i (length q.names)) (passes (is_item (length q.names)) o items i j) in
    let le = leb-true i (length q.names) item.1 in
    lt-ltb i (length counts) (omega (arith, le, long))))

-- ---- tests of numbers in turn

pub same_numbers : (f g : ℕ → Bool) (n k : ℕ) → ((i : ℕ) → k ≤ i → i < k + n → f i ≡ g i) → list_all f (numbers n k) ≡ list_all g (numbers n k)
same_numbers f g zero k h = refl
same_numbers f g (suc n) k h =
    ap₂ (λ a b. a && b) (h k (omega arith) (omega arith)) (same_numbers f g n (suc k) (λ i low high. h i (omega arith) (omega arith)))

-- counts of items, each above a number or not, are counts of options
pub above_all : (q : ProblemValue) → IsProblem q → (n : ℕ) (counts : List ℕ) → AreCounts (length q.names + 1) (λ option. option) q.options counts
    → list_all (λ i. nat_lt n (get_or counts i 0)) (numbers q.primary 1) ≡ is_below_all q n
above_all q z n counts c =
    same_numbers (λ i. nat_lt n (get_or counts i 0)) (λ i. nat_lt n (options_with q i)) q.primary 1 (λ i low high.
    let within = z.within in
    ap (λ k. nat_lt n k) (c.each i (omega (arith, high, within))))
