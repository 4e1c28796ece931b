-- Flags follow the list of items that they stand for.
use Rattle.std.proofs.Common.{◌≡◌, ℕ, ◌+◌, ◌<◌, ◌≤◌, ◌⊎◌, ◌&&◌, Bool, true, false, not, List, [], ◌∷◌, ◌++◌, length, get_or, take, refl, sym, ◌∙◌, subst, inl, inr, arith, append_assoc, add-one, All, get_or-set_same, get_or-set_other}
use Rattle.std.proofs.Math.ListN.{set}
use Rattle.std.proofs.Math.Seq.{take-suc}
use Rattle.std.specs.List.{list_any}
use Rattle.std.proofs.lemmas.List.{length-set, take_all, take-append-le}
use Rattle.std.proofs.lemmas.Bool.{cases_eq, cases_Bool, both_ways, false_from_ne_true}
use Rattle.shared_words.specs.Lists.{has}
use Rattle.cover_problem.specs.Problem.{ProblemValue, IsProblem, option_at}
use Rattle.cover_problem.specs.Covering.{is_remaining, remaining}
use Rattle.cover_problem.specs.Path.{IsChoice, taken}
use Rattle.cover_problem.proofs.MemberLemmas.{has_at, has_here, has_later, has_push_other, has_append_cases, has_append_left, has_append_right}
use Rattle.cover_problem.proofs.ActiveLemmas.{option_is}
use Rattle.cover_problem.proofs.RemainingLemmas.{remaining_in, remaining_from}
use Rattle.cover_problem.proofs.CoverLemmas.{taken_keeps, taken_covers, taken_cases}
use Rattle.x_steps.specs.Flags.{AreFlagsOf}

pub flags_more : (flags : List Bool) (items : List ℕ) (k n : ℕ) (c : List ℕ) → AreFlagsOf flags n (c ++ take k items) → k < length items → get_or items k 0 < length flags
    → AreFlagsOf (set flags (get_or items k 0) true) n (c ++ take (k + 1) items)
flags_more flags items k n c a l w = record { size = length-set flags (get_or items k 0) true ∙ a.size; flagged = λ i b. step i b (cases_eq (get_or items k 0) i) }
  where
    grown : c ++ take (k + 1) items ≡ (c ++ take k items) ++ get_or items k 0 ∷ []
    grown = rw (add-one, take-suc items k 0 l) (sym (append_assoc c (take k items) (get_or items k 0 ∷ [])))

    step : (i : ℕ) → i ≤ n → (get_or items k 0 ≡ i) ⊎ (get_or items k 0 ≡ i → ⊥) → get_or (set flags (get_or items k 0) true) i false ≡ has (c ++ take (k + 1) items) i
    step i b (inl e) = rw (← e, grown)
        (get_or-set_same flags (get_or items k 0) true false w ∙ sym (has_append_right (c ++ take k items) (get_or items k 0 ∷ []) (get_or items k 0) (has_here (get_or items k 0) [])))
    step i b (inr e) = rw grown (get_or-set_other flags (get_or items k 0) i true false (λ f. e (sym f)) ∙ a.flagged i b ∙ sym (has_push_other (c ++ take k items) (get_or items k 0) i e))

-- flags see the members alone
flags_same : (flags : List Bool) (n : ℕ) (c d : List ℕ) → ((i : ℕ) → has c i ≡ has d i) → AreFlagsOf flags n c → AreFlagsOf flags n d
flags_same flags n c d e a = record { size = a.size; flagged = λ i b. a.flagged i b ∙ e i }

-- an option's items flagged beside those of c are what is covered once it was taken
pub flags_taken : (p : ProblemValue) (c : List ℕ) (o : ℕ) (flags : List Bool) (n : ℕ) → IsChoice p c o → AreFlagsOf flags n (c ++ option_at p o) → AreFlagsOf flags n (taken p c o)
flags_taken p c o flags n h a = flags_same flags n (c ++ option_at p o) (taken p c o) (λ i. same i (cases_Bool (has (c ++ option_at p o) i)) (cases_Bool (has (taken p c o) i))) a
  where
    here : (i : ℕ) → (has c i ≡ true) ⊎ (has (option_at p o) i ≡ true) → has (taken p c o) i ≡ true
    here i (inl m) = taken_keeps p c o i m
    here i (inr m) = taken_covers p c o i h m

    back : (i : ℕ) → (has c i ≡ true) ⊎ (has (option_at p o) i ≡ true) → has (c ++ option_at p o) i ≡ true
    back i (inl m) = has_append_left c (option_at p o) i m
    back i (inr m) = has_append_right c (option_at p o) i m

    same : (i : ℕ) → (has (c ++ option_at p o) i ≡ true) ⊎ (has (c ++ option_at p o) i ≡ false) → (has (taken p c o) i ≡ true) ⊎ (has (taken p c o) i ≡ false) → has (c ++ option_at p o) i ≡ has (taken p c o) i
    same i (inl a) (inl b) = a ∙ sym b
    same i (inl a) (inr b) = absurd (both_ways (has (taken p c o) i) b (here i (has_append_cases c (option_at p o) i a)))
    same i (inr a) (inl b) = absurd (both_ways (has (c ++ option_at p o) i) a (back i (taken_cases p c o i h b)))
    same i (inr a) (inr b) = a ∙ sym b

-- a flag tells of each item whether it is in c
pub any_is : (flags : List Bool) (n : ℕ) (c items : List ℕ) → AreFlagsOf flags n c → ((i : ℕ) → has items i ≡ true → i ≤ n) → list_any (λ i. get_or flags i false) items ≡ list_any (has c) items
any_is flags n c [] a w = refl
any_is flags n c (x ∷ items) a w =
    let ih = any_is flags n c items a (λ i h. w i (has_later x items i h)) in
    let here = a.flagged x (w x (has_here x items)) in
    rw (here, ih) refl

pub all_within : (flags : List Bool) (n : ℕ) (c items : List ℕ) → AreFlagsOf flags n c → ((i : ℕ) → has items i ≡ true → i ≤ n) → All (λ i. i < length flags) items
all_within flags n c items a w k d l = let here = w (get_or items k d) (has_at items k d l) in let s = a.size in omega arith

-- ---- the options of a problem

module _ (p : ProblemValue) (sound : IsProblem p) (o : ℕ) (some : 0 < o) (within : o ≤ length p.options) where
  items_within : (i : ℕ) → has (option_at p o) i ≡ true → i ≤ length p.names
  items_within i h = ((option_is p o sound some within).items i h).1

  pub option_within : (flags : List Bool) (c option : List ℕ) → AreFlagsOf flags (length p.names) c → option ≡ option_at p o → All (λ i. i < length flags) option
  option_within flags c option a e = subst (All (λ i. i < length flags)) (sym e) (all_within flags (length p.names) c (option_at p o) a items_within)

  -- whether the option is left for an item, by the flags
  pub left_by_flags : (flags : List Bool) (c option : List ℕ) (item : ℕ) → AreFlagsOf flags (length p.names) c → option ≡ option_at p o
      → (has option item && not (list_any (λ i. get_or flags i false) option)) ≡ has (remaining p c item) o
  left_by_flags flags c option item a e = rw (e, any_is flags (length p.names) c (option_at p o) a items_within) (same (cases_Bool (is_remaining c item (option_at p o))))
    where
      same : (is_remaining c item (option_at p o) ≡ true) ⊎ (is_remaining c item (option_at p o) ≡ false) → is_remaining c item (option_at p o) ≡ has (remaining p c item) o
      same (inl t) = t ∙ sym (remaining_from p c item o t some within)
      same (inr f) = f ∙ sym (false_from_ne_true (has (remaining p c item) o) (λ h. both_ways (is_remaining c item (option_at p o)) f (remaining_in p c item o h).0))

-- what a vector holds after its flags were changed as a slice
pub flags_written : (flags old : List Bool) (size n : ℕ) (c : List ℕ) → length flags ≡ size → AreFlagsOf flags n c → AreFlagsOf (take size (flags ++ old)) n c
flags_written flags old size n c e a =
    let all : size ≤ length flags = omega arith in
    let same : take size (flags ++ old) ≡ flags = take-append-le size flags old all ∙ take_all size flags (omega arith) in
    subst (λ l. AreFlagsOf l n c) (sym same) a
