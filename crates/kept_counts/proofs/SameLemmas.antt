-- What a search does next reads the covered items by `has` alone.
use Rattle.std.proofs.Common.{◌≡◌, ℕ, zero, suc, ◌<◌, ◌≤◌, ◌⊎◌, nat_lt, nat_le, Bool, true, false, not, ◌&&◌, ◌||◌, if◌then◌else◌, unwrap_or, find, List, ◌∷◌, length, filter, sum_by, refl, sym, ap, ap₂, ◌∙◌, inl, inr}
use Rattle.std.proofs.Math.Path.{fun_ext}
use Rattle.std.specs.List.{list_any, list_all}
use Rattle.std.proofs.lemmas.Bool.{cases_Bool}
use Rattle.shared_words.specs.Lists.{has, numbers}
use Rattle.cover_problem.specs.Problem.{ProblemValue, is_item, option_at}
use Rattle.cover_problem.specs.Covering.{active, remaining, choice}
use Rattle.cover_problem.specs.Path.{others, taken}
use Rattle.cover_problem.specs.Table.{IsCoveredList}
use Rattle.cover_problem.proofs.MemberLemmas.{has-append, all_member}
use Rattle.cover_problem.proofs.BoundLemmas.{item_bounds}
use Rattle.kept_counts.specs.Below.{tried_options, states_below, visits_within, visits_below, CoverTheSame, CoverTheSameOf}

module _ (p : ProblemValue) where
  module _ (c d : List ℕ) (same : has c ≡ has d) where
    pub active_same : active p c ≡ active p d
    unfolding active
    active_same = ap (λ (h : ℕ → Bool). filter (λ i. not (h i)) (numbers p.primary 1)) same

    pub remaining_same : remaining p c ≡ remaining p d
    unfolding remaining
    remaining_same = ap {B = ℕ → List ℕ} (λ (h : ℕ → Bool) (j : ℕ). filter (λ k. has (option_at p k) j && not (list_any h (option_at p k))) (numbers (length p.options) 1)) same

    pub choice_same : choice p c ≡ choice p d
    unfolding choice
    choice_same = ap₂ (λ (r : ℕ → List ℕ) (a : List ℕ). unwrap_or (find (λ j. list_all (λ i. nat_le (length (r j)) (length (r i))) a) a) 0) remaining_same active_same

    pub choices_same : tried_options p c ≡ tried_options p d
    unfolding tried_options
    choices_same = rw (active_same, remaining_same, choice_same) refl

    pub taken_same : (o : ℕ) → has (taken p c o) ≡ has (taken p d o)
    unfolding taken
    taken_same o = fun_ext (λ i.
        has-append c (choice p c ∷ others (choice p c) (option_at p o)) i
        ∙ ap₂ (λ (a : Bool) (j : ℕ). a || has (j ∷ others j (option_at p o)) i) (ap (λ (h : ℕ → Bool). h i) same) choice_same
        ∙ sym (has-append d (choice p d ∷ others (choice p d) (option_at p o)) i))

  pub states_same : (k : ℕ) (c d : List ℕ) → has c ≡ has d → states_below p k c ≡ states_below p k d
  states_same zero c d same = refl
  states_same (suc k) c d same =
      ap₂ (λ (f : ℕ → ℕ) (os : List ℕ). sum_by f os) (fun_ext (λ o. states_same k (taken p c o) (taken p d o) (taken_same c d same o))) (choices_same c d same)

  pub within_same : (n : ℕ) (c d : List ℕ) → has c ≡ has d → visits_within p n c ≡ visits_within p n d
  within_same zero c d same = refl
  within_same (suc n) c d same =
      ap₂ (λ (a : List ℕ) (v : ℕ). if nat_lt 0 (length a) then v else 1) (active_same c d same)
      (ap₂ (λ (f : ℕ → ℕ) (os : List ℕ). sum_by f os) (fun_ext (λ o. within_same n (taken p c o) (taken p d o) (taken_same c d same o))) (choices_same c d same))

  pub visits_same : (c d : List ℕ) → has c ≡ has d → visits_below p c ≡ visits_below p d
  unfolding visits_below
  visits_same c d same = ap (λ a. visits_within p (length a) c) (active_same c d same) ∙ within_same (length (active p d)) c d same

  -- a covered list has items alone
  module _ (c : List ℕ) (s : IsCoveredList p c) where
    pub has_items : (i : ℕ) → has c i ≡ true → (0 < i) × (i ≤ length p.names)
    has_items i h = item_bounds (length p.names) i (all_member (is_item (length p.names)) c i s.items h)

  pub items_same : (c d : List ℕ) → IsCoveredList p c → IsCoveredList p d → CoverTheSameOf (length p.names) c d → CoverTheSame c d
  items_same c d s t same i = step (cases_Bool (has c i)) (cases_Bool (has d i))
    where
      step : (has c i ≡ true) ⊎ (has c i ≡ false) → (has d i ≡ true) ⊎ (has d i ≡ false) → has c i ≡ has d i
      step (inl a) b = let r = has_items c s i a in same i r.0 r.1
      step (inr a) (inl b) = let r = has_items d t i b in same i r.0 r.1
      step (inr a) (inr b) = a ∙ sym b
