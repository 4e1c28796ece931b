-- A problem's fault is NoItemLine exactly where none of its items, or more than there are, have to be covered.
use Rattle.std.proofs.Common.{◌≡◌, ◌⊎◌, inl, inr, ℕ, Bool, true, false, not, cond, List, [], ◌∷◌, ◌++◌, length, Result, Ok, Err, bytes_eq, refl, ◌∙◌, subst}
use Rattle.std.specs.List.{list_any}
use Rattle.std.specs.Result.{IsErrOf}
use Rattle.std.proofs.lemmas.Bool.{both_ways}
use Rattle.text_lines.specs.declared.refusal.Refusal.{Refusal}
use Rattle.text_lines.specs.declared.refusal.Refusal.TheVariants as refusals
use Rattle.text_lines.specs.Answers.{Gives}
use Rattle.text_lines.specs.Each.{each, ◌>>=◌}
use Rattle.text_lines.proofs.EachLemmas.{each_fault}
use Rattle.text_lines.proofs.ResultLemmas.{bind_err, err_is, no_value}
use Rattle.cover_problem.specs.declared.fault.Fault.{Fault}
use Rattle.cover_problem.specs.declared.fault.Fault.TheVariants.{BadName, RepeatedItem, UnknownItem, ItemTwiceInOption, TooLarge, NoItemLine, BadLine}
use Rattle.shared_words.specs.Lists.{has}
use Rattle.cover_problem.specs.Problem.{ProblemValue, is_name, is_item, is_small}
use Rattle.cover_problem.specs.Validation.{add_name, with_item, add_number, option_from, add_option, within, problem_from}

-- a test that gives a fault, or goes on
refused : {S : Type 0} (b : Bool) (g f : Fault) (r : Result S Fault) → (g ≡ NoItemLine → ⊥) → (r ≡ Err f → f ≡ NoItemLine → ⊥) → cond b (Err g) r ≡ Err f → f ≡ NoItemLine → ⊥
refused true g f r other later h e = other (err_is g f h ∙ e)
refused false g f r other later h e = later h e

-- a test that goes on, or gives a fault
taken : {S : Type 0} (b : Bool) (g f : Fault) (r : Result S Fault) → (g ≡ NoItemLine → ⊥) → (r ≡ Err f → f ≡ NoItemLine → ⊥) → cond b r (Err g) ≡ Err f → f ≡ NoItemLine → ⊥
taken true g f r other later h e = later h e
taken false g f r other later h e = other (err_is g f h ∙ e)

value : {S : Type 0} (x : S) (f : Fault) → ◌≡◌ {A = Result S Fault} (Ok x) (Err f) → f ≡ NoItemLine → ⊥
value x f h e = no_value x f h

name_fault : (names : List (List ℕ)) (name : List ℕ) (f : Fault) → add_name names name ≡ Err f → f ≡ NoItemLine → ⊥
unfolding add_name
name_fault names name f h =
    refused (not (is_name name)) BadName f (cond (list_any (bytes_eq name) names) (Err RepeatedItem) (Ok (names ++ name ∷ []))) (λ e. cc)
    (refused (list_any (bytes_eq name) names) RepeatedItem f (Ok (names ++ name ∷ [])) (λ e. cc) (value (names ++ name ∷ []) f)) h

number_fault : (n : ℕ) (option : List ℕ) (i : ℕ) (f : Fault) → add_number n option i ≡ Err f → f ≡ NoItemLine → ⊥
number_fault n option i f h =
    taken (is_item n i) UnknownItem f (with_item option i) (λ e. cc)
    (refused (has option i) ItemTwiceInOption f (Ok (option ++ i ∷ [])) (λ e. cc) (value (option ++ i ∷ []) f)) h

option_fault : (n : ℕ) (numbers : List ℕ) (f : Fault) → option_from n numbers ≡ Err f → f ≡ NoItemLine → ⊥
option_fault n [] f h e = let g : BadLine ≡ NoItemLine = err_is BadLine f h ∙ e in cc
option_fault n (i ∷ is) f h e = each_fault (add_number n) (λ g. g ≡ NoItemLine → ⊥) (number_fault n) (i ∷ is) [] f h e

options_fault : (n : ℕ) (options : List (List ℕ)) (numbers : List ℕ) (f : Fault) → add_option n options numbers ≡ Err f → f ≡ NoItemLine → ⊥
unfolding add_option
options_fault n options numbers f h e = by (bind_err (option_from n numbers) (λ option. Ok (options ++ option ∷ [])) f h)
  where
    by : (option_from n numbers ≡ Err f) ⊎ ((option : List ℕ) × (option_from n numbers ≡ Ok option) × (◌≡◌ {A = Result (List (List ℕ)) Fault} (Ok (options ++ option ∷ [])) (Err f))) → ⊥
    by (inl g) = option_fault n numbers f g e
    by (inr (option, a, b)) = no_value (options ++ option ∷ []) f b

-- the items that have to be covered are some of the items, or this is the fault
pub no_item_fault : (names : List (List ℕ)) (primary : ℕ) (options : List (List ℕ)) → problem_from names primary options ≡ Err NoItemLine → is_item (length names) primary ≡ true → ⊥
unfolding problem_from
no_item_fault names primary options h some = by_names (bind_err (each add_name [] names) after NoItemLine (rw some at h))
  where
    whole : List (List ℕ) → List (List ℕ) → Result ProblemValue Fault
    whole these those = within (record { names = these; primary = primary; options = those })

    after : List (List ℕ) → Result ProblemValue Fault
    after these = each (add_option (length names)) [] options >>= λ those. within (record { names = these; primary = primary; options = those })

    by_options : (these : List (List ℕ)) → (each (add_option (length names)) [] options ≡ Err NoItemLine) ⊎ ((those : List (List ℕ)) × (each (add_option (length names)) [] options ≡ Ok those) × (within (record { names = these; primary = primary; options = those }) ≡ Err NoItemLine)) → ⊥
    by_options these (inl g) = each_fault (add_option (length names)) (λ f. f ≡ NoItemLine → ⊥) (options_fault (length names)) options [] NoItemLine g refl
    by_options these (inr (those, a, b)) =
        let p : ProblemValue = record { names = these; primary = primary; options = those } in
        taken (is_small p) TooLarge NoItemLine (Ok p) (λ e. cc) (value p NoItemLine) b refl

    by_names : (each add_name [] names ≡ Err NoItemLine) ⊎ ((these : List (List ℕ)) × (each add_name [] names ≡ Ok these) × (after these ≡ Err NoItemLine)) → ⊥
    by_names (inl g) = each_fault add_name (λ f. f ≡ NoItemLine → ⊥) name_fault names [] NoItemLine g refl
    by_names (inr (these, a, b)) = by_options these (bind_err (each (add_option (length names)) [] options) (λ those. within (record { names = these; primary = primary; options = those })) NoItemLine b)

never : {X : Type 0} (view : X → ProblemValue) (r : Result X (Refusal Fault)) (names : List (List ℕ)) (primary : ℕ) (options : List (List ℕ)) → is_item (length names) primary ≡ true → Gives view r (problem_from names primary options) → r ≡ Err (refusals.Fault NoItemLine) → ⊥
never view (Err (refusals.Fault f)) names primary options some g e =
    let i : f ≡ NoItemLine = cc in
    no_item_fault names primary options (subst (λ k. problem_from names primary options ≡ Err k) i g) some
never view _ names primary options some g e = cc

-- where there are items to cover, an answer doesn't say that there are none
pub never_no_item : {X : Type 0} (view : X → ProblemValue) (r : Result X (Refusal Fault)) (names : List (List ℕ)) (primary : ℕ) (options : List (List ℕ)) (n : ℕ) → length names ≡ n → is_item n primary ≡ true → Gives view r (problem_from names primary options) →
    (IsErrOf r (refusals.Fault NoItemLine) → is_item n primary ≡ false) × (is_item n primary ≡ false → IsErrOf r (refusals.Fault NoItemLine))
never_no_item view r names primary options n long some h =
    (λ e. absurd (never view r names primary options (rw long some) h e), λ e. absurd (both_ways (is_item n primary) e some))
