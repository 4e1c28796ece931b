-- Sums over lists of numbers.
use Rattle.std.proofs.Common.{◌≡◌, ℕ, ◌+◌, true, List, [], ◌∷◌, sum_by, refl, ap₂, sym, ◌∙◌, arith}
use Rattle.std.proofs.lemmas.List.Sums.{sum_by-cons}
use Rattle.shared_words.specs.Lists.{has}
use Rattle.cover_problem.proofs.MemberLemmas.{has_here, has_later}

-- equal at each member
pub sum_on : (f g : ℕ → ℕ) (xs : List ℕ) → ((x : ℕ) → has xs x ≡ true → f x ≡ g x) → sum_by f xs ≡ sum_by g xs
sum_on f g [] e = refl
sum_on f g (x ∷ xs) e = sum_by-cons f x xs ∙ ap₂ (λ a b. a + b) (e x (has_here x xs)) (sum_on f g xs (λ y h. e y (has_later x xs y h))) ∙ sym (sum_by-cons g x xs)

-- nothing at each member
pub sum_none : (f : ℕ → ℕ) (xs : List ℕ) → ((x : ℕ) → has xs x ≡ true → f x ≡ 0) → sum_by f xs ≡ 0
sum_none f [] e = refl
sum_none f (x ∷ xs) e = sum_by-cons f x xs ∙ ap₂ (λ a b. a + b) (e x (has_here x xs)) (sum_none f xs (λ y h. e y (has_later x xs y h)))

-- of two things at once
pub sum_both : {X : Type 0} (f g : X → ℕ) (xs : List X) → sum_by (λ x. f x + g x) xs ≡ sum_by f xs + sum_by g xs
sum_both f g [] = refl
sum_both f g (x ∷ xs) =
    let a = sum_by-cons f x xs in
    let b = sum_by-cons g x xs in
    let c = sum_both f g xs in
    sum_by-cons (λ x. f x + g x) x xs ∙ (omega (arith, a, b, c))
