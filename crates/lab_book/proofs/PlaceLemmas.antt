-- Lists that are read place by place.
use Rattle.std.proofs.Common.{◌≡◌, ℕ, ◌+◌, Bool, true, false, Some, List, ◌∷◌, ◌<◌, ◌≤◌, length, get_or, drop, sym, ap, subst, ◌∙◌, inl, inr, arith}
use Rattle.std.specs.Prelude.{◌⊎◌, ◌&&◌, Option, None, slice_get, IfSome}
use Rattle.std.specs.List.{list_all}
use Rattle.std.proofs.lemmas.Option.{slice_get_within, slice_get_cases, get_or_from_slice_get}
use Rattle.std.proofs.lemmas.List.{drop_more}

-- an element stands at each place
found_at : {X : Type 0} (xs : List X) (i : ℕ) → i < length xs
    → ((x : X) × (i < length xs) × (slice_get xs i ≡ Some x) × (get_or xs i x ≡ x)) ⊎ ((length xs ≤ i) × (slice_get xs i ≡ None))
    → (x : X) × (slice_get xs i ≡ Some x)
found_at xs i l (inl p) = (p.0, p.2)
found_at xs i l (inr p) = let past = p.0 in absurd (omega arith)

pub element_at : {X : Type 0} (xs : List X) (i : ℕ) → i < length xs → (x : X) × (slice_get xs i ≡ Some x)
element_at xs i l = found_at xs i l (slice_get_cases xs i).1

-- and the rest begins with it
pub from_here : {X : Type 0} (xs : List X) (i : ℕ) (x : X) → slice_get xs i ≡ Some x → drop i xs ≡ x ∷ drop (i + 1) xs
from_here xs i x e =
    drop_more xs i x (slice_get_within xs i x e) ∙ ap (λ y. y ∷ drop (i + 1) xs) (get_or_from_slice_get xs i x x e)

-- what is known of it where it is read
pub at_place : {X : Type 0} (P : X → Type 0) (xs : List X) (i : ℕ) (x : X) → slice_get xs i ≡ Some x → IfSome (slice_get xs i) P → P x
at_place P xs i x e p = subst (λ o. IfSome o P) e p

-- and what follows from that
pub told : {X : Type 0} (P Q : X → Type 0) (o : Option X) → ((x : X) → P x → Q x) → IfSome o P → IfSome o Q
told P Q None f p = tt
told P Q (Some x) f p = f x p

-- where it passes a test, all do if those after it do
pub passes : {X : Type 0} (p : X → Bool) (xs : List X) (i : ℕ) → i < length xs → IfSome (slice_get xs i) (λ x. p x ≡ true)
    → list_all p (drop (i + 1) xs) ≡ list_all p (drop i xs)
passes p xs i l t =
    let x = element_at xs i l in
    let is = at_place (λ x. p x ≡ true) xs i x.0 x.1 t in
    sym (ap (list_all p) (from_here xs i x.0 x.1) ∙ ap (λ b. b && list_all p (drop (i + 1) xs)) is)

-- where it fails, not all pass
pub fails : {X : Type 0} (p : X → Bool) (xs : List X) (i : ℕ) → i < length xs → IfSome (slice_get xs i) (λ x. p x ≡ false)
    → list_all p (drop i xs) ≡ false
fails p xs i l t =
    let x = element_at xs i l in
    let is = at_place (λ x. p x ≡ false) xs i x.0 x.1 t in
    ap (list_all p) (from_here xs i x.0 x.1) ∙ ap (λ b. b && list_all p (drop (i + 1) xs)) is
