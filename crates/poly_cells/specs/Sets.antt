-- A set as a list: its members in order, each once.
--
-- Example: of 3 1 3 2 the members in order are 1 2 3 (proofs/SetExamples.antt).
use Rattle.std.specs.Prelude.{◌≡◌, List, [], ◌∷◌, ◌⊎◌}
use Rattle.std.specs.declared.cmp.Ordering.{Ordering}
use Rattle.std.specs.declared.cmp.Ordering.TheVariants.{Less, Equal, Greater}

-- x is a member of the list
abbrev pub IsIn : {K : Type 0} → K → List K → Type 0
IsIn x [] = ⊥
IsIn x (y ∷ ys) = (x ≡ y) ⊎ IsIn x ys

-- the first, second or third, as the answer is Less, Equal or Greater
abbrev pub by_order : {X : Type 0} → Ordering → X → X → X → X
by_order Less a b c = a
by_order Equal a b c = b
by_order Greater a b c = c

-- x put where it belongs, unless it is there
abbrev pub insert_in : {K : Type 0} → (K → K → Ordering) → K → List K → List K
insert_in R x [] = x ∷ []
insert_in R x (y ∷ ys) = by_order (R x y) (x ∷ y ∷ ys) (y ∷ ys) (y ∷ insert_in R x ys)

-- the members of a list in order, each once
unfoldable pub in_order : {K : Type 0} → (K → K → Ordering) → List K → List K
in_order R [] = []
in_order R (x ∷ xs) = insert_in R x (in_order R xs)

-- where the order says Equal, the two are the same
abbrev pub IsExact : {K : Type 0} → (K → K → Ordering) → Type 0
IsExact {K} R = (x y : K) → R x y ≡ Equal → x ≡ y
