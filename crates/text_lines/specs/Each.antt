-- One after the other, up to the first fault: what a reader does with the words of a line, and the lines of a text.
--
-- Example: steps that add a number to a sum, and refuse 0, give Ok 6 on 1 2 3, and on 1 0 0 the fault of the first 0.
-- proofs/EachExamples.antt computes it.
use Rattle.std.specs.Prelude.{◌≡◌, List, [], ◌∷◌, ◌++◌, Result, Ok, Err}

infixl 10 ◌>>=◌
-- go on from what was found, or pass the fault on
abbrev pub ◌>>=◌ : {A B F : Type 0} → Result A F → (A → Result B F) → Result B F
(Ok x) >>= f = f x
(Err e) >>= f = Err e

-- take the elements in turn, each from the state that the one before it left, up to the first fault
unfoldable pub each : {S X F : Type 0} → (S → X → Result S F) → S → List X → Result S F
each step s [] = Ok s
each step s (x ∷ xs) = step s x >>= λ t. each step t xs

-- each element is taken without a fault, and t is left
abbrev pub GoesThrough : {S X F : Type 0} → (S → X → Result S F) → S → List X → S → Type 0
GoesThrough step s [] t = s ≡ t
GoesThrough {S} step s (x ∷ xs) t = (u : S) × (step s x ≡ Ok u) × GoesThrough step u xs t

-- some front of the list is taken without a fault, and the element after it has the fault f
abbrev pub Fails : {S X F : Type 0} → (S → X → Result S F) → S → List X → F → Type 0
Fails {S} {X} step s xs f = (front : List X) × (x : X) × (rest : List X) × (t : S)
    × (xs ≡ front ++ x ∷ rest) × (each step s front ≡ Ok t) × (step t x ≡ Err f)
