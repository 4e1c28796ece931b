-- What is made of the groups of equal pieces, kind by kind.
use Rattle.std.proofs.Common.{◌≡◌, ℕ, List, [], ◌∷◌, ◌++◌, flat_map, Bool, true, false, refl, sym, ap₂, ◌∙◌, append-nil}
use Rattle.std.proofs.lemmas.Grind.{flat_map-append}
use Rattle.poly_texts.specs.Usages.{are_copies}
use Rattle.poly_texts.specs.Kinds.{KindValue, given_if, kind_equal}

-- what is made of the groups is made of the symbols of each kind of equal pieces
pub of_groups : {A : Type 0} (f : List ℕ → List A) (ks : List KindValue) → flat_map (λ k. given_if (are_copies k.usage) (f k.symbols)) ks ≡ flat_map f (flat_map kind_equal ks)
of_groups f [] = refl
of_groups {A} f (k ∷ ks) =
    ap₂ (λ (xs ys : List A). xs ++ ys) (one (are_copies k.usage)) (of_groups f ks) ∙ sym (flat_map-append f (kind_equal k) (flat_map kind_equal ks))
  where
    one : (b : Bool) → given_if b (f k.symbols) ≡ flat_map f (given_if b (k.symbols ∷ []))
    one true = sym (append-nil (f k.symbols))
    one false = refl
