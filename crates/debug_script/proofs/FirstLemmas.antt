-- What stands before and after the first element that passes a test, one element at a time.
use Rattle.std.proofs.Common.{◌≡◌, List, [], ◌∷◌, Bool, true, false, refl, one-add, add-one}
use Rattle.std.specs.List.{before_first, after_first}

module _ {X : Type 0} (p : X → Bool) (x : X) (xs : List X) where
  pub before_here : p x ≡ true → before_first p (x ∷ xs) ≡ []
  before_here e = rw e refl

  pub before_later : p x ≡ false → before_first p (x ∷ xs) ≡ x ∷ before_first p xs
  before_later e = rw (e, one-add) refl

  pub after_here : p x ≡ true → after_first p (x ∷ xs) ≡ xs
  after_here e = rw e refl

  pub after_later : p x ≡ false → after_first p (x ∷ xs) ≡ after_first p xs
  after_later e = rw (e, one-add, add-one, add-one) refl
