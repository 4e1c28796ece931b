-- The paths that are like none before them, by their least forms.
use Rattle.std.proofs.Common.{◌≡◌, ℕ, Bool, List, [], ◌∷◌, inl, inr, refl, sym, ap, ◌∙◌}
use Rattle.std.specs.Cmp.{Equal-is, both_ways as same_tests}
use Rattle.std.specs.Ordering.{is_eq}
use Rattle.std.proofs.lemmas.Cmp.{tied_itself}
use Rattle.poly_cells.proofs.MemberLemmas.{same_function}
use Rattle.poly_texts.specs.Puzzle.{PuzzleValue, IsPuzzle}
use Rattle.poly_place.specs.declared.alike.Group.{Group}
use Rattle.poly_place.specs.Chosen.{packing_value}
use Rattle.poly_place.specs.Classes.{AreAlike}
use Rattle.poly_place.specs.Forms.{AreCarriers, forms_cmp, key_of}
use Rattle.poly_distinct.specs.Distinct.{new_from, are_like_paths, distinct_paths, new_by_keys}
use Rattle.poly_place.proofs.PlacedLemmas.{has_shapes}
use Rattle.poly_place.proofs.KeyLemmas.{forms_total, forms_exact}
use Rattle.poly_place.proofs.KeyCountLemmas.{AreKeys}
use Rattle.poly_place.proofs.ClassLemmas.{are_keys}
use Rattle.poly_place.proofs.ClassCountLemmas.{tests_alike, of_one_puzzle}

module _ (p : PuzzleValue) (z : IsPuzzle p) (group : Group) (gs : List (List ℕ)) (all : AreCarriers group p.region p.maybe_cells gs) where
  abbrev key : List ℕ → List ℕ
  key q = key_of p.region gs (packing_value p q)

  keys : (q r : List ℕ) → AreKeys (AreAlike group) (key_of p.region gs) (packing_value p q ∷ packing_value p r ∷ [])
  keys q r = are_keys group (packing_value p q) gs (packing_value p q ∷ packing_value p r ∷ []) (has_shapes p z).region all (inl refl) (of_one_puzzle p (q ∷ r ∷ []))

  same_test : (q r : List ℕ) → is_eq (forms_cmp (key q) (key r)) ≡ are_like_paths p group q r
  same_test q r =
      let tests = tests_alike group (packing_value p q) (packing_value p r) (has_shapes p z).region refl refl in
      let k = keys q r in
      same_tests (is_eq (forms_cmp (key q) (key r))) (are_like_paths p group q r)
      (λ h. tests.1 (k.like (packing_value p q) (packing_value p r) (inl refl) (inr (inl refl)) (forms_exact (key q) (key r) ((Equal-is (forms_cmp (key q) (key r))).0 h))))
      (λ h. (Equal-is (forms_cmp (key q) (key r))).1 (ap (forms_cmp (key q)) (sym (k.same (packing_value p q) (packing_value p r) (inl refl) (inr (inl refl)) (tests.0 h))) ∙ tied_itself forms_total (key q)))

  abbrev by_key : List ℕ → List ℕ → Bool
  by_key q r = is_eq (forms_cmp (key q) (key r))

  same_with : (q : List ℕ) → by_key q ≡ are_like_paths p group q
  same_with q = same_function (by_key q) (are_like_paths p group q) (same_test q)

  pub by_keys : (paths : List (List ℕ)) → new_by_keys p gs paths ≡ distinct_paths p group paths
  unfolding distinct_paths
  by_keys paths = ap (λ (like : List ℕ → List ℕ → Bool). new_from like [] paths) (same_function by_key (are_like_paths p group) same_with)
