-- A loop that keeps the keys of the packings so far, and those that were new.
use Rattle.std.proofs.Common.{◌≡◌, ℕ, ◌+◌, ◌<◌, Bool, true, false, not, ◌||◌, cond, List, [], ◌∷◌, ◌++◌, take, length, get_or, refl, sym, ap, ◌∙◌, append_assoc, append-nil}
use Rattle.std.specs.List.{list_any}
use Rattle.std.specs.Ordering.{is_eq}
use Rattle.std.specs.Cmp.{Equal-is, both_ways as same_tests}
use Rattle.std.proofs.lemmas.Cmp.{tied_itself}
use Rattle.std.proofs.lemmas.List.Folds.{list_any-append}
use Rattle.poly_cells.proofs.SetLemmas.{take_next}
use Rattle.poly_cells.proofs.MemberLemmas.{same_function}
use Rattle.poly_place.specs.Forms.{forms_cmp}
use Rattle.poly_distinct.specs.Distinct.{new_from}
use Rattle.poly_place.proofs.KeyLemmas.{forms_total, forms_exact}

-- one more path: it is new where it is like none before
new_push : (like : List ℕ → List ℕ → Bool) (before xs : List (List ℕ)) (x : List ℕ)
    → new_from like before (xs ++ x ∷ []) ≡ new_from like before xs ++ cond (list_any (λ q. like q x) (before ++ xs)) [] (x ∷ [])
new_push like before [] x = ap (λ (qs : List (List ℕ)). cond (list_any (λ q. like q x) qs) [] (x ∷ [])) (sym (append-nil before))
new_push like before (y ∷ ys) x =
    by_test (list_any (λ q. like q y) before)
    (new_push like (before ++ y ∷ []) ys x ∙ ap (λ (qs : List (List ℕ)). new_from like (before ++ y ∷ []) ys ++ cond (list_any (λ q. like q x) qs) [] (x ∷ [])) (append_assoc before (y ∷ []) ys))
  where
    last : List (List ℕ)
    last = cond (list_any (λ q. like q x) (before ++ y ∷ ys)) [] (x ∷ [])

    by_test : (b : Bool) → new_from like (before ++ y ∷ []) (ys ++ x ∷ []) ≡ new_from like (before ++ y ∷ []) ys ++ cond (list_any (λ q. like q x) (before ++ y ∷ ys)) [] (x ∷ [])
        → cond b (new_from like (before ++ y ∷ []) (ys ++ x ∷ [])) (y ∷ new_from like (before ++ y ∷ []) (ys ++ x ∷ []))
        ≡ cond b (new_from like (before ++ y ∷ []) ys) (y ∷ new_from like (before ++ y ∷ []) ys) ++ cond (list_any (λ q. like q x) (before ++ y ∷ ys)) [] (x ∷ [])
    by_test true rest = rest
    by_test false rest = ap (λ (qs : List (List ℕ)). y ∷ qs) rest

same_either : (a b : List ℕ) → is_eq (forms_cmp a b) ≡ is_eq (forms_cmp b a)
same_either a b = same_tests (is_eq (forms_cmp a b)) (is_eq (forms_cmp b a)) (turn a b) (turn b a)
  where
    turn : (a b : List ℕ) → is_eq (forms_cmp a b) ≡ true → is_eq (forms_cmp b a) ≡ true
    turn a b h = (Equal-is (forms_cmp b a)).1 (ap (forms_cmp b) (forms_exact a b ((Equal-is (forms_cmp a b)).0 h)) ∙ tied_itself forms_total b)

one_more : (b c : Bool) → cond b true c ≡ (c || (b || false))
one_more true true = refl
one_more true false = refl
one_more false true = refl
one_more false false = refl

module _ (key : List ℕ → List ℕ) (paths : List (List ℕ)) (k : ℕ) (x : List ℕ) (more : k < length paths) (at : x ≡ get_or paths k x) where
  -- whether one of those so far has this key
  abbrev known : List ℕ → Bool
  known v = list_any (λ b. is_eq (forms_cmp v (key b))) (take k paths)

  abbrev like : List ℕ → List ℕ → Bool
  like q r = is_eq (forms_cmp (key q) (key r))

  pub known_more : (v q : List ℕ) (old new : Bool) → v ≡ key x → old ≡ known q → new ≡ cond (is_eq (forms_cmp v q)) true old → new ≡ list_any (λ b. is_eq (forms_cmp q (key b))) (take (k + 1) paths)
  known_more v q old new made so is =
      is ∙ one_more (is_eq (forms_cmp v q)) old
      ∙ ap (λ (c : Bool). c || (is_eq (forms_cmp v q) || false)) so
      ∙ ap (λ (b : Bool). known q || (b || false)) (same_either v q ∙ ap (λ (w : List ℕ). is_eq (forms_cmp q w)) made)
      ∙ sym (ap (list_any (λ b. is_eq (forms_cmp q (key b)))) (take_next paths k x more at) ∙ list_any-append (λ b. is_eq (forms_cmp q (key b))) (take k paths) (x ∷ []))

  abbrev to_x : List ℕ → Bool
  to_x b = like b x

  abbrev from_x : List ℕ → Bool
  from_x b = is_eq (forms_cmp (key x) (key b))

  new_is : new_from like [] (take (k + 1) paths) ≡ new_from like [] (take k paths) ++ cond (known (key x)) [] (x ∷ [])
  new_is =
      ap (new_from like []) (take_next paths k x more at) ∙ new_push like [] (take k paths) x
      ∙ ap (λ (test : List ℕ → Bool). new_from like [] (take k paths) ++ cond (list_any test (take k paths)) [] (x ∷ [])) (same_function to_x from_x (λ b. same_either (key b) (key x)))

  pub new_more : (v : List ℕ) (old new : List (List ℕ)) (found added : Bool) → v ≡ key x → found ≡ known v → added ≡ not found → added ≡ true → old ≡ new_from like [] (take k paths) → new ≡ old ++ x ∷ [] → new ≡ new_from like [] (take (k + 1) paths)
  new_more v old new found added made f a t so push =
      push ∙ ap (λ (qs : List (List ℕ)). qs ++ x ∷ []) so
      ∙ sym (new_is ∙ ap (λ (b : Bool). new_from like [] (take k paths) ++ cond b [] (x ∷ [])) (ap known (sym made) ∙ sym f ∙ absent found (sym a ∙ t)))
    where
      absent : (b : Bool) → not b ≡ true → b ≡ false
      absent true h = cc
      absent false h = refl

  pub new_same : (v : List ℕ) (old : List (List ℕ)) (found added : Bool) → v ≡ key x → found ≡ known v → added ≡ not found → added ≡ false → old ≡ new_from like [] (take k paths) → old ≡ new_from like [] (take (k + 1) paths)
  new_same v old found added made f a t so =
      so ∙ sym (append-nil (new_from like [] (take k paths)))
      ∙ sym (new_is ∙ ap (λ (b : Bool). new_from like [] (take k paths) ++ cond b [] (x ∷ [])) (ap known (sym made) ∙ sym f ∙ present found (sym a ∙ t)))
    where
      present : (b : Bool) → not b ≡ false → b ≡ true
      present true h = refl
      present false h = cc
