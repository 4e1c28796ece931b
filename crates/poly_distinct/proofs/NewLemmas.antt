-- Those of a list that are like none before them are one of each class, and as many as those of any other list that misses no class.
use Rattle.std.proofs.Common.{◌≡◌, ℕ, zero, suc, ◌+◌, ◌<◌, ◌≤◌, ◌==◌, Bool, true, false, cond, List, [], ◌∷◌, ◌++◌, ◌⊎◌, map, length, inl, inr, refl, sym, ap, ap₂, subst, ◌∙◌, arith}
use Rattle.std.specs.List.{list_any}
use Rattle.std.proofs.lemmas.Bool.{cases_Bool, both_ways, cond-true, cond-false}
use Rattle.std.proofs.lemmas.List.{map-append}
use Rattle.poly_cells.specs.Sets.{IsIn}
use Rattle.poly_cells.specs.Shapes.{IsShape}
use Rattle.poly_cells.proofs.SetLemmas.{in_append_cases, in_append_left, in_append_right}
use Rattle.poly_cells.proofs.MemberLemmas.{some_passes, passes_some}
use Rattle.poly_texts.specs.Puzzle.{PuzzleValue, IsPuzzle}
use Rattle.poly_place.specs.declared.alike.Group.{Group}
use Rattle.poly_place.specs.Chosen.{PackingValue, packing_value, chosen_by}
use Rattle.poly_place.specs.Classes.{AreAlike, IsClassCount}
use Rattle.poly_place.specs.ClassCount.{are_alike, count_new, class_count}
use Rattle.poly_distinct.specs.Distinct.{IsPartOf, new_from, are_like_paths, distinct_paths, AreUnlike, AreOneOfEach, MeetAll}
use Rattle.poly_place.proofs.PlacedLemmas.{has_shapes}
use Rattle.poly_place.proofs.ClassLemmas.{matched, alike, matched_itself, matched_on, matched_back}
use Rattle.poly_place.proofs.ClassCountLemmas.{tests_alike, puzzle_classes}
use Rattle.poly_place.proofs.DistinctLemmas.{IsDistinct}

-- ---- likeness is an equivalence

-- the packings of two paths are alike
abbrev pub AreLikePaths : PuzzleValue → Group → List ℕ → List ℕ → Type 0
AreLikePaths p group q r = AreAlike group (packing_value p q) (packing_value p r)

module _ (p : PuzzleValue) (z : IsPuzzle p) (group : Group) where
  region : IsShape p.region
  region = (has_shapes p z).region

  pub like_itself : (q : List ℕ) → AreLikePaths p group q q
  like_itself q = alike group (packing_value p q) (packing_value p q) region refl refl (matched_itself group p.region p.maybe_cells region (chosen_by p q))

  pub like_back : (q r : List ℕ) → AreLikePaths p group q r → AreLikePaths p group r q
  like_back q r a =
      alike group (packing_value p r) (packing_value p q) region refl refl
      (matched_back group p.region p.maybe_cells region (chosen_by p q) (chosen_by p r) (matched group (packing_value p q) (packing_value p r) region refl refl a))

  pub like_on : (q r t : List ℕ) → AreLikePaths p group q r → AreLikePaths p group r t → AreLikePaths p group q t
  like_on q r t a b =
      alike group (packing_value p q) (packing_value p t) region refl refl
      (matched_on group p.region p.maybe_cells region (chosen_by p q) (chosen_by p r) (chosen_by p t)
      (matched group (packing_value p q) (packing_value p r) region refl refl a) (matched group (packing_value p r) (packing_value p t) region refl refl b))

  tested : (q r : List ℕ) → are_like_paths p group q r ≡ true → AreLikePaths p group q r
  tested q r h = (tests_alike group (packing_value p q) (packing_value p r) region refl refl).0 h

  test : (q r : List ℕ) → AreLikePaths p group q r → are_like_paths p group q r ≡ true
  test q r a = (tests_alike group (packing_value p q) (packing_value p r) region refl refl).1 a

  -- ---- what is new

  abbrev new : List (List ℕ) → List (List ℕ) → List (List ℕ)
  new before ps = new_from (are_like_paths p group) before ps

  abbrev known : List (List ℕ) → List ℕ → Bool
  known before q = list_any (λ b. are_like_paths p group b q) before

  new_is : (before : List (List ℕ)) (x : List ℕ) (xs : List (List ℕ)) → known before x ≡ false → new before (x ∷ xs) ≡ x ∷ new (before ++ x ∷ []) xs
  new_is before x xs h = cond-false (known before x) (new (before ++ x ∷ []) xs) (x ∷ new (before ++ x ∷ []) xs) h

  old_is : (before : List (List ℕ)) (x : List ℕ) (xs : List (List ℕ)) → known before x ≡ true → new before (x ∷ xs) ≡ new (before ++ x ∷ []) xs
  old_is before x xs h = cond-true (known before x) (new (before ++ x ∷ []) xs) (x ∷ new (before ++ x ∷ []) xs) h

  new_member : (before xs : List (List ℕ)) (q : List ℕ) → IsIn q (new before xs) → IsIn q xs
  new_member before [] q i = i
  new_member before (x ∷ xs) q i =
      elim (cases_Bool (known before x)) [
        | inl h ↦ inr (new_member (before ++ x ∷ []) xs q (subst (λ (qs : List (List ℕ)). IsIn q qs) (old_is before x xs h) i))
        | inr h ↦ elim (subst (λ (qs : List (List ℕ)). IsIn q qs) (new_is before x xs h) i) [ inl e ↦ inl e | inr r ↦ inr (new_member (before ++ x ∷ []) xs q r) ]
      ]

  -- each is like one before the list, or like one that is new
  new_some : (before xs : List (List ℕ)) (q : List ℕ) → IsIn q xs
      → ((r : List ℕ) × IsIn r before × AreLikePaths p group q r) ⊎ ((r : List ℕ) × IsIn r (new before xs) × AreLikePaths p group q r)
  new_some before [] q i = absurd i
  new_some before (x ∷ xs) q i =
      elim (cases_Bool (known before x)) [
        | inl h ↦
            let one = some_passes (λ b. are_like_paths p group b x) before h in
            let old = like_back one.0 x (tested one.0 x one.2) in
            elim i [
              | inl e ↦ inl (one.0, one.1, subst (λ (y : List ℕ). AreLikePaths p group y one.0) (sym e) old)
              | inr j ↦ elim (new_some (before ++ x ∷ []) xs q j) [
                | inl r ↦ elim (in_append_cases r.0 before (x ∷ []) r.1) [
                  | inl l ↦ inl (r.0, l, r.2)
                  | inr l ↦ elim l [ inl e ↦ inl (one.0, one.1, like_on q x one.0 (subst (λ (y : List ℕ). AreLikePaths p group q y) e r.2) old) | inr none ↦ absurd none ]
                ]
                | inr r ↦ inr (r.0, subst (λ (qs : List (List ℕ)). IsIn r.0 qs) (sym (old_is before x xs h)) r.1, r.2)
              ]
            ]
        | inr h ↦
            let is = sym (new_is before x xs h) in
            elim i [
              | inl e ↦ inr (x, subst (λ (qs : List (List ℕ)). IsIn x qs) is (inl refl), subst (λ (y : List ℕ). AreLikePaths p group y x) (sym e) (like_itself x))
              | inr j ↦ elim (new_some (before ++ x ∷ []) xs q j) [
                | inl r ↦ elim (in_append_cases r.0 before (x ∷ []) r.1) [
                  | inl l ↦ inl (r.0, l, r.2)
                  | inr l ↦ elim l [
                    | inl e ↦ inr (x, subst (λ (qs : List (List ℕ)). IsIn x qs) is (inl refl), subst (λ (y : List ℕ). AreLikePaths p group q y) e r.2)
                    | inr none ↦ absurd none
                  ]
                ]
                | inr r ↦ inr (r.0, subst (λ (qs : List (List ℕ)). IsIn r.0 qs) is (inr r.1), r.2)
              ]
            ]
      ]

  -- none that is new is like one before the list
  new_unlike : (before xs : List (List ℕ)) (q r : List ℕ) → IsIn q before → IsIn r (new before xs) → AreLikePaths p group q r → ⊥
  new_unlike before [] q r i j a = absurd j
  new_unlike before (x ∷ xs) q r i j a =
      elim (cases_Bool (known before x)) [
        | inl h ↦ new_unlike (before ++ x ∷ []) xs q r (in_append_left q before (x ∷ []) i) (subst (λ (qs : List (List ℕ)). IsIn r qs) (old_is before x xs h) j) a
        | inr h ↦ elim (subst (λ (qs : List (List ℕ)). IsIn r qs) (new_is before x xs h) j) [
          | inl e ↦ both_ways (known before x) h (passes_some (λ b. are_like_paths p group b x) q before i (test q x (subst (λ (y : List ℕ). AreLikePaths p group q y) e a)))
          | inr l ↦ new_unlike (before ++ x ∷ []) xs q r (in_append_left q before (x ∷ []) i) l a
        ]
      ]

  new_apart : (before xs : List (List ℕ)) → AreUnlike p group (new before xs)
  new_apart before [] = tt
  new_apart before (x ∷ xs) =
      let rest = new_apart (before ++ x ∷ []) xs in
      elim (cases_Bool (known before x)) [
        | inl h ↦ subst (λ (qs : List (List ℕ)). AreUnlike p group qs) (sym (old_is before x xs h)) rest
        | inr h ↦ subst (λ (qs : List (List ℕ)). AreUnlike p group qs) (sym (new_is before x xs h))
            ((λ r i a. new_unlike (before ++ x ∷ []) xs x r (in_append_right x before (x ∷ []) (inl refl)) i a), rest)
      ]

  -- ---- one of each

  pub one_of_each : (paths : List (List ℕ)) → MeetAll p group paths → AreOneOfEach p group (distinct_paths p group paths)
  unfolding distinct_paths
  one_of_each paths m = record {
    packings = λ q i. m.packings q (new_member [] paths q i);
    some = λ q e.
        let r = m.some q e in
        elim (new_some [] paths r.0 r.1) [
          | inl none ↦ absurd none.1
          | inr t ↦ (t.0, t.1, like_on q r.0 t.0 r.2 t.2)
        ];
    one = new_apart [] paths;
  }

  -- ---- how many

  unlike_once : (qs : List (List ℕ)) → AreUnlike p group qs → (q r : List ℕ) → IsIn q qs → IsIn r qs → AreLikePaths p group q r → q ≡ r
  unlike_once [] u q r i j a = absurd i
  unlike_once (x ∷ xs) u q r i j a =
      elim i [
        | inl e ↦ elim j [
          | inl f ↦ e ∙ sym f
          | inr l ↦ absurd (u.0 r l (subst (λ (y : List ℕ). AreLikePaths p group y r) e a))
        ]
        | inr k ↦ elim j [
          | inl f ↦ absurd (u.0 q k (like_back q x (subst (λ (y : List ℕ). AreLikePaths p group q y) f a)))
          | inr l ↦ unlike_once xs u.1 q r k l a
        ]
      ]

  unlike_distinct : (qs : List (List ℕ)) → AreUnlike p group qs → IsDistinct qs
  unlike_distinct [] u = tt
  unlike_distinct (x ∷ xs) u = ((λ i. u.0 x i (like_itself x)), unlike_distinct xs u.1)

-- ---- lists without one of their members

without : {Y : Type 0} (y : Y) (ys : List Y) → IsIn y ys → List Y
without y [] j = []
without y (z ∷ zs) j = elim j [ inl e ↦ zs | inr r ↦ z ∷ without y zs r ]

length_without : {Y : Type 0} (y : Y) (ys : List Y) (j : IsIn y ys) → length ys ≡ suc (length (without y ys j))
unfolding without
length_without y [] j = absurd j
length_without y (z ∷ zs) (inl e) = refl
length_without y (z ∷ zs) (inr r) = ap suc (length_without y zs r)

in_without : {Y : Type 0} (x y : Y) (ys : List Y) (j : IsIn y ys) → IsIn x ys → (x ≡ y → ⊥) → IsIn x (without y ys j)
unfolding without
in_without x y [] j k n = absurd k
in_without x y (z ∷ zs) (inl e) k n = elim k [ inl f ↦ absurd (n (f ∙ sym e)) | inr r ↦ r ]
in_without x y (z ∷ zs) (inr j) k n = elim k [ inl f ↦ inl f | inr r ↦ inr (in_without x y zs j r n) ]

in_from_without : {Y : Type 0} (w y : Y) (ys : List Y) (j : IsIn y ys) → IsIn w (without y ys j) → IsIn w ys
unfolding without
in_from_without w y [] j k = absurd j
in_from_without w y (z ∷ zs) (inl e) k = inr k
in_from_without w y (z ∷ zs) (inr j) k = elim k [ inl f ↦ inl f | inr r ↦ inr (in_from_without w y zs j r) ]

-- where each of one list is matched with some of another one, and no two with one, the first list is no longer
pub no_longer : {X Y : Type 0} (F : X → Y → Type 0) (xs : List X) (ys : List Y) → IsDistinct xs → ((x : X) → IsIn x xs → (y : Y) × IsIn y ys × F x y)
    → ((x z : X) (y : Y) → IsIn x xs → IsIn z xs → IsIn y ys → F x y → F z y → x ≡ z) → length xs ≤ length ys
no_longer F [] ys d f once = omega arith
no_longer {X} {Y} F (x ∷ xs) ys d f once =
    let here = f x (inl refl) in
    let rest = no_longer F xs (without here.0 ys here.1) d.1
    (λ z j.
    let there = f z (inr j) in
    (there.0, in_without there.0 here.0 ys here.1 there.1 (λ e. d.0 (subst (λ (u : X). IsIn u xs) (sym (once x z here.0 (inl refl) (inr j) here.1 here.2 (subst (λ (y : Y). F z y) e there.2))) j)), there.2))
    (λ u z y i j k. once u z y (inr i) (inr j) (in_from_without y here.0 ys here.1 k)) in
    let more = length_without here.0 ys here.1 in
    omega (arith, rest, more)

module _ (p : PuzzleValue) (z : IsPuzzle p) (group : Group) where
  -- where no class is missed there are as many
  pub no_more : (qs rs : List (List ℕ)) → AreUnlike p group qs → ((q : List ℕ) → IsIn q qs → (r : List ℕ) × IsIn r rs × AreLikePaths p group q r) → length qs ≤ length rs
  no_more qs rs u f =
      no_longer (AreLikePaths p group) qs rs (unlike_distinct p z group qs u) f
      (λ x y r i j k a b. unlike_once p z group qs u x y i j (like_on p z group x r y a (like_back p z group y r b)))

  any_map : (q : PackingValue) (before : List (List ℕ)) → list_any (λ b. are_alike group b q) (map (packing_value p) before) ≡ list_any (λ b. are_alike group (packing_value p b) q) before
  any_map q [] = refl
  any_map q (b ∷ bs) = ap (λ (t : Bool). Rattle.std.proofs.Common.◌||◌ (are_alike group (packing_value p b) q) t) (any_map q bs)

  count_length : (before xs : List (List ℕ)) → count_new (are_alike group) (map (packing_value p) before) (map (packing_value p) xs) ≡ length (new_from (are_like_paths p group) before xs)
  count_length before [] = refl
  count_length before (x ∷ xs) =
      let one = any_map (packing_value p x) before in
      let rest = ap (λ (bs : List PackingValue). count_new (are_alike group) bs (map (packing_value p) xs)) (sym (map-append (packing_value p) before (x ∷ []))) ∙ count_length (before ++ x ∷ []) xs in
      elim (cases_Bool (list_any (λ b. are_like_paths p group b x) before)) [
        | inl h ↦
            let a = ap {B = ℕ} (λ (t : Bool). cond t 0 1) (one ∙ h) in
            let b = ap (λ (qs : List (List ℕ)). length qs) (cond-true (list_any (λ b. are_like_paths p group b x) before) (new_from (are_like_paths p group) (before ++ x ∷ []) xs) (x ∷ new_from (are_like_paths p group) (before ++ x ∷ []) xs) h) in
            omega (arith, a, b, rest)
        | inr h ↦
            let a = ap {B = ℕ} (λ (t : Bool). cond t 0 1) (one ∙ h) in
            let b = ap (λ (qs : List (List ℕ)). length qs) (cond-false (list_any (λ b. are_like_paths p group b x) before) (new_from (are_like_paths p group) (before ++ x ∷ []) xs) (x ∷ new_from (are_like_paths p group) (before ++ x ∷ []) xs) h) in
            omega (arith, a, b, rest)
      ]

  pub classes_are_distinct : (paths : List (List ℕ)) → class_count (are_alike group) (map (packing_value p) paths) ≡ length (distinct_paths p group paths)
  unfolding class_count distinct_paths
  classes_are_distinct paths = count_length [] paths

  -- two lists that miss no class have the same number of classes
  pub same_classes : (all some : List (List ℕ)) → MeetAll p group all → MeetAll p group some → class_count (are_alike group) (map (packing_value p) all) ≡ class_count (are_alike group) (map (packing_value p) some)
  same_classes all some a b =
      let one = one_of_each p z group all a in
      let two = one_of_each p z group some b in
      let here = no_more (distinct_paths p group all) (distinct_paths p group some) one.one (λ q i. two.some q (one.packings q i)) in
      let there = no_more (distinct_paths p group some) (distinct_paths p group all) two.one (λ q i. one.some q (two.packings q i)) in
      let x = classes_are_distinct all in
      let y = classes_are_distinct some in
      omega (arith, here, there, x, y)

  -- how many classes there are is how many of some are new
  pub some_count : (all some : List (List ℕ)) → MeetAll p group all → MeetAll p group some → IsClassCount (AreAlike group) (map (packing_value p) all) (length (distinct_paths p group some))
  some_count all some a b = subst (λ (n : ℕ). IsClassCount (AreAlike group) (map (packing_value p) all) n) (same_classes all some a b ∙ classes_are_distinct some) (puzzle_classes p z group all)

-- ---- in order

part_later : {X : Type 0} (xs : List X) (y : X) (ys : List X) → IsPartOf xs ys → IsPartOf xs (y ∷ ys)
part_later [] y ys h = tt
part_later (x ∷ xs) y ys h = inr h

new_part : {P : Type 0} (like : P → P → Bool) (before ps : List P) → IsPartOf (new_from like before ps) ps
new_part like before [] = tt
new_part {P} like before (p ∷ ps) = by_test (list_any (λ q. like q p) before) (new_part like (before ++ p ∷ []) ps)
  where
    by_test : (b : Bool) → IsPartOf (new_from like (before ++ p ∷ []) ps) ps → IsPartOf (cond b (new_from like (before ++ p ∷ []) ps) (p ∷ new_from like (before ++ p ∷ []) ps)) (p ∷ ps)
    by_test true rest = part_later (new_from like (before ++ p ∷ []) ps) p ps rest
    by_test false rest = inl (refl, rest)

pub distinct_part : (p : PuzzleValue) (group : Group) (paths : List (List ℕ)) → IsPartOf (distinct_paths p group paths) paths
unfolding distinct_paths
distinct_part p group paths = new_part (are_like_paths p group) [] paths
