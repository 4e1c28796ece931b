-- The exact covers of the smaller problem stand for packings, and miss no class.
use Rattle.std.proofs.Common.{◌≡◌, ℕ, zero, suc, ◌+◌, ◌-◌, ◌<◌, ◌≤◌, nat_le, Bool, true, false, cond, List, [], ◌∷◌, ◌++◌, map, filter, length, get_or, inl, inr, refl, sym, ap, ap₂, subst, ◌∙◌, arith, le-leb, leb-true}
use Rattle.std.specs.Ordering.{nat_cmp}
use Rattle.std.proofs.lemmas.List.{map-append, length-map, get_or-map}
use Rattle.poly_cells.specs.Sets.{IsIn, in_order}
use Rattle.poly_cells.proofs.SetLemmas.{in_map, in_from_map, in_from_order, in_to_order}
use Rattle.poly_cells.proofs.MemberLemmas.{in_filter, in_from_filter}
use Rattle.shared_words.specs.Lists.{has, numbers, RisesFrom}
use Rattle.cover_problem.specs.Problem.{ProblemValue, option_at}
use Rattle.cover_problem.specs.ExactCover.{IsExactCover}
use Rattle.cover_problem.proofs.MemberLemmas.{has_at, has_here, has_later, has_append_left, has_append_right, has_append_cases, has_filter, has_filter_in}
use Rattle.cover_problem.proofs.NumberLemmas.{has_numbers, has_numbers_in, rises_weaker, rises_filter, rises_numbers}
use Rattle.poly_texts.specs.Puzzle.{PuzzleValue, IsPuzzle, copy_symbols}
use Rattle.poly_place.specs.declared.alike.Group.{Group}
use Rattle.poly_place.specs.Packings.{ChoiceValue, choice_with, Thing, a_node, every_choice, leavings, option_of, leaving_option, packing_problem, choice_at, laying_count, option_count}
use Rattle.poly_place.specs.Classes.{AreAlike}
use Rattle.poly_distinct.proofs.NewLemmas.{like_itself}
use Rattle.poly_place.specs.Chosen.{PackingValue, packing_value, chosen_by, laying}
use Rattle.poly_distinct.specs.Distinct.{IsAnchor, AreAllowed, is_left_in, choices_left, smaller_problem, numbers_left, whole_path, IsPath, MeetAll, AreTheCovers, AreDifferent}
use Rattle.poly_place.proofs.StandLemmas.{side, options_long}
use Rattle.poly_place.proofs.PackingLemmas.{count_back}
use Rattle.poly_place.proofs.ChosenLemmas.{nat_exact}
use Rattle.poly_place.proofs.DistinctLemmas.{IsDistinct, distinct_append, distinct_filter, distinct_at}
use Rattle.poly_distinct.specs.Fewer.{with_options, AreNumbersTo}
use Rattle.poly_distinct.proofs.AnchorLemmas.{met}
use Rattle.poly_distinct.proofs.RestrictLemmas.{IsOption, AreSame, number_of, has_in, in_has, has_map, has_from_map, same_from, same_back, same_sorted, cover_up, path_kept, cover_down, same_down, down, same_on, same_map}

-- ---- a list by its numbers

-- what stands at each number is the list
at_numbers : {X : Type 0} (f : ℕ → X) (xs : List X) (k : ℕ) (d : X) → ((i : ℕ) → i < length xs → f (k + i) ≡ get_or xs i d) → map f (numbers (length xs) k) ≡ xs
at_numbers f [] k d h = refl
at_numbers {X} f (x ∷ xs) k d h =
    let one : f k ≡ x = ap f (let e : k ≡ k + 0 = omega arith in e) ∙ h 0 (omega arith) in
    let rest = at_numbers f xs (suc k) d (λ i lt. ap f (let e : suc k + i ≡ k + suc i = omega arith in e) ∙ h (suc i) (omega (arith, lt))) in
    ap₂ (λ (y : X) (ys : List X). y ∷ ys) one rest

filter_map : {X : Type 0} (f : ℕ → X) (test : X → Bool) (ns : List ℕ) → map f (filter (λ n. test (f n)) ns) ≡ filter test (map f ns)
filter_map f test [] = refl
filter_map {X} f test (n ∷ ns) = by_test (test (f n)) (filter_map f test ns)
  where
    by_test : (b : Bool) → map f (filter (λ n. test (f n)) ns) ≡ filter test (map f ns) → map f (cond b (n ∷ filter (λ n. test (f n)) ns) (filter (λ n. test (f n)) ns)) ≡ cond b (f n ∷ filter test (map f ns)) (filter test (map f ns))
    by_test true rest = ap (λ (ys : List X). f n ∷ ys) rest
    by_test false rest = rest

map_on : {X : Type 0} (f g : ℕ → X) (ns : List ℕ) → ((n : ℕ) → has ns n ≡ true → f n ≡ g n) → map f ns ≡ map g ns
map_on f g [] h = refl
map_on {X} f g (n ∷ ns) h = ap₂ (λ (y : X) (ys : List X). y ∷ ys) (h n (in_has (n ∷ ns) n (inl refl))) (map_on f g ns (λ m i. h m (in_has (n ∷ ns) m (inr (has_in ns m i)))))

module _ (p : PuzzleValue) (z : IsPuzzle p) (t : Thing) (ns : List ℕ) where
  abbrev left : List ℕ
  left = numbers_left p t ns

  abbrev test : ℕ → Bool
  test o = is_left_in p t ns (choice_at p o)

  -- ---- the numbers

  left_cases : (o : ℕ) → has left o ≡ true → (0 < o) × (o ≤ option_count p)
  left_cases o h =
      elim (has_append_cases (filter test (numbers (laying_count p) 1)) (numbers (length (leavings p)) (laying_count p + 1)) o h) [
        | inl a ↦
            let r = has_numbers_in (laying_count p) 1 o (has_filter_in test (numbers (laying_count p) 1) o a).1 in
            let x = r.0 in
            let y = r.1 in
            (omega (arith, x), omega (arith, y))
        | inr b ↦
            let r = has_numbers_in (length (leavings p)) (laying_count p + 1) o b in
            let x = r.0 in
            let y = r.1 in
            (omega (arith, x), omega (arith, y))
      ]

  pub left_are_options : (o : ℕ) → has left o ≡ true → IsOption (packing_problem p) o
  left_are_options o h =
      let r = left_cases o h in
      (r.0, subst (λ (n : ℕ). o ≤ n) (sym (options_long p)) r.1)

  left_lays : (o : ℕ) → 0 < o → o ≤ laying_count p → test o ≡ true → has left o ≡ true
  left_lays o some within h =
      has_append_left (filter test (numbers (laying_count p) 1)) (numbers (length (leavings p)) (laying_count p + 1)) o
      (has_filter test (numbers (laying_count p) 1) o h (has_numbers (laying_count p) 1 o (omega (arith, some)) (omega (arith, within))))

  left_leaves : (o : ℕ) → laying_count p < o → o ≤ option_count p → has left o ≡ true
  left_leaves o past within =
      has_append_right (filter test (numbers (laying_count p) 1)) (numbers (length (leavings p)) (laying_count p + 1)) o
      (has_numbers (length (leavings p)) (laying_count p + 1) o (omega (arith, past)) (omega (arith, within)))

  -- ---- the options

  option_lays : (o : ℕ) → 0 < o → o ≤ laying_count p → option_at (packing_problem p) o ≡ option_of p (choice_at p o)
  unfolding packing_problem
  option_lays o some within =
      let l = length-map (every_choice p) (option_of p) in
      get_or-append-left (map (option_of p) (every_choice p)) (map (leaving_option p) (leavings p)) (o - 1) [] (omega (arith, l, some, within))
      ∙ get_or-map (option_of p) (every_choice p) (o - 1) (choice_with 0 []) [] (omega (arith, some, within))
    where
      get_or-append-left : (xs ys : List (List ℕ)) (k : ℕ) (d : List ℕ) → k < length xs → get_or (xs ++ ys) k d ≡ get_or xs k d
      get_or-append-left [] ys k d h = absurd (omega (arith, h))
      get_or-append-left (x ∷ xs) ys zero d h = refl
      get_or-append-left (x ∷ xs) ys (suc k) d h = get_or-append-left xs ys k d (omega (arith, h))

  option_leaves : (i : ℕ) → i < length (leavings p) → option_at (packing_problem p) (laying_count p + 1 + i) ≡ get_or (map (leaving_option p) (leavings p)) i []
  unfolding packing_problem
  option_leaves i lt =
      let l = length-map (every_choice p) (option_of p) in
      ap (λ (k : ℕ). get_or (map (option_of p) (every_choice p) ++ map (leaving_option p) (leavings p)) k []) (let e : laying_count p + 1 + i - 1 ≡ length (map (option_of p) (every_choice p)) + i = omega (arith, l) in e)
      ∙ get_or-append-right (map (option_of p) (every_choice p)) (map (leaving_option p) (leavings p)) i []
    where
      get_or-append-right : (xs ys : List (List ℕ)) (k : ℕ) (d : List ℕ) → get_or (xs ++ ys) (length xs + k) d ≡ get_or ys k d
      get_or-append-right [] ys k d = ap (λ (j : ℕ). get_or ys j d) (let e : 0 + k ≡ k = omega arith in e)
      get_or-append-right (x ∷ xs) ys k d = ap (λ (j : ℕ). get_or (x ∷ (xs ++ ys)) j d) (let e : suc (length xs) + k ≡ suc (length xs + k) = omega arith in e) ∙ get_or-append-right xs ys k d

  choices_numbered : map (choice_at p) (numbers (laying_count p) 1) ≡ every_choice p
  choices_numbered = at_numbers (choice_at p) (every_choice p) 1 (choice_with 0 []) (λ i lt. ap (λ (k : ℕ). get_or (every_choice p) k (choice_with 0 [])) (let e : 1 + i - 1 ≡ i = omega arith in e))

  options_left : (smaller_problem p t ns).options ≡ map (option_at (packing_problem p)) left
  unfolding smaller_problem choices_left
  options_left =
      sym (map-append (option_at (packing_problem p)) (filter test (numbers (laying_count p) 1)) (numbers (length (leavings p)) (laying_count p + 1))
      ∙ ap₂ (λ (xs ys : List (List ℕ)). xs ++ ys)
      (map_on (option_at (packing_problem p)) (λ o. option_of p (choice_at p o)) (filter test (numbers (laying_count p) 1)) (λ o h.
      let r = has_numbers_in (laying_count p) 1 o (has_filter_in test (numbers (laying_count p) 1) o h).1 in
      let x = r.0 in
      let y = r.1 in
      option_lays o (omega (arith, x)) (omega (arith, y)))
      ∙ sym (map-twice (filter test (numbers (laying_count p) 1)))
      ∙ ap (map (option_of p)) (filter_map (choice_at p) (is_left_in p t ns) (numbers (laying_count p) 1) ∙ ap (filter (is_left_in p t ns)) choices_numbered))
      leaves)
    where
      map-twice : (os : List ℕ) → map (option_of p) (map (choice_at p) os) ≡ map (λ o. option_of p (choice_at p o)) os
      map-twice [] = refl
      map-twice (o ∷ os) = ap (λ (ys : List (List ℕ)). option_of p (choice_at p o) ∷ ys) (map-twice os)

      leaves : map (option_at (packing_problem p)) (numbers (length (leavings p)) (laying_count p + 1)) ≡ map (leaving_option p) (leavings p)
      leaves =
          let l = length-map (leavings p) (leaving_option p) in
          ap (λ (n : ℕ). map (option_at (packing_problem p)) (numbers n (laying_count p + 1))) (sym l)
          ∙ at_numbers (option_at (packing_problem p)) (map (leaving_option p) (leavings p)) (laying_count p + 1) [] (λ i lt. option_leaves i (omega (arith, l, lt)))

  pub smaller_is : smaller_problem p t ns ≡ with_options (packing_problem p) left
  unfolding smaller_problem
  smaller_is = ap (λ (os : List (List ℕ)). let q : ProblemValue = record { names = (packing_problem p).names; primary = (packing_problem p).primary; options = os } in q) options_left

  -- ---- the covers

  -- a cover of the smaller problem is one of the puzzle's problem
  pub whole_is_path : (path : List ℕ) → IsExactCover (smaller_problem p t ns) (has path) → IsPath p (whole_path p t ns path)
  whole_is_path path e = cover_up (packing_problem p) left left_are_options path (subst (λ (q : ProblemValue). IsExactCover q (has path)) smaller_is e)

  -- all of whose choices are left in
  pub left_choices : (path : List ℕ) → IsExactCover (smaller_problem p t ns) (has path) → (c : ChoiceValue) → IsIn c (chosen_by p (whole_path p t ns path)) → is_left_in p t ns c ≡ true
  left_choices path e c i =
      let o = in_from_map (choice_at p) c (laying p (whole_path p t ns path)) i in
      let k = in_from_filter (λ (n : ℕ). nat_le n (laying_count p)) o.0 (in_order nat_cmp (whole_path p t ns path)) o.1 in
      let within = leb-true o.0 (laying_count p) k.1 in
      let member = in_has (whole_path p t ns path) o.0 (in_from_order nat_cmp o.0 (whole_path p t ns path) k.0) in
      let kept = path_kept (packing_problem p) left left_are_options path (subst (λ (q : ProblemValue). IsExactCover q (has path)) smaller_is e) o.0 member in
      subst (λ (d : ChoiceValue). is_left_in p t ns d ≡ true) (sym o.2)
      (elim (has_append_cases (filter test (numbers (laying_count p) 1)) (numbers (length (leavings p)) (laying_count p + 1)) o.0 kept) [
        | inl x ↦ (has_filter_in test (numbers (laying_count p) 1) o.0 x).0
        | inr x ↦ let r = (has_numbers_in (length (leavings p)) (laying_count p + 1) o.0 x).0 in absurd (omega (arith, r, within))
      ])

  -- ---- different paths

  distinct_numbers : (n k : ℕ) → IsDistinct (numbers n k)
  distinct_numbers zero k = tt
  distinct_numbers (suc n) k = ((λ i. let r = (has_numbers_in n (suc k) k (in_has (numbers n (suc k)) k i)).0 in absurd (omega (arith, r))), distinct_numbers n (suc k))

  left_distinct : IsDistinct left
  left_distinct =
      distinct_append (filter test (numbers (laying_count p) 1)) (numbers (length (leavings p)) (laying_count p + 1)) (distinct_filter test (numbers (laying_count p) 1) (distinct_numbers (laying_count p) 1)) (distinct_numbers (length (leavings p)) (laying_count p + 1))
      (λ o i j.
      let x = (has_numbers_in (laying_count p) 1 o (in_has (numbers (laying_count p) 1) o (in_from_filter test o (numbers (laying_count p) 1) i).0)).1 in
      let y = (has_numbers_in (length (leavings p)) (laying_count p + 1) o (in_has (numbers (length (leavings p)) (laying_count p + 1)) o j)).0 in
      omega (arith, x, y))

  in_smaller : (path : List ℕ) → IsExactCover (smaller_problem p t ns) (has path) → (k : ℕ) → has path k ≡ true → (0 < k) × (k - 1 < length left)
  in_smaller path e k h =
      let r = (subst (λ (q : ProblemValue). IsExactCover q (has path)) smaller_is e).options k h in
      let l = length-map left (option_at (packing_problem p)) in
      let x = r.0 in
      let y = r.1 in
      (x, omega (arith, l, x, y))

  -- paths that are the same by the numbers of the puzzle are the same
  pub whole_tells : (q r : List ℕ) → IsExactCover (smaller_problem p t ns) (has q) → IsExactCover (smaller_problem p t ns) (has r) → AreSame (whole_path p t ns q) (whole_path p t ns r) → AreSame q r
  whole_tells q r e f s = same_from q r (λ k h. one q r e f s k h) (λ k h. one r q f e (same_back (whole_path p t ns q) (whole_path p t ns r) s) k h)
    where
      one : (q r : List ℕ) → IsExactCover (smaller_problem p t ns) (has q) → IsExactCover (smaller_problem p t ns) (has r) → AreSame (whole_path p t ns q) (whole_path p t ns r) → (k : ℕ) → has q k ≡ true → has r k ≡ true
      one q r e f s k h =
          let j = has_from_map (number_of left) r (number_of left k) (sym (s (number_of left k)) ∙ has_map (number_of left) q k h) in
          let x = in_smaller q e k h in
          let y = in_smaller r f j.0 j.1 in
          let places = distinct_at 0 left (j.0 - 1) (k - 1) left_distinct y.1 x.1 j.2 in
          let x0 = x.0 in
          let y0 = y.0 in
          subst (λ (n : ℕ). has r n ≡ true) (let g : j.0 ≡ k = omega (arith, places, x0, y0) in g) j.1

  pub different_whole : (small : List (List ℕ)) → ((q : List ℕ) → IsIn q small → IsExactCover (smaller_problem p t ns) (has q)) → AreDifferent small → AreDifferent (map (whole_path p t ns) small)
  different_whole [] covers d = tt
  different_whole (x ∷ xs) covers d = (
    (λ r i s.
        let y = in_from_map (whole_path p t ns) r xs i in
        d.0 y.0 y.1 (whole_tells x y.0 (covers x (inl refl)) (covers y.0 (inr y.1)) (subst (λ (q : List ℕ). AreSame (whole_path p t ns x) q) y.2 s))),
    different_whole xs (λ q i. covers q (inr i)) d.1,
  )

  -- a packing all of whose choices are left in stands for one
  pub path_is_whole : (r : List ℕ) → IsPath p r → ((c : ChoiceValue) → IsIn c (chosen_by p r) → is_left_in p t ns c ≡ true)
      → (path : List ℕ) × IsExactCover (smaller_problem p t ns) (has path) × AreSame (whole_path p t ns path) r
  path_is_whole r e h = (
    map (down (packing_problem p) left) r,
    subst (λ (q : ProblemValue). IsExactCover q (has (map (down (packing_problem p) left) r))) (sym smaller_is) (cover_down (packing_problem p) left r e among),
    same_down (packing_problem p) left r e among,
  )
    where
      among : (o : ℕ) → has r o ≡ true → has left o ≡ true
      among o i =
          let range = e.options o i in
          let within = count_back p o range.1 in
          elim (side p o) [
            | inr past ↦ left_leaves o past within
            | inl le ↦ left_lays o range.0 le (h (choice_at p o) (in_map (choice_at p) o (laying p r)
                (in_filter (λ (k : ℕ). nat_le k (laying_count p)) o (in_order nat_cmp r) (in_to_order nat_exact o r (has_in r o i)) (le-leb o (laying_count p) le))))
          ]

  -- the same options stand for the same packing
  pub same_packing : (q r : List ℕ) → AreSame q r → packing_value p q ≡ packing_value p r
  same_packing q r s = ap (λ (os : List ℕ). packing_with (filter (λ (o : ℕ). nat_le o (laying_count p)) os)) (same_sorted q r s)
    where
      packing_with : List ℕ → PackingValue
      packing_with os = record { region = p.region; maybe_cells = p.maybe_cells; placements = map (choice_at p) os; symbols = copy_symbols p }

  pub meets_all : (group : Group) → IsAnchor p t → AreAllowed p group t ns → (small : List (List ℕ)) → AreTheCovers (smaller_problem p t ns) small → MeetAll p group (map (whole_path p t ns) small)
  meets_all group a allowed small covers = record {
    packings = λ q i.
        let path = in_from_map (whole_path p t ns) q small i in
        subst (λ (r : List ℕ). IsPath p r) (sym path.2) (whole_is_path path.0 (covers.sound path.0 path.1));
    some = λ q e.
        let r = met p z group t ns a allowed q e in
        let there = path_is_whole r.0 r.1 r.2 in
        let s = covers.complete (has there.0) there.1 in
        let same : AreSame (whole_path p t ns s.0) r.0 = same_on (whole_path p t ns s.0) (whole_path p t ns there.0) r.0 (same_map (number_of left) (number_of left) s.0 there.0 s.2 (λ o h. refl)) there.2 in (
          whole_path p t ns s.0,
          in_map (whole_path p t ns) s.0 small s.1,
          subst (λ (v : PackingValue). AreAlike group (packing_value p q) v) (sym (same_packing (whole_path p t ns s.0) r.0 same)) r.3,
        );
  }

pub all_meet : (p : PuzzleValue) → IsPuzzle p → (group : Group) (all : List (List ℕ)) → AreTheCovers (packing_problem p) all → MeetAll p group all
all_meet p z group all covers = record {
  packings = covers.sound;
  some = λ q e.
      let r = covers.complete (has q) e in
      (r.0, r.1, subst (λ (v : PackingValue). AreAlike group (packing_value p q) v) (sym (same_packing p z (a_node 0 0) [] r.0 q r.2)) (like_itself p z group q));
}

-- ---- the numbers rise

rises_append : (n k : ℕ) (xs ys : List ℕ) → RisesFrom n xs → ((x : ℕ) → has xs x ≡ true → x < k) → n ≤ k → RisesFrom k ys → RisesFrom n (xs ++ ys)
rises_append n k [] ys r low h s = rises_weaker n k ys h s
rises_append n k (x ∷ xs) ys r low h s = (r.0, rises_append (suc x) k xs ys r.1 (λ y i. low y (has_later x xs y i)) (let b = low x (has_here x xs) in omega (arith, b)) s)

pub numbers_rise : (p : PuzzleValue) (t : Thing) (ns : List ℕ) → RisesFrom 1 (numbers_left p t ns)
numbers_rise p t ns =
    rises_append 1 (laying_count p + 1) (filter (λ o. is_left_in p t ns (choice_at p o)) (numbers (laying_count p) 1)) (numbers (length (leavings p)) (laying_count p + 1))
    (rises_filter (λ o. is_left_in p t ns (choice_at p o)) (laying_count p) 1)
    (λ o h. let r = (has_numbers_in (laying_count p) 1 o (has_filter_in (λ o. is_left_in p t ns (choice_at p o)) (numbers (laying_count p) 1) o h).1).1 in omega (arith, r))
    (omega arith) (rises_numbers (length (leavings p)) (laying_count p + 1))

-- and are numbers of options
pub numbers_are : (p : PuzzleValue) → IsPuzzle p → (t : Thing) (ns : List ℕ) → AreNumbersTo (length (packing_problem p).options) (numbers_left p t ns)
numbers_are p z t ns k lt =
    let o = left_are_options p z t ns (get_or (numbers_left p t ns) k 0) (has_at (numbers_left p t ns) k 0 lt) in
    let a = o.0 in
    let b = o.1 in
    (omega (arith, a), omega (arith, b))
