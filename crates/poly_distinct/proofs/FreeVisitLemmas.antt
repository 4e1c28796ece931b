-- If the group acts freely at an anchor, each exact cover of the smaller problem is a class of its own.
use Rattle.std.proofs.Common.{◌≡◌, ℕ, ◌==◌, ◌*◌, Bool, true, false, not, ◌||◌, ◌&&◌, cond, Option, Some, None, List, [], ◌∷◌, ◌++◌, map, filter, length, inl, inr, refl, sym, ap, subst, ◌∙◌, arith, eqb-true}
use Rattle.std.specs.List.{list_all, list_any}
use Rattle.std.proofs.lemmas.Bool.{cases_Bool, and_parts, cond-false}
use Rattle.std.proofs.lemmas.List.{length-map}
use Rattle.poly_cells.specs.Coordinates.{Coordinates}
use Rattle.poly_cells.specs.Sets.{IsIn}
use Rattle.poly_cells.proofs.SetLemmas.{in_map, in_from_map, in_append_cases}
use Rattle.poly_cells.proofs.MemberLemmas.{in_filter, passes, some_passes}
use Rattle.shared_words.specs.Lists.{has}
use Rattle.cover_problem.specs.ExactCover.{IsExactCover}
use Rattle.poly_texts.specs.Puzzle.{PuzzleValue, IsPuzzle}
use Rattle.poly_place.specs.declared.alike.Group.{Group}
use Rattle.poly_place.specs.Packings.{ChoiceValue, Thing, every_choice, packing_problem}
use Rattle.poly_place.specs.Chosen.{chosen_by, packing_value}
use Rattle.poly_place.specs.Classes.{AreAlike, IsClassCount}
use Rattle.poly_place.proofs.PlacedLemmas.{has_shapes}
use Rattle.poly_place.proofs.ChosenLemmas.{cover_packs}
use Rattle.poly_place.proofs.ClassCountLemmas.{tests_alike}
use Rattle.poly_place.proofs.CarryLemmas.{neutral_kept}
use Rattle.poly_distinct.specs.Distinct.{IsAnchor, AreAllowed, AreDifferent, AreTheCovers, AreUnlike, IsPath, Mirrors, is_at, is_least, cells_at, images_by, new_from, are_like_paths, distinct_paths, smaller_problem, whole_path}
use Rattle.poly_distinct.specs.Exchange.{mirror_name, has_mirrors}
use Rattle.poly_distinct.specs.Rule.{anchor_of, is_kept_at, symmetries_at}
use Rattle.poly_distinct.specs.UpTo.{smaller_at, smaller, whole_paths_at, whole_paths, new_paths, one_number, each_stands_at, each_stands, stood_for_at, stood_for}
use Rattle.poly_distinct.specs.Free.{have_own_cells, carrier_count, is_number, each_by, acts_freely_at, acts_freely}
use Rattle.poly_distinct.proofs.RestrictLemmas.{AreSame}
use Rattle.poly_distinct.proofs.AnchorLemmas.{anchor_in}
use Rattle.poly_distinct.proofs.AnchorRuleLemmas.{anchor_is_one}
use Rattle.poly_distinct.proofs.AllowedLemmas.{are_allowed}
use Rattle.poly_distinct.proofs.RuleLemmas.{allowed_is}
use Rattle.poly_distinct.proofs.MirrorLemmas.{mirrors_from}
use Rattle.poly_distinct.proofs.CountedLemmas.{cells_are, counted_same}
use Rattle.poly_distinct.proofs.SmallerLemmas.{whole_is_path, left_choices, different_whole}
use Rattle.poly_distinct.proofs.NewLemmas.{AreLikePaths}
use Rattle.poly_distinct.proofs.UpToLemmas.{new_are_classes, packings_are_stood_for}
use Rattle.poly_distinct.proofs.FreeLemmas.{one_way}
use Rattle.poly_distinct.proofs.FreePackingLemmas.{IsFree, alike_lays, may_choose, same_by_none, alike_same}

-- ---- lists of paths no two of which are alike

module _ (p : PuzzleValue) (z : IsPuzzle p) (group : Group) where
  -- different paths are unlike, if those that are alike are the same
  pub unlike : (qs : List (List ℕ)) → AreDifferent qs → ((q r : List ℕ) → IsIn q qs → IsIn r qs → AreLikePaths p group q r → AreSame q r) → AreUnlike p group qs
  unlike [] d h = tt
  unlike (q ∷ qs) d h = ((λ r i a. d.0 r i (h q r (inl refl) (inr i) a)), unlike qs d.1 (λ r t i j. h r t (inr i) (inr j)))

  -- and all of them are new
  all_new : (before ps : List (List ℕ)) → ((q r : List ℕ) → IsIn q before → IsIn r ps → AreLikePaths p group q r → ⊥) → AreUnlike p group ps → new_from (are_like_paths p group) before ps ≡ ps
  all_new before [] h u = refl
  all_new before (x ∷ xs) h u =
      let new : list_any (λ q. are_like_paths p group q x) before ≡ false =
      elim (cases_Bool (list_any (λ q. are_like_paths p group q x) before)) [
        | inl known ↦
            let q = some_passes (λ q. are_like_paths p group q x) before known in
            absurd (h q.0 x q.1 (inl refl) ((tests_alike group (packing_value p q.0) (packing_value p x) (has_shapes p z).region refl refl).0 q.2))
        | inr e ↦ e
      ] in
      cond-false (list_any (λ q. are_like_paths p group q x) before) (new_from (are_like_paths p group) (before ++ x ∷ []) xs) (x ∷ new_from (are_like_paths p group) (before ++ x ∷ []) xs) new
      ∙ ap (λ (qs : List (List ℕ)). x ∷ qs) (all_new (before ++ x ∷ []) xs
      (λ q r i j a. elim (in_append_cases q before (x ∷ []) i) [
        | inl l ↦ h q r l (inr j) a
        | inr l ↦ elim l [ inl e ↦ u.0 r j (subst (λ (y : List ℕ). AreLikePaths p group y r) e a) | inr none ↦ absurd none ]
      ])
      u.1)

  pub all_distinct : (qs : List (List ℕ)) → AreUnlike p group qs → distinct_paths p group qs ≡ qs
  unfolding distinct_paths
  all_distinct qs u = all_new [] qs (λ q r i. absurd i) u

-- ---- the number that each of them is

number_is : (n : ℕ) (ms : List ℕ) → is_number n (one_number ms) ≡ true → (m : ℕ) → IsIn m ms → m ≡ n
number_is n [] h m i = absurd i
number_is n (k ∷ ks) h m i = by_test (list_all (λ j. j == k) (k ∷ ks)) refl h
  where
    by_test : (b : Bool) → list_all (λ j. j == k) (k ∷ ks) ≡ b → is_number n (cond b (Some k) None) ≡ true → m ≡ n
    by_test true all f = eqb-true m k (passes (λ j. j == k) (k ∷ ks) all m i) ∙ eqb-true k n f
    by_test false all f = absurd (cc)

-- what is left in at the thing is least
least_from : (b c : Bool) → b ≡ true → (not b || c) ≡ true → c ≡ true
least_from true c e h = h
least_from false c e h = absurd (cc)

module _ (p : PuzzleValue) (z : IsPuzzle p) (group : Group) where
  -- ---- at a thing

  module _ (t : Thing) (a : IsAnchor p t) (ns : List ℕ) (allowed : AreAllowed p group t ns) (own : have_own_cells p ≡ true) (number : is_number (carrier_count p group) (each_by p t ns) ≡ true) where
    whole_is_free : (path : List ℕ) → IsExactCover (smaller_problem p t ns) (has path) → IsFree p z own group t a ns allowed (whole_path p t ns path)
    whole_is_free path e =
        let q = whole_path p t ns path in
        let f = whole_is_path p z t ns path e in
        let c = anchor_in p z t a (chosen_by p q) (cover_packs p z q f) in
        let cells = cells_are p z t a q f c.0 c.1 c.2 in
        let least = least_from (is_at t c.0) (is_least p.region ns c.0.cells) c.2 (left_choices p z t ns path e c.0 c.1) in
        let kept = in_filter (is_kept_at p ns t) c.0 (every_choice p) (may_choose p z q f c.0 c.1) (ap (λ (b : Bool). b && is_least p.region ns c.0.cells) c.2 ∙ least) in
        record {
          path = f;
          least = subst (λ (us : List Coordinates). is_least p.region ns us ≡ true) (sym cells) least;
          many = ap (λ (us : List Coordinates). length (images_by p.region ns us)) cells
              ∙ number_is (carrier_count p group) (map (λ (d : ChoiceValue). length (images_by p.region ns d.cells)) (filter (is_kept_at p ns t) (every_choice p))) number
              (length (images_by p.region ns c.0.cells)) (in_map (λ (d : ChoiceValue). length (images_by p.region ns d.cells)) c.0 (filter (is_kept_at p ns t) (every_choice p)) kept);
        }

    wholes_unlike : (small : List (List ℕ)) → ((q : List ℕ) → IsIn q small → IsExactCover (smaller_problem p t ns) (has q)) → AreDifferent small → AreUnlike p group (map (whole_path p t ns) small)
    wholes_unlike small covers d =
        unlike p z group (map (whole_path p t ns) small) (different_whole p z t ns small covers d)
        (λ q r i j like.
        let x = in_from_map (whole_path p t ns) q small i in
        let y = in_from_map (whole_path p t ns) r small j in
        alike_same p z own group t a ns allowed q r
        (subst (λ (s : List ℕ). IsFree p z own group t a ns allowed s) (sym x.2) (whole_is_free x.0 (covers x.0 x.1)))
        (subst (λ (s : List ℕ). IsFree p z own group t a ns allowed s) (sym y.2) (whole_is_free y.0 (covers y.0 y.1)))
        like)

  pub free_unlike : (t : Thing) → IsAnchor p t → (ns : List ℕ) → AreAllowed p group t ns → acts_freely_at p group t ns ≡ true
      → (small : List (List ℕ)) → ((q : List ℕ) → IsIn q small → IsExactCover (smaller_problem p t ns) (has q)) → AreDifferent small → AreUnlike p group (map (whole_path p t ns) small)
  unfolding acts_freely_at
  free_unlike t a ns allowed free small covers d =
      let both = and_parts (have_own_cells p) (is_number (carrier_count p group) (each_by p t ns)) free in
      wholes_unlike t a ns allowed both.0 both.1 small covers d

  -- ---- at the anchor of the rule

  mirrors_known : has_mirrors p ≡ true → Mirrors p (mirror_name p)
  unfolding has_mirrors
  mirrors_known = mirrors_from p z (mirror_name p)

  moves_allowed : (t : Thing) → IsAnchor p t → AreAllowed p group t (symmetries_at p group t)
  moves_allowed t a = subst (λ (ns : List ℕ). AreAllowed p group t ns) (allowed_is p group t a) (are_allowed p z group (has_mirrors p) (mirror_name p) mirrors_known t a)

  -- if the group moves nothing, alike packings are the same
  alone : have_own_cells p ≡ true → carrier_count p group ≡ 1 → (q r : List ℕ) → IsPath p q → IsPath p r → AreLikePaths p group q r → AreSame q r
  alone own one q r e f like =
      let lays = alike_lays p z group q r e f like in
      same_by_none p z own group q r e f lays.0 lays.1 (one_way p z group one lays.0 0 lays.1 (neutral_kept group p.region p.maybe_cells (has_shapes p z).region)) lays.2

  visits_unlike : have_own_cells p ≡ true → (o : Option Thing) → ((t : Thing) → o ≡ Some t → IsAnchor p t) → is_number (carrier_count p group) (each_stands_at p group o) ≡ true
      → (small : List (List ℕ)) → ((q : List ℕ) → IsIn q small → IsExactCover (smaller_at p group o) (has q)) → AreDifferent small → AreUnlike p group (whole_paths_at p group o small)
  visits_unlike own None anchors number small covers d =
      unlike p z group small d (λ q r i j like. alone own (sym (eqb-true 1 (carrier_count p group) number)) q r (covers q i) (covers r j) like)
  visits_unlike own (Some t) anchors number small covers d =
      wholes_unlike t (anchors t refl) (symmetries_at p group t) (moves_allowed t (anchors t refl)) own number small covers d

  stand_for : have_own_cells p ≡ true → (o : Option Thing) → ((t : Thing) → o ≡ Some t → IsAnchor p t) → is_number (carrier_count p group) (each_stands_at p group o) ≡ true
      → (small : List (List ℕ)) → ((q : List ℕ) → IsIn q small → IsExactCover (smaller_at p group o) (has q)) → stood_for_at p group o small ≡ length small * carrier_count p group
  stand_for own None anchors number small covers =
      subst (λ (n : ℕ). length small ≡ length small * n) (eqb-true 1 (carrier_count p group) number) (omega arith)
  stand_for own (Some t) anchors number small covers =
      let ns = symmetries_at p group t in
      let a = anchors t refl in
      counted_same p t ns (map (whole_path p t ns) small) (carrier_count p group)
      (λ q i.
      let x = in_from_map (whole_path p t ns) q small i in
      ap (λ (r : List ℕ). length (images_by p.region ns (cells_at p t r))) x.2 ∙ (whole_is_free t a ns (moves_allowed t a) own number x.0 (covers x.0 x.1)).many)
      ∙ ap (λ (n : ℕ). n * carrier_count p group) (length-map small (whole_path p t ns))

  module _ (free : acts_freely p group ≡ true) where
    parts : (have_own_cells p ≡ true) × (is_number (carrier_count p group) (each_stands p group) ≡ true)
    unfolding acts_freely
    parts = and_parts (have_own_cells p) (is_number (carrier_count p group) (each_stands p group)) free

    free_visits_unlike : (small : List (List ℕ)) → ((q : List ℕ) → IsIn q small → IsExactCover (smaller p group) (has q)) → AreDifferent small → AreUnlike p group (whole_paths p group small)
    unfolding smaller whole_paths each_stands
    free_visits_unlike = visits_unlike parts.0 (anchor_of p group) (anchor_is_one p group) parts.1

    pub visits_distinct : (small : List (List ℕ)) → ((q : List ℕ) → IsIn q small → IsExactCover (smaller p group) (has q)) → AreDifferent small → new_paths p group small ≡ whole_paths p group small
    visits_distinct small covers d = all_distinct p z group (whole_paths p group small) (free_visits_unlike small covers d)

    long_at : (o : Option Thing) (small : List (List ℕ)) → length (whole_paths_at p group o small) ≡ length small
    long_at None small = refl
    long_at (Some t) small = length-map small (whole_path p t (symmetries_at p group t))

    long : (small : List (List ℕ)) → length (whole_paths p group small) ≡ length small
    unfolding whole_paths
    long = long_at (anchor_of p group)

    pub visits_new : (small : List (List ℕ)) → ((q : List ℕ) → IsIn q small → IsExactCover (smaller p group) (has q)) → AreDifferent small → length (new_paths p group small) ≡ length small
    visits_new small covers d = ap (λ (qs : List (List ℕ)). length qs) (visits_distinct small covers d) ∙ long small

    -- the visits are as many as the classes
    pub visits_count : (all small : List (List ℕ)) → AreTheCovers (packing_problem p) all → AreTheCovers (smaller p group) small → AreDifferent small → IsClassCount (AreAlike group) (map (packing_value p) all) (length small)
    visits_count all small whole covers d =
        subst (λ (n : ℕ). IsClassCount (AreAlike group) (map (packing_value p) all) n) (visits_new small covers.sound d) (new_are_classes p z group all small whole covers)

    -- and each stands for as many packings as there are ways in which the group moves the region's cells
    pub visits_stand : (small : List (List ℕ)) → ((q : List ℕ) → IsIn q small → IsExactCover (smaller p group) (has q)) → stood_for p group small ≡ length small * carrier_count p group
    unfolding smaller stood_for each_stands
    visits_stand = stand_for parts.0 (anchor_of p group) (anchor_is_one p group) parts.1

    pub visits_multiply : (all small : List (List ℕ)) → AreTheCovers (packing_problem p) all → AreDifferent all → AreTheCovers (smaller p group) small → AreDifferent small → length all ≡ length small * carrier_count p group
    visits_multiply all small whole apart covers d = packings_are_stood_for p z group all small whole apart covers d ∙ visits_stand small covers.sound
