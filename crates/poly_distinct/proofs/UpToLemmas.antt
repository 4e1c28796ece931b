-- The search up to symmetry at the anchor that the rule finds: its problem is a problem, its covers miss no class and are counted, and each
-- of them stands for as many packings where the comment says so.
use Rattle.std.proofs.Common.{◌≡◌, ℕ, zero, suc, ◌*◌, ◌<◌, ◌==◌, nat_le, Bool, true, false, not, ◌||◌, ◌&&◌, cond, Option, Some, None, List, [], ◌∷◌, map, filter, length, get_or, inl, inr, refl, sym, ap, subst, ◌∙◌, arith, eqb-true, leb-true}
use Rattle.std.specs.List.{list_all}
use Rattle.std.proofs.lemmas.List.{length-map}
use Rattle.std.specs.Ordering.{nat_cmp}
use Rattle.poly_cells.specs.Coordinates.{Coordinates}
use Rattle.poly_cells.specs.Sets.{IsIn, in_order}
use Rattle.poly_cells.proofs.SetLemmas.{in_map, in_from_map, in_from_order}
use Rattle.poly_cells.proofs.MemberLemmas.{in_filter, in_from_filter, passes}
use Rattle.shared_words.specs.Lists.{has}
use Rattle.cover_problem.specs.Problem.{ProblemValue, IsProblem, is_small}
use Rattle.cover_problem.specs.ExactCover.{IsExactCover}
use Rattle.poly_texts.specs.Puzzle.{PuzzleValue, IsPuzzle}
use Rattle.poly_place.specs.declared.alike.Group.{Group}
use Rattle.poly_place.specs.Packings.{ChoiceValue, Thing, choice_at, every_choice, laying_count, packing_problem}
use Rattle.poly_place.specs.Chosen.{packing_value, chosen_by, laying}
use Rattle.poly_place.specs.Classes.{AreAlike, IsClassCount}
use Rattle.poly_place.proofs.CompiledLemmas.{is_problem}
use Rattle.poly_place.proofs.ChosenLemmas.{cover_packs}
use Rattle.poly_place.proofs.StandLemmas.{chosen_in}
use Rattle.poly_distinct.specs.Exchange.{mirror_name, has_mirrors}
use Rattle.poly_distinct.specs.Rule.{anchor_of, is_kept_at, symmetries_at}
use Rattle.poly_distinct.proofs.RuleLemmas.{allowed_is}
use Rattle.poly_distinct.specs.Fewer.{AreNumbersTo}
use Rattle.poly_distinct.specs.Distinct.{IsAnchor, Mirrors, AreAllowed, HaveInverses, AreTheCovers, AreDifferent, MeetAll, AreOneOfEach, IsPath, numbers_left, whole_path, smaller_problem, is_at, is_least, cells_at, images_by}
use Rattle.poly_distinct.specs.UpTo.{smaller_at, smaller, whole_paths_at, whole_paths, new_paths, stood_for_at, stood_for, one_number, each_stands_at, each_stands}
use Rattle.poly_distinct.proofs.AnchorRuleLemmas.{anchor_is_one}
use Rattle.poly_distinct.proofs.MirrorLemmas.{mirrors_from}
use Rattle.poly_distinct.proofs.RestrictLemmas.{AreSame, same_back, same_on, in_has}
use Rattle.poly_distinct.proofs.FewerLemmas.{fewer_is_problem}
use Rattle.poly_distinct.proofs.SmallerLemmas.{smaller_is, left_are_options, left_choices, whole_is_path, meets_all, all_meet, numbers_rise}
use Rattle.poly_distinct.proofs.AnchorLemmas.{anchor_in}
use Rattle.poly_distinct.proofs.AllowedLemmas.{are_allowed, have_inverses}
use Rattle.poly_distinct.proofs.CountedLemmas.{counts, counted_same, cells_are, different_distinct, different_once}
use Rattle.poly_distinct.proofs.NewLemmas.{one_of_each, some_count, no_longer}

member_at : (xs : List ℕ) (k : ℕ) → k < length xs → IsIn (get_or xs k 0) xs
member_at [] k h = absurd (omega (arith, h))
member_at (x ∷ xs) zero h = inl refl
member_at (x ∷ xs) (suc k) h = inr (member_at xs k (omega (arith, h)))

-- what is left in at the anchor is there and least
left_there : (b c : Bool) → b ≡ true → (not b || c) ≡ true → (b && c) ≡ true
left_there true c e h = h
left_there false c e h = absurd (cc)

-- a number that all of them are is each of them
is_the_number : (ms : List ℕ) (n : ℕ) → one_number ms ≡ Some n → (m : ℕ) → IsIn m ms → m ≡ n
is_the_number [] n e m i = absurd i
is_the_number (k ∷ ks) n e m i = by_test (list_all (λ m. m == k) (k ∷ ks)) refl e
  where
    by_test : (b : Bool) → list_all (λ m. m == k) (k ∷ ks) ≡ b → cond b (Some k) None ≡ Some n → m ≡ n
    by_test true all f =
        let same : k ≡ n = cc in
        eqb-true m k (passes (λ m. m == k) (k ∷ ks) all m i) ∙ same
    by_test false all f = absurd (cc)

module _ (p : PuzzleValue) (z : IsPuzzle p) (group : Group) where
  -- a choice of a path is one that may be chosen
  is_choice : (q : List ℕ) → IsPath p q → (c : ChoiceValue) → IsIn c (chosen_by p q) → IsIn c (every_choice p)
  is_choice q e c i =
      let o = in_from_map (choice_at p) c (laying p q) i in
      let k = in_from_filter (λ (n : ℕ). nat_le n (laying_count p)) o.0 (in_order nat_cmp q) o.1 in
      let within = leb-true o.0 (laying_count p) k.1 in
      let some = (e.options o.0 (in_has q o.0 (in_from_order nat_cmp o.0 q k.0))).0 in
      subst (λ (d : ChoiceValue). IsIn d (every_choice p)) (sym o.2) (chosen_in p o.0 some within)

  -- the anchor, if there is one, is one
  abbrev MayAnchor : Option Thing → Type 0
  MayAnchor a = (t : Thing) → a ≡ Some t → IsAnchor p t

  rule : MayAnchor (anchor_of p group)
  rule = anchor_is_one p group

  mirrors_known : has_mirrors p ≡ true → Mirrors p (mirror_name p)
  unfolding has_mirrors
  mirrors_known = mirrors_from p z (mirror_name p)

  moves_allowed : (t : Thing) → IsAnchor p t → AreAllowed p group t (symmetries_at p group t)
  moves_allowed t a = subst (λ (ns : List ℕ). AreAllowed p group t ns) (allowed_is p group t a) (are_allowed p z group (has_mirrors p) (mirror_name p) mirrors_known t a)

  moves_inverse : (t : Thing) → IsAnchor p t → HaveInverses p (symmetries_at p group t)
  moves_inverse t a = subst (λ (ns : List ℕ). HaveInverses p ns) (allowed_is p group t a) (have_inverses p z group (has_mirrors p) (mirror_name p) mirrors_known t a)

  -- ---- the problem

  pub smaller_at_is_problem : (t : Thing) → is_small (packing_problem p) ≡ true → (ns : List ℕ) → AreNumbersTo (length (packing_problem p).options) (numbers_left p t ns)
  smaller_at_is_problem t small ns k lt = left_are_options p z t ns (get_or (numbers_left p t ns) k 0) (in_has (numbers_left p t ns) (get_or (numbers_left p t ns) k 0) (member_at (numbers_left p t ns) k lt))

  problem_at : (a : Option Thing) → is_small (packing_problem p) ≡ true → IsProblem (smaller_at p group a)
  problem_at None small = is_problem p z small
  problem_at (Some t) small =
      let ns = symmetries_at p group t in
      subst IsProblem (sym (smaller_is p z t ns)) (fewer_is_problem (packing_problem p) (numbers_left p t ns) (is_problem p z small) (smaller_at_is_problem t small ns) (numbers_rise p t ns))

  pub smaller_is_problem : is_small (packing_problem p) ≡ true → IsProblem (smaller p group)
  unfolding smaller
  smaller_is_problem = problem_at (anchor_of p group)

  -- ---- its covers

  meets_at : (a : Option Thing) → MayAnchor a → (small : List (List ℕ)) → AreTheCovers (smaller_at p group a) small → MeetAll p group (whole_paths_at p group a small)
  meets_at None anchors small covers = all_meet p z group small covers
  meets_at (Some t) anchors small covers = meets_all p z t (symmetries_at p group t) group (anchors t refl) (moves_allowed t (anchors t refl)) small covers

  -- they stand for packings, and miss no class
  pub smaller_meets : (small : List (List ℕ)) → AreTheCovers (smaller p group) small → MeetAll p group (whole_paths p group small)
  unfolding smaller whole_paths
  smaller_meets = meets_at (anchor_of p group) rule

  -- those that are like none before them are one of each class
  pub new_are_one_of_each : (small : List (List ℕ)) → AreTheCovers (smaller p group) small → AreOneOfEach p group (new_paths p group small)
  new_are_one_of_each small covers = one_of_each p z group (whole_paths p group small) (smaller_meets small covers)

  -- as many as there are classes of packings
  pub new_are_classes : (all small : List (List ℕ)) → AreTheCovers (packing_problem p) all → AreTheCovers (smaller p group) small
      → IsClassCount (AreAlike group) (map (packing_value p) all) (length (new_paths p group small))
  new_are_classes all small whole covers = some_count p z group all (whole_paths p group small) (all_meet p z group all whole) (smaller_meets small covers)

  -- ---- how many packings they stand for

  same_length : (q : ProblemValue) (all small : List (List ℕ)) → AreTheCovers q all → AreDifferent all → AreTheCovers q small → AreDifferent small → length all ≡ length small
  same_length q all small whole apart covers differ =
      let here = no_longer AreSame all small (different_distinct all apart)
      (λ r i. let s = covers.complete (has r) (whole.sound r i) in (s.0, s.1, same_back s.0 r s.2))
      (λ r s t i j k a b. different_once all apart r s i j (same_on r t s a (same_back s t b))) in
      let there = no_longer AreSame small all (different_distinct small differ)
      (λ r i. let s = whole.complete (has r) (covers.sound r i) in (s.0, s.1, same_back s.0 r s.2))
      (λ r s t i j k a b. different_once small differ r s i j (same_on r t s a (same_back s t b))) in
      omega (arith, here, there)

  counts_at : (a : Option Thing) → MayAnchor a → (all small : List (List ℕ)) → AreTheCovers (packing_problem p) all → AreDifferent all → AreTheCovers (smaller_at p group a) small → AreDifferent small
      → length all ≡ stood_for_at p group a small
  counts_at None anchors all small whole apart covers differ = same_length (packing_problem p) all small whole apart covers differ
  counts_at (Some t) anchors all small whole apart covers differ =
      counts p z group t (anchors t refl) (symmetries_at p group t) (moves_allowed t (anchors t refl)) (moves_inverse t (anchors t refl)) small covers differ all whole apart

  pub packings_are_stood_for : (all small : List (List ℕ)) → AreTheCovers (packing_problem p) all → AreDifferent all → AreTheCovers (smaller p group) small → AreDifferent small → length all ≡ stood_for p group small
  unfolding smaller stood_for
  packings_are_stood_for = counts_at (anchor_of p group) rule

  -- ---- where each cover stands for as many

  -- a choice that a cover of the smaller problem chooses at the thing is kept
  chosen_kept : (t : Thing) (ns : List ℕ) (path : List ℕ) → IsExactCover (smaller_problem p t ns) (has path) → (c : ChoiceValue) → IsIn c (chosen_by p (whole_path p t ns path)) → is_at t c ≡ true
      → IsIn c (filter (is_kept_at p ns t) (every_choice p))
  chosen_kept t ns path e c i at =
      in_filter (is_kept_at p ns t) c (every_choice p) (is_choice (whole_path p t ns path) (whole_is_path p z t ns path e) c i)
      (left_there (is_at t c) (is_least p.region ns c.cells) at (left_choices p z t ns path e c i))

  each_at : (a : Option Thing) → MayAnchor a → (n : ℕ) (small : List (List ℕ)) → each_stands_at p group a ≡ Some n → AreTheCovers (smaller_at p group a) small → stood_for_at p group a small ≡ length small * n
  each_at None anchors n small e covers = let one : 1 ≡ n = cc in subst (λ (m : ℕ). length small ≡ length small * m) one (omega arith)
  each_at (Some t) anchors n small e covers =
      let ns = symmetries_at p group t in
      let wholes = map (whole_path p t ns) small in
      let long = length-map small (whole_path p t ns) in
      let a = anchors t refl in
      let sum = counted_same p t ns wholes n (λ q i.
      let path = in_from_map (whole_path p t ns) q small i in
      let cover = covers.sound path.0 path.1 in
      let e' = whole_is_path p z t ns path.0 cover in
      let c = anchor_in p z t a (chosen_by p (whole_path p t ns path.0)) (cover_packs p z (whole_path p t ns path.0) e') in
      let counted = in_map (λ (d : ChoiceValue). length (images_by p.region ns d.cells)) c.0 (filter (is_kept_at p ns t) (every_choice p)) (chosen_kept t ns path.0 cover c.0 c.1 c.2) in
      ap (λ (r : List ℕ). length (images_by p.region ns (cells_at p t r))) path.2
      ∙ ap (λ (us : List Coordinates). length (images_by p.region ns us)) (cells_are p z t a (whole_path p t ns path.0) e' c.0 c.1 c.2)
      ∙ is_the_number (map (λ (d : ChoiceValue). length (images_by p.region ns d.cells)) (filter (is_kept_at p ns t) (every_choice p))) n e _ counted) in
      sum ∙ ap (λ (m : ℕ). m * n) long

  pub each_stands_for : (n : ℕ) (small : List (List ℕ)) → each_stands p group ≡ Some n → AreTheCovers (smaller p group) small → stood_for p group small ≡ length small * n
  unfolding smaller stood_for each_stands
  each_stands_for = each_at (anchor_of p group) rule
