-- The choices of paths that stand for packings are the packings, each once; and what is shown of them is what is shown of the paths.
use Rattle.std.proofs.Common.{◌≡◌, ◌<◌, ◌≤◌, ℕ, ◌+◌, ◌-◌, Bool, true, false, inl, inr, List, [], ◌∷◌, ◌++◌, map, refl, sym, ◌∙◌, ap, subst, arith, nat_cmp, decimal, codes}
use Rattle.std.proofs.lemmas.Bool.{and_parts}
use Rattle.std.proofs.lemmas.Cmp.{nat_cmp_total}
use Rattle.std.specs.List.{IsDistinct, list_all}
use Rattle.text_lines.specs.Writing.{line_text}
use Rattle.poly_cells.specs.Sets as sets
use Rattle.poly_cells.specs.Sets.{in_order}
use Rattle.poly_cells.proofs.SetLemmas.{contains_from_in, in_from_contains, in_map, in_from_map, in_order_rises, all_from_in}
use Rattle.poly_cells.proofs.MemberLemmas.{passes, some_passes}
use Rattle.poly_texts.specs.Puzzle.{PuzzleValue, IsPuzzle}
use Rattle.poly_place.specs.Packings.{ChoiceValue, every_choice, choice_at, choice_with, laying_count, packing_problem}
use Rattle.poly_place.specs.Chosen.{same_choice, is_among, laying, chosen_by, packing_value}
use Rattle.poly_place.specs.Layers.{layers}
use Rattle.poly_place.specs.Listing.{packings_from}
use Rattle.poly_place.proofs.DistinctLemmas as distinct
use Rattle.poly_place.proofs.DistinctLemmas.{distinct_filter, distinct_rising, distinct_at, name_from_in}
use Rattle.poly_place.proofs.PackingLemmas.{same_choice_is}
use Rattle.poly_place.proofs.PlacedLemmas.{choices_distinct}
use Rattle.poly_place.proofs.ChosenLemmas.{in_laying}
use Rattle.x_steps.specs.Order.{PathsRise}
use Rattle.x_steps.specs.Covers.{AreCovers}
use Rattle.polylab_engine.specs.Listed.{are_same, AreAllPackings, shown_from}
use Rattle.polylab_engine.specs.Further.{ArePackingPaths}
use Rattle.polylab_engine.specs.Packing.{Packs}
use Rattle.polylab_engine.proofs.PackingLemmas.{packs_from, packing_from}
use Rattle.polylab_engine.proofs.PathLemmas.{in_from, in_to, paths_distinct}

-- what a function gives of different things differs, where that is so of any two of them
distinct_on : {X Y : Type 0} (f : X → Y) (test : Y → Y → Bool) (xs : List X) → ((a b : X) → sets.IsIn a xs → sets.IsIn b xs → test (f a) (f b) ≡ true → a ≡ b)
    → distinct.IsDistinct xs → IsDistinct test (map f xs)
unfolding IsDistinct
distinct_on f test [] same d = tt
distinct_on {X} {Y} f test (x ∷ xs) same d = (
  all_from_in (λ (y : Y). test (f x) y ≡ false) (map f xs) later,
  distinct_on f test xs (λ a b i j. same a b (inr i) (inr j)) d.1,
)
  where
    unlike : (a : X) → sets.IsIn a xs → (b : Bool) → test (f x) (f a) ≡ b → b ≡ false
    unlike a i true t = absurd (d.0 (subst (λ (z : X). sets.IsIn z xs) (sym (same x a (inl refl) (inr i) t)) i))
    unlike a i false t = refl

    later : (y : Y) → sets.IsIn y (map f xs) → test (f x) y ≡ false
    later y i =
        let a = in_from_map f y xs i in
        ap (test (f x)) a.2 ∙ unlike a.0 a.1 (test (f x) (f a.0)) refl

-- ---- lists of the same choices

both : (a b : Bool) → (a ≡ true → b ≡ true) → (b ≡ true → a ≡ true) → a ≡ b
both true b f g = sym (f refl)
both false true f g = g refl
both false false f g = refl

within : (cs ds : List ChoiceValue) (c : ChoiceValue) → list_all (is_among ds) cs ≡ true → is_among cs c ≡ true → is_among ds c ≡ true
within cs ds c all h =
    let d = some_passes (same_choice c) cs h in
    subst (λ (e : ChoiceValue). is_among ds e ≡ true) (sym (same_choice_is c d.0 d.2)) (passes (is_among ds) cs all d.0 d.1)

same_tests : (cs ds : List ChoiceValue) → are_same cs ds ≡ true → (c : ChoiceValue) → is_among cs c ≡ is_among ds c
same_tests cs ds h c =
    let parts = and_parts (list_all (is_among ds) cs) (list_all (is_among cs) ds) h in
    both (is_among cs c) (is_among ds c) (within cs ds c parts.0) (within ds cs c parts.1)

-- ---- the choices of a path

module _ (p : PuzzleValue) (z : IsPuzzle p) where
  one_number : (a b : ℕ) → 0 < a → a ≤ laying_count p → 0 < b → b ≤ laying_count p → choice_at p a ≡ choice_at p b → a ≡ b
  one_number a b la ha lb hb e =
      let k = distinct_at (choice_with 0 []) (every_choice p) (a - 1) (b - 1) (choices_distinct p z) (omega (arith, la, ha)) (omega (arith, lb, hb)) e in
      omega (arith, la, lb, k)

  choices_differ : (q : List ℕ) → ((o : ℕ) → sets.IsIn o q → 0 < o) → IsDistinct same_choice (chosen_by p q)
  choices_differ q low =
      distinct_on (choice_at p) same_choice (laying p q)
      (λ a b i j same.
      let x = in_laying p q a i in
      let y = in_laying p q b j in
      one_number a b (low a x.0) x.1 (low b y.0) y.1 (same_choice_is (choice_at p a) (choice_at p b) same))
      (distinct_filter _ (in_order nat_cmp q) (distinct_rising nat_cmp_total (in_order nat_cmp q) (in_order_rises nat_cmp_total q)))

  pub all_packings : (paths : List (List ℕ)) → PathsRise paths → AreCovers (packing_problem p) paths → ArePackingPaths p paths → AreAllPackings p (map (chosen_by p) paths)
  all_packings paths rise covers are = record {
    distinct = λ cs i.
        let q = in_from_map (chosen_by p) cs paths (in_from_contains (map (chosen_by p) paths) cs i) in
        subst (IsDistinct same_choice) (sym q.2)
        (choices_differ q.0 (λ o j. ((covers.sound q.0 (in_to q.0 paths q.1)).options o (name_from_in q.0 o j)).0));
    sound = λ cs i.
        let q = in_from_map (chosen_by p) cs paths (in_from_contains (map (chosen_by p) paths) cs i) in
        subst (λ (ds : List ChoiceValue). Packs p (is_among ds)) (sym q.2) (packs_from p (is_among (chosen_by p q.0)) (are.sound q.0 (in_to q.0 paths q.1)));
    complete = λ chosen packing.
        let q = are.complete chosen (packing_from p chosen packing) in
        (chosen_by p q.0, contains_from_in (map (chosen_by p) paths) (chosen_by p q.0) (in_map (chosen_by p) q.0 paths (in_from q.0 paths q.1)), q.2);
    once = distinct_on (chosen_by p) are_same paths
        (λ q r i j same. are.once q r (in_to q paths i) (in_to r paths j) (same_tests (chosen_by p q) (chosen_by p r) same))
        (paths_distinct paths rise);
  }

-- ---- what is shown

pub shown_is : (p : PuzzleValue) (k : ℕ) (paths : List (List ℕ)) → packings_from p k paths ≡ shown_from p k (map (chosen_by p) paths)
shown_is p k [] = refl
shown_is p k (q ∷ paths) =
    ap (λ (rest : List ℕ). line_text (codes "packing" ∷ decimal k ∷ []) ++ layers (packing_value p q) ++ rest) (shown_is p (k + 1) paths)
