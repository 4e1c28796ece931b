-- What the rule chooses is an anchor.
use Rattle.std.proofs.Common.{◌≡◌, ℕ, ◌==◌, Bool, true, false, not, cond, List, [], ◌∷◌, map, filter, Option, inl, inr, refl, sym, ap, subst, ◌∙◌, eq-eqb}
use Rattle.std.specs.Prelude.{find, option_map, unwrap_or, Some, None}
use Rattle.std.proofs.lemmas.Bool.{and_parts, not-true}
use Rattle.poly_cells.specs.Sets.{IsIn}
use Rattle.poly_cells.proofs.SetLemmas.{in_append_cases, in_from_map}
use Rattle.poly_cells.proofs.MemberLemmas.{in_from_filter, passes, passes_some}
use Rattle.poly_texts.specs.Puzzle.{PuzzleValue, pieces_of, equal_names, names_of, has_name, is_needed}
use Rattle.cover_problem.specs.Problem.{ProblemValue}
use Rattle.poly_place.specs.declared.alike.Group.{Group}
use Rattle.poly_place.specs.Packings.{Thing, must_fill, packing_problem}
use Rattle.poly_place.specs.Compiled.{filled_cells}
use Rattle.poly_distinct.specs.declared.anchor.Anchor.{Anchor}
use Rattle.poly_distinct.specs.declared.anchor.Anchor.TheVariants.{Piece, Cell}
use Rattle.poly_distinct.specs.Distinct.{IsAnchor}
use Rattle.poly_distinct.specs.Moves.{thing_of}
use Rattle.poly_distinct.specs.Rule.{TallyValue, anchors_of, anchor_of, chosen_of, fewer, first_best, if_passes, is_alone, is_below_all, is_single, least_parts, leaves_out, less_part, more, none_better, tallies_of, anchor_tally}

-- ---- what is found is there

found_case : {X : Type 0} (b : Bool) (x y : X) (ys : List X) (rest : Option X) → (rest ≡ Some x → IsIn x ys) → cond b (Some y) rest ≡ Some x → IsIn x (y ∷ ys)
found_case true x y ys rest h e = inl (sym (ap (λ o. unwrap_or o y) e))
found_case false x y ys rest h e = inr (h e)

found_in : {X : Type 0} (test : X → Bool) (xs : List X) (x : X) → find test xs ≡ Some x → IsIn x xs
found_in test [] x e = cc
found_in test (y ∷ ys) x e = found_case (test y) x y ys (find test ys) (found_in test ys x) e

picked : (b : Bool) (y a : TallyValue) (other : Option TallyValue) (all : List TallyValue) → IsIn y all → (other ≡ Some a → IsIn a all) → cond b (Some y) other ≡ Some a → IsIn a all
picked true y a other all i k e = subst (λ (z : TallyValue). IsIn z all) (ap (λ o. unwrap_or o y) e) i
picked false y a other all i k e = k e

passed : (test : TallyValue → Bool) (o other : Option TallyValue) (all : List TallyValue) (a : TallyValue) → ((x : TallyValue) → o ≡ Some x → IsIn x all) → (other ≡ Some a → IsIn a all)
    → if_passes test o other ≡ Some a → IsIn a all
passed test None other all a h k e = cc
passed test (Some y) other all a h k e = picked (test y) y a other all (h y refl) k e

chosen_in : (q : ProblemValue) (all : List TallyValue) (a : TallyValue) → chosen_of q all ≡ Some a → IsIn a all
chosen_in q all a e =
    passed (λ (b : TallyValue). is_below_all q b.kept) (first_best fewer all) (first_best more all) all a
    (λ x f. found_in (none_better fewer all) all x f) (λ f. found_in (none_better more all) all a f) e

mapped : {X Y : Type 0} (f : X → Y) (o : Option X) (y : Y) → option_map f o ≡ Some y → (x : X) × (o ≡ Some x) × (f x ≡ y)
mapped f None y e = cc
mapped f (Some x) y e = (x, refl, ap (λ o. unwrap_or o (f x)) e)

-- ---- anchors

absent : (name : ℕ) (group : List ℕ) → not (has_name group name) ≡ true → IsIn name group → ⊥
absent name group h i =
    let there = passes_some (λ n. n == name) name group i (eq-eqb name name refl) in
    let gone = not-true (has_name group name) h in
    cc

anchor_is : (p : PuzzleValue) (a : Anchor) → IsIn a (anchors_of p) → IsAnchor p (thing_of a)
anchor_is p a i = elim (in_append_cases a (map Piece (filter (is_single p) (names_of (pieces_of p)))) (map Cell (filled_cells p)) i) [
  | inl l ↦
      let name = in_from_map Piece a (filter (is_single p) (names_of (pieces_of p))) l in
      let there = in_from_filter (is_single p) name.0 (names_of (pieces_of p)) name.1 in
      let parts = and_parts (is_needed p name.0) (is_alone p name.0) there.1 in
      subst (λ (b : Anchor). IsAnchor p (thing_of b)) (sym name.2)
      (there.0, parts.0, λ group j k. absent name.0 group (passes (λ g. not (has_name g name.0)) (equal_names p) parts.1 group j) k)
  | inr r ↦
      let v = in_from_map Cell a (filled_cells p) r in
      let there = in_from_filter (must_fill p) v.0 p.region v.1 in
      subst (λ (b : Anchor). IsAnchor p (thing_of b)) (sym v.2) there.1
]

pub anchor_is_one : (p : PuzzleValue) (group : Group) (t : Thing) → anchor_of p group ≡ Some t → IsAnchor p t
unfolding anchor_of
anchor_is_one p group t e =
    let all = tallies_of p group in
    let a = mapped (λ (b : TallyValue). thing_of b.anchor) (chosen_of (packing_problem p) (least_parts all)) t e in
    let least = chosen_in (packing_problem p) (least_parts all) a.0 a.1 in
    let tally = in_from_filter (none_better less_part all) a.0 all least in
    let counted = in_from_filter leaves_out a.0 (map (anchor_tally p group) (anchors_of p)) tally.0 in
    let anchor = in_from_map (anchor_tally p group) a.0 (anchors_of p) counted.0 in
    subst (λ (s : Thing). IsAnchor p s) (sym (ap (λ (b : TallyValue). thing_of b.anchor) anchor.2) ∙ a.2) (anchor_is p anchor.0 anchor.1)
