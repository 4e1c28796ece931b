-- Options of the problem stand for choices of a packing, and for ways to leave out spare copies.
use Rattle.std.proofs.Common.{false, not, ◌≡◌, ◌⊎◌, ℕ, ◌+◌, ◌-◌, ◌<◌, ◌≤◌, List, [], ◌++◌, map, length, get_or, Bool, true, nat_lt, inl, inr, refl, sym, ap, subst, ◌∙◌, arith, ap₂}
use Rattle.std.proofs.lemmas.Bool.{cases_Bool, not-true, and_parts, ltb-true, ltb-false}
use Rattle.std.proofs.lemmas.List.{length-append, length-map}
use Rattle.poly_cells.specs.Coordinates.{Coordinates}
use Rattle.poly_cells.specs.Sets.{IsIn}
use Rattle.poly_cells.proofs.SetLemmas.{in_append_right, in_map, in_from_map, in_at}
use Rattle.poly_texts.specs.Puzzle.{PuzzleValue, IsPuzzle, has_name, is_needed, maybe_names, equal_names}
use Rattle.shared_words.specs.Lists.{has}
use Rattle.cover_problem.specs.Problem.{option_at}
use Rattle.poly_place.specs.Packings.{ChoiceValue, choice_with, is_any, IsUsed, first_cell, tree_levels, leaf_of, place_of, IsPlaced, every_choice, leavings, leaving_option, laying_count, option_count, leaving_at, LeavesOut, Thing, a_piece, a_cell, needed_things, thing_item, things_of, option_of, packing_problem, choice_at, SetStandsFor}
use Rattle.poly_place.proofs.DistinctLemmas.{IsDistinct, at_of_in, distinct_at, distinct_names}
use Rattle.poly_place.proofs.ThingLemmas.{has_item, thing_of_item, the_piece, the_cell, on_right, on_left, part_of}
use Rattle.poly_place.proofs.TurnLemmas.{IsBelow, leaf_below}
use Rattle.poly_place.proofs.PairLemmas.{all_of}
use Rattle.poly_place.proofs.EqualLemmas.{group_is, distinct_group}
use Rattle.poly_place.proofs.LeavingsLemmas.{one_split, IsLeaving, leaving_is, leavings_distinct, laying_is, leaving_within, leaving_option_is, leaving_at_in}
use Rattle.poly_place.proofs.PlaceLemmas.{place_within, first_in, enough_levels}
use Rattle.poly_cells.proofs.ImageLemmas.{in_from_some, some_from_in}
use Rattle.poly_texts.proofs.EqualLemmas.{equal_new}
use Rattle.poly_place.proofs.PlacedLemmas.{HasShapes, choices_distinct}

-- ---- options stand for choices

pub chosen_in : (p : PuzzleValue) (o : ℕ) → 0 < o → o ≤ length (every_choice p) → IsIn (choice_at p o) (every_choice p)
chosen_in p o some within = in_at (every_choice p) (o - 1) (choice_with 0 []) (omega arith)

one_after : (k : ℕ) → k + 1 - 1 ≡ k
one_after k = omega arith

pub number_of_choice : (p : PuzzleValue) (c : ChoiceValue) → IsIn c (every_choice p) → (o : ℕ) × (0 < o) × (o ≤ length (every_choice p)) × (choice_at p o ≡ c)
number_of_choice p c i =
    let at = at_of_in (choice_with 0 []) c (every_choice p) i in
    (at.0 + 1, omega arith, let w = at.1 in omega arith, ap (λ (k : ℕ). get_or (every_choice p) k (choice_with 0 [])) (one_after at.0) ∙ at.2)

pub same_number : (p : PuzzleValue) → IsPuzzle p → (a b : ℕ) → 0 < a → a ≤ length (every_choice p) → 0 < b → b ≤ length (every_choice p) → choice_at p a ≡ choice_at p b → a ≡ b
same_number p z a b sa wa sb wb e =
    let same = distinct_at (choice_with 0 []) (every_choice p) (a - 1) (b - 1) (choices_distinct p z) (omega arith) (omega arith) e in
    omega (arith, same)

pub holds : (p : PuzzleValue) (o : ℕ) (t : Thing) → 0 < o → o ≤ length (every_choice p) → IsIn t (things_of p (choice_at p o)) → has (option_at (packing_problem p) o) (thing_item p t) ≡ true
holds p o t some within i =
    ap (λ (items : List ℕ). has items (thing_item p t)) (laying_is p o some within) ∙ has_item (thing_item p) t (things_of p (choice_at p o)) i

pub held : (p : PuzzleValue) (o i : ℕ) → 0 < o → o ≤ length (every_choice p) → has (option_at (packing_problem p) o) i ≡ true → (t : Thing) × IsIn t (things_of p (choice_at p o)) × (thing_item p t ≡ i)
held p o i some within h =
    thing_of_item (thing_item p) i (things_of p (choice_at p o)) (ap (λ (items : List ℕ). has items i) (sym (laying_is p o some within)) ∙ h)

pub holds_left : (p : PuzzleValue) (o n : ℕ) → laying_count p < o → o ≤ option_count p → IsIn n ((leaving_at p o).1) → has (option_at (packing_problem p) o) (thing_item p (a_piece n)) ≡ true
holds_left p o n past within i =
    ap (λ (items : List ℕ). has items (thing_item p (a_piece n))) (leaving_option_is p o past within)
    ∙ has_item (thing_item p) (a_piece n) (map a_piece ((leaving_at p o).1)) (in_map a_piece n ((leaving_at p o).1) i)

pub held_left : (p : PuzzleValue) (o i : ℕ) → laying_count p < o → o ≤ option_count p → has (option_at (packing_problem p) o) i ≡ true → (n : ℕ) × IsIn n ((leaving_at p o).1) × (thing_item p (a_piece n) ≡ i)
held_left p o i past within h =
    let t = thing_of_item (thing_item p) i (map a_piece ((leaving_at p o).1)) (ap (λ (items : List ℕ). has items i) (sym (leaving_option_is p o past within)) ∙ h) in
    let n = in_from_map a_piece t.0 ((leaving_at p o).1) t.1 in
    (n.0, n.1, ap (thing_item p) (sym n.2) ∙ t.2)

-- an option lays a piece or leaves some out
pub side : (p : PuzzleValue) (o : ℕ) → (o ≤ laying_count p) ⊎ (laying_count p < o)
side p o =
    elim (cases_Bool (nat_lt (laying_count p) o)) [
      | inl t ↦ inr (ltb-true (laying_count p) o t)
      | inr f ↦ inl (ltb-false (laying_count p) o f)
    ]

-- what two options leave out is the same for one option alone
same_leaving : (p : PuzzleValue) → IsPuzzle p → (o q : ℕ) → laying_count p < o → o ≤ option_count p → laying_count p < q → q ≤ option_count p → leaving_at p o ≡ leaving_at p q → o ≡ q
same_leaving p z o q a b c d e =
    let same = distinct_at ([], []) (leavings p) (o - length (every_choice p) - 1) (q - length (every_choice p) - 1) (leavings_distinct p z) (leaving_within p o a b) (leaving_within p q c d) e in
    omega (arith, same, a, c)

pub number_of_leaving : (p : PuzzleValue) (parts : List ℕ × List ℕ) → IsIn parts (leavings p) → (o : ℕ) × (laying_count p < o) × (o ≤ option_count p) × (leaving_at p o ≡ parts)
number_of_leaving p parts i =
    let at = at_of_in ([], []) parts (leavings p) i in
    let back : length (every_choice p) + at.0 + 1 - length (every_choice p) - 1 ≡ at.0 = omega arith in
    (length (every_choice p) + at.0 + 1, omega arith, let w = at.1 in omega arith, ap (λ (k : ℕ). get_or (leavings p) k ([], [])) back ∙ at.2)

pub primary_is : (p : PuzzleValue) → (packing_problem p).primary ≡ length (needed_things p)
unfolding packing_problem
primary_is p = refl

pub options_long : (p : PuzzleValue) → length ((packing_problem p).options) ≡ option_count p
unfolding packing_problem
options_long p =
    let all = length-append (map (option_of p) (every_choice p)) (map (leaving_option p) (leavings p)) in
    let first = length-map (every_choice p) (option_of p) in
    let second = length-map (leavings p) (leaving_option p) in
    omega (arith, all, first, second)

pub count_is : (p : PuzzleValue) (o : ℕ) → o ≤ option_count p → o ≤ length ((packing_problem p).options)
count_is p o h = subst (λ (n : ℕ). o ≤ n) (sym (options_long p)) h

-- ---- the parts of a choice

pub in_piece : (p : PuzzleValue) (c : ChoiceValue) (name : ℕ) → IsIn (a_piece name) (things_of p c) → (is_any p c.name ≡ false) × (c.name ≡ name)
in_piece p c name i = elim (part_of p c (a_piece name) i) [
  | the_piece single e ↦ (single, cc)
  | the_cell v j e ↦ cc
  | on_right pair h j n r e ↦ cc
  | on_left pair h j n l e ↦ cc
]

pub in_cell : (p : PuzzleValue) (c : ChoiceValue) (v : Coordinates) → IsIn (a_cell v) (things_of p c) → IsIn v c.cells
in_cell p c v i = elim (part_of p c (a_cell v) i) [
  | the_piece single e ↦ cc
  | the_cell w j e ↦ let same : v ≡ w = cc in subst (λ (u : Coordinates). IsIn u c.cells) (sym same) j
  | on_right pair h j n r e ↦ cc
  | on_left pair h j n l e ↦ cc
]

-- a required piece is not one that may be used any number of times
pub needed_single : (p : PuzzleValue) (name : ℕ) → is_needed p name ≡ true → is_any p name ≡ false
needed_single p name n = not-true (is_any p name) (and_parts (not (has_name (maybe_names p) name)) (not (is_any p name)) n).1

-- ---- the leaf of a placement

-- a placement has a least cell, which lies in the region
pub least_in : (p : PuzzleValue) → HasShapes p → (c : ChoiceValue) → IsPlaced p c → IsIn (first_cell c.cells) c.cells
least_in p s c q =
    let v = in_from_some q.piece (s.pieces (c.name, q.piece) q.named).some in
    let w = q.placed.image.into v.0 v.1 in
    first_in c.cells (some_from_in w.0 c.cells w.1)

pub least_inside : (p : PuzzleValue) → HasShapes p → (c : ChoiceValue) → IsPlaced p c → IsIn (first_cell c.cells) p.region
least_inside p s c q = q.placed.inside (first_cell c.cells) (least_in p s c q)

pub leaf_placed : (p : PuzzleValue) → HasShapes p → (c : ChoiceValue) → IsPlaced p c → IsBelow (tree_levels p) (leaf_of p c)
unfolding tree_levels
leaf_placed p s c q =
    let within = place_within p.region (first_cell c.cells) s.region.rises (least_inside p s c q) in
    let enough = enough_levels (length p.region) s.few in
    leaf_below (tree_levels p) (place_of p.region (first_cell c.cells)) (omega (arith, within, enough))

-- what is chosen, and the number of its option
pub record IsNumbered (p : PuzzleValue) (set : ℕ → Bool) (c : ChoiceValue) : Type 0 where
  pub number : ℕ
  pub some : 0 < number
  pub within : number ≤ length (every_choice p)
  pub taken : set number ≡ true
  pub is : choice_at p number ≡ c

-- a copy is left out by an option
pub record IsLeftBy (p : PuzzleValue) (set : ℕ → Bool) (n : ℕ) : Type 0 where
  pub option : ℕ
  pub taken : set option ≡ true
  pub past : laying_count p < option
  pub within : option ≤ option_count p
  pub member : IsIn n ((leaving_at p option).1)

-- options that lay a piece stand for what is chosen
pub record LaysWhat (p : PuzzleValue) (set : ℕ → Bool) (chosen : ChoiceValue → Bool) : Type 0 where
  pub within : (o : ℕ) → set o ≡ true → (0 < o) × (o ≤ option_count p)
  pub forth : (o : ℕ) → set o ≡ true → o ≤ laying_count p → chosen (choice_at p o) ≡ true
  pub back : (c : ChoiceValue) → chosen c ≡ true → (o : ℕ) × (set o ≡ true) × (o ≤ laying_count p) × (choice_at p o ≡ c)

pub lays_what : (p : PuzzleValue) (set : ℕ → Bool) (chosen : ChoiceValue → Bool) → SetStandsFor p set chosen → LaysWhat p set chosen
lays_what p set chosen s = record { within = s.within; forth = s.forth; back = s.back }

module _ (p : PuzzleValue) (z : IsPuzzle p) where
  distinct_equal : IsDistinct (all_of (equal_names p))
  distinct_equal = distinct_names (all_of (equal_names p)) (equal_new p z)

  pub same_group : (g k : List ℕ) (n : ℕ) → IsIn g (equal_names p) → IsIn k (equal_names p) → IsIn n g → IsIn n k → g ≡ k
  same_group g k n i j a b = sym (group_is (equal_names p) g n distinct_equal i a) ∙ group_is (equal_names p) k n distinct_equal j b

  pub leaving_of : (o : ℕ) → laying_count p < o → o ≤ option_count p → IsLeaving p (leaving_at p o)
  leaving_of o past within = leaving_is p (leaving_at p o) (leaving_at_in p o past within)

  -- two ways to leave out a piece part the same group
  pub same_whole : (a b : List ℕ × List ℕ) → IsLeaving p a → IsLeaving p b → (n : ℕ) → IsIn n (a.0 ++ a.1) → IsIn n (b.0 ++ b.1) → a.0 ++ a.1 ≡ b.0 ++ b.1
  same_whole a b l m n i j =
      sym l.parted.whole
      ∙ same_group l.group m.group n l.there m.there (subst (λ (ns : List ℕ). IsIn n ns) (sym l.parted.whole) i) (subst (λ (ns : List ℕ). IsIn n ns) (sym m.parted.whole) j)
      ∙ m.parted.whole

  pub distinct_parts : (a : List ℕ × List ℕ) → IsLeaving p a → IsDistinct (a.0 ++ a.1)
  distinct_parts a l = subst IsDistinct l.parted.whole (distinct_group (equal_names p) l.group distinct_equal l.there)

  -- what is left out of two options with a copy in common is the same, where the same pieces are used
  pub one_leaving : (chosen : ChoiceValue → Bool) (o q n : ℕ) → laying_count p < o → o ≤ option_count p → laying_count p < q → q ≤ option_count p → LeavesOut chosen (leaving_at p o) → LeavesOut chosen (leaving_at p q)
      → IsIn n ((leaving_at p o).1) → IsIn n ((leaving_at p q).1) → o ≡ q
  one_leaving chosen o q n past within later inside x y i j =
      let a = leaving_at p o in
      let b = leaving_at p q in
      let whole = same_whole a b (leaving_of o past within) (leaving_of q later inside) n (in_append_right n (a.0) (a.1) i) (in_append_right n (b.0) (b.1) j) in
      let same = one_split (IsUsed chosen) (a.0) (a.1) (b.0) (b.1) whole x.used x.left y.used y.left in
      same_leaving p z o q past within later inside (ap₂ (λ (xs ys : List ℕ). (xs, ys)) same.0 same.1)
