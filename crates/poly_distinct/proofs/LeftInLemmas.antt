-- Loops that tell which choices are left in.
use Rattle.std.proofs.Common.{◌≡◌, ℕ, suc, ◌+◌, ◌-◌, ◌<◌, ◌≤◌, Bool, true, false, cond, List, [], ◌∷◌, ◌++◌, filter, length, get_or, sym, ap, ap₂, ◌∙◌, arith, append-nil}
use Rattle.std.proofs.lemmas.List.{get_or_default}
use Rattle.std.proofs.lemmas.List.Elements.{filter-append}
use Rattle.shared_words.specs.Lists.{numbers}
use Rattle.cover_problem.specs.Problem.{ProblemValue, IsProblem}
use Rattle.cover_problem.proofs.HolderLemmas.{few_options}
use Rattle.cover_problem.proofs.NumberLemmas.{numbers_push}
use Rattle.poly_cells.specs.Coordinates.{Coordinates}
use Rattle.poly_cells.specs.Sets.{IsIn}
use Rattle.poly_cells.proofs.CellTestLemmas.{in_from_has}
use Rattle.poly_texts.specs.Puzzle.{PuzzleValue, IsPuzzle}
use Rattle.poly_place.specs.Packings.{ChoiceValue, choice_with, every_choice, leavings, packing_problem, Thing, a_piece, a_cell, a_node}
use Rattle.poly_place.proofs.PlacedLemmas.{has_shapes, placed_in}
use Rattle.poly_place.specs.Chosen.{choice_numbered}
use Rattle.poly_place.proofs.StandLemmas.{options_long}
use Rattle.poly_distinct.specs.Moves.{LiesInside}
use Rattle.poly_distinct.specs.Distinct.{is_at, laying_left, numbers_left}

-- one number more
more_numbers : (test : ℕ → Bool) (k : ℕ) → filter test (numbers (k + 1) 1) ≡ filter test (numbers k 1) ++ cond (test (k + 1)) ((k + 1) ∷ []) []
more_numbers test k =
    ap (λ (n : ℕ). filter test (numbers n 1)) (let e : k + 1 ≡ suc k = omega arith in e)
    ∙ ap (filter test) (numbers_push k 1)
    ∙ filter-append test (numbers k 1) ((1 + k) ∷ [])
    ∙ ap (λ (n : ℕ). filter test (numbers k 1) ++ cond (test n) (n ∷ []) []) (let e : 1 + k ≡ k + 1 = omega arith in e)

module _ (test : ChoiceValue → Bool) (cs : List ChoiceValue) (k : ℕ) (old : List ℕ) (so_far : old ≡ filter (λ o. test (choice_numbered cs o)) (numbers k 1))
    (more : k < length cs) (c : ChoiceValue) (at : c ≡ get_or cs k c) (b : Bool) (tested : b ≡ test c) where
  choice_is : choice_numbered cs (k + 1) ≡ c
  choice_is = ap (λ (n : ℕ). get_or cs n (choice_with 0 [])) (let e : k + 1 - 1 ≡ k = omega arith in e) ∙ get_or_default cs k (choice_with 0 []) c more ∙ sym at

  test_is : test (choice_numbered cs (k + 1)) ≡ b
  test_is = ap test choice_is ∙ sym tested

  pub left_more : (new : List ℕ) → b ≡ true → new ≡ old ++ (k + 1) ∷ [] → new ≡ filter (λ o. test (choice_numbered cs o)) (numbers (k + 1) 1)
  left_more new t push =
      push ∙ ap (λ (ns : List ℕ). ns ++ (k + 1) ∷ []) so_far
      ∙ sym (more_numbers (λ o. test (choice_numbered cs o)) k
      ∙ ap (λ (q : Bool). filter (λ o. test (choice_numbered cs o)) (numbers k 1) ++ cond q ((k + 1) ∷ []) []) (test_is ∙ t))

  pub left_same : b ≡ false → old ≡ filter (λ o. test (choice_numbered cs o)) (numbers (k + 1) 1)
  left_same t =
      so_far
      ∙ sym (more_numbers (λ o. test (choice_numbered cs o)) k
      ∙ ap (λ (q : Bool). filter (λ o. test (choice_numbered cs o)) (numbers k 1) ++ cond q ((k + 1) ∷ []) []) (test_is ∙ t)
      ∙ append-nil (filter (λ o. test (choice_numbered cs o)) (numbers k 1)))

-- ---- how many

-- the choices are as many as options, and fewer than the limit
pub few_choices : (p : PuzzleValue) (q : ProblemValue) (cs : List ChoiceValue) → q ≡ packing_problem p → IsProblem q → cs ≡ every_choice p → (length cs ≤ length q.options) × (length q.options ≤ 262143)
few_choices p q cs e sound c =
    let few = few_options q sound in
    let long = ap (λ (r : ProblemValue). length r.options) e ∙ options_long p in
    let same = ap (λ (ds : List ChoiceValue). length ds) c in
    (omega (arith, long, same), few)

pub numbers_more : (low k : ℕ) → low ≤ k → numbers (k + 1 - low) (low + 1) ≡ numbers (k - low) (low + 1) ++ (k + 1) ∷ []
numbers_more low k h =
    ap (λ (n : ℕ). numbers n (low + 1)) (let e : k + 1 - low ≡ suc (k - low) = omega (arith, h) in e)
    ∙ numbers_push (k - low) (low + 1)
    ∙ ap (λ (n : ℕ). numbers (k - low) (low + 1) ++ n ∷ []) (let e : low + 1 + (k - low) ≡ k + 1 = omega (arith, h) in e)

-- all numbers
pub all_left : (p : PuzzleValue) (t : Thing) (ns : List ℕ) (q : ProblemValue) (cs : List ChoiceValue) (laying left : List ℕ)
    → q ≡ packing_problem p → cs ≡ every_choice p → laying ≡ laying_left p t ns cs → left ≡ laying ++ numbers (length q.options - length cs) (length cs + 1)
    → left ≡ numbers_left p t ns
all_left p t ns q cs laying left e c is whole =
    let long = ap (λ (w : ProblemValue). length w.options) e ∙ options_long p in
    let same = ap (λ (ds : List ChoiceValue). length ds) c in
    whole
    ∙ ap₂ (λ (xs ys : List ℕ). xs ++ ys) (is ∙ ap (laying_left p t ns) c)
    (ap₂ (λ (n k : ℕ). numbers n k) (let h : length q.options - length cs ≡ length (leavings p) = omega (arith, long, same) in h) (ap (λ (n : ℕ). n + 1) same))

-- ---- the cells of choices are the region's

pub choice_inside : (p : PuzzleValue) → IsPuzzle p → (c : ChoiceValue) → IsIn c (every_choice p) → (v : Coordinates) → IsIn v c.cells → IsIn v p.region
choice_inside p z c i = (placed_in p (has_shapes p z) c i).placed.inside

-- and so is the cell at which one is
pub lies_inside : (p : PuzzleValue) → IsPuzzle p → (t : Thing) (c : ChoiceValue) → IsIn c (every_choice p) → is_at t c ≡ true → LiesInside p t
lies_inside p z (a_piece name) c i h = tt
lies_inside p z (a_cell v) c i h = choice_inside p z c i v (in_from_has c.cells v h)
lies_inside p z (a_node name k) c i h = tt
