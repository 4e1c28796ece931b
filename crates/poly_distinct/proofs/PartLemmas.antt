-- The part at the anchor: what is so of it is so of the search up to symmetry.
use Rattle.std.proofs.Common.{◌≡◌, ℕ, ◌+◌, ◌-◌, ◌<◌, ◌≤◌, zero, suc, not, Option, Result, Ok, Err, IfOk, None, Some, List, [], ◌∷◌, ◌++◌, map, filter, cond, Bool, true, false, take, length, get_or, inl, inr, refl, sym, ap, ap₂, subst, ◌∙◌, arith}
use Rattle.std.specs.Prelude.{option_map}
use Rattle.std.proofs.lemmas.List.{length-map, map-append, get_or-map, get_or_default}
use Rattle.std.proofs.lemmas.List.Elements.{filter-append}
use Rattle.std.proofs.lemmas.Bool.{and_parts}
use Rattle.std.proofs.lemmas.List.Sums.{sum_by-cons}
use Rattle.shared_words.specs.Answers.{Returns}
use Rattle.poly_cells.specs.Coordinates.{Coordinates}
use Rattle.poly_cells.specs.CellTests.{has_cell}
use Rattle.poly_cells.specs.Sets.{IsIn}
use Rattle.poly_cells.proofs.SetLemmas.{take_next}
use Rattle.poly_cells.proofs.CellTestLemmas.{in_from_has}
use Rattle.poly_distinct.specs.Moves.{LiesInside, MovesValue, kept_at}
use Rattle.poly_distinct.proofs.CountedLemmas.{cells_inside}
use Rattle.shared_words.specs.Lists.{has}
use Rattle.cover_problem.specs.Problem.{ProblemValue, option_at}
use Rattle.cover_problem.specs.ExactCover.{IsExactCover}
use Rattle.poly_texts.specs.Puzzle.{PuzzleValue, IsPuzzle}
use Rattle.poly_place.specs.declared.alike.Group.{Group}
use Rattle.poly_place.specs.declared.alike.Group.TheVariants.{Rotations}
use Rattle.poly_place.specs.Packings.{ChoiceValue, Thing, a_piece, a_cell, a_node, packing_problem}
use Rattle.poly_place.specs.Chosen.{PackingValue, packing_value, chosen_by}
use Rattle.poly_place.specs.Listing.{AreExactCovers}
use Rattle.poly_distinct.specs.Rule.{anchor_of, group_at, may_reflect, is_kept_at, symmetries_at}
use Rattle.poly_distinct.specs.Fewer.{AreNumbersTo, with_options}
use Rattle.poly_distinct.specs.Distinct.{IsAnchor, IsPartOf, IsPath, cells_at, images_counted, images_by, distinct_paths, whole_path, numbers_left}
use Rattle.poly_distinct.specs.UpTo.{PartValue, IsPart, moves_of, symmetries_in, first_cells, stands_for_in, counted_in, counts_by, each_in, part_with, part_of, part_problem, part_numbers, whole_paths_of, smaller_at, smaller, whole_paths_at, whole_paths, new_paths, stood_for_at, stood_for, each_stands_at, each_stands}
use Rattle.poly_distinct.proofs.RestrictLemmas.{in_has}
use Rattle.poly_distinct.proofs.NewLemmas.{distinct_part}
use Rattle.poly_distinct.proofs.SmallerLemmas.{smaller_is, whole_is_path}

-- ---- lists of paths

member_at : (xs : List ℕ) (k : ℕ) → k < length xs → IsIn (get_or xs k 0) xs
member_at [] k h = absurd (omega (arith, h))
member_at (x ∷ xs) zero h = inl refl
member_at (x ∷ xs) (suc k) h = inr (member_at xs k (omega (arith, h)))

path_at : (paths : List (List ℕ)) (k : ℕ) → k < length paths → IsIn (get_or paths k []) paths
path_at [] k h = absurd (omega (arith, h))
path_at (x ∷ xs) zero h = inl refl
path_at (x ∷ xs) (suc k) h = inr (path_at xs k (omega (arith, h)))

-- exact covers, one by one
abbrev Covers : ProblemValue → List (List ℕ) → Type 0
Covers q paths = (path : List ℕ) → IsIn path paths → IsExactCover q (has path)

covers_at : (q : ProblemValue) (paths : List (List ℕ)) → AreExactCovers q paths → Covers q paths
covers_at q [] all path i = absurd i
covers_at q (x ∷ xs) all path i =
    elim i [
      | inl e ↦ subst (λ (r : List ℕ). IsExactCover q (has r)) (sym e) (all 0 (omega arith))
      | inr j ↦ covers_at q xs (λ k lt. all (suc k) (omega (arith, lt))) path j
    ]

covers_from : (q : ProblemValue) (paths : List (List ℕ)) → Covers q paths → AreExactCovers q paths
covers_from q paths all k lt = all (get_or paths k []) (path_at paths k lt)

in_part : {X : Type 0} (x : X) (xs ys : List X) → IsPartOf xs ys → IsIn x xs → IsIn x ys
in_part x [] ys part i = absurd i
in_part x (z ∷ zs) [] part i = absurd part
in_part {X} x (z ∷ zs) (y ∷ ys) part i =
    elim part [
      | inl here ↦ elim i [ inl e ↦ inl (e ∙ here.0) | inr j ↦ inr (in_part x zs ys here.1 j) ]
      | inr later ↦ inr (in_part x (z ∷ zs) ys later i)
    ]

module _ (p : PuzzleValue) (group : Group) where
  -- those that are like none before them are exact covers where all are
  pub distinct_covers : (paths : List (List ℕ)) → AreExactCovers (packing_problem p) paths → AreExactCovers (packing_problem p) (distinct_paths p group paths)
  distinct_covers paths all =
      covers_from (packing_problem p) (distinct_paths p group paths)
      (λ path i. covers_at (packing_problem p) paths all path (in_part path (distinct_paths p group paths) paths (distinct_part p group paths) i))

  none_at : (a : Option Thing) → None ≡ option_map (part_with p group) a → a ≡ None
  none_at None e = refl
  none_at (Some t) e = absurd (cc)

  some_at : (a : Option Thing) (q : PartValue) → Some q ≡ option_map (part_with p group) a → (t : Thing) × (a ≡ Some t) × (q ≡ part_with p group t)
  some_at None q e = absurd (cc)
  some_at (Some t) q e = let s : q ≡ part_with p group t = cc in (t, refl, s)

  -- ---- without an anchor

  module _ (part : Option PartValue) (is : part ≡ part_of p group) (none : part ≡ None) where
    pub no_anchor : anchor_of p group ≡ None
    no_anchor = none_at (anchor_of p group) (sym none ∙ is)

    pub problem_whole : packing_problem p ≡ smaller p group
    unfolding smaller
    problem_whole = sym (ap (smaller_at p group) no_anchor)

    pub paths_whole : (paths : List (List ℕ)) → paths ≡ whole_paths p group paths
    unfolding whole_paths
    paths_whole paths = sym (ap (λ (a : Option Thing). whole_paths_at p group a paths) no_anchor)

    pub stood_whole : (paths : List (List ℕ)) → length paths ≡ stood_for p group paths
    unfolding stood_for
    stood_whole paths = sym (ap (λ (a : Option Thing). stood_for_at p group a paths) no_anchor)

    pub each_whole : Some 1 ≡ each_stands p group
    unfolding each_stands
    each_whole = sym (ap (each_stands_at p group) no_anchor)

  -- ---- at an anchor

  module _ (part : Option PartValue) (q : PartValue) (is : part ≡ part_of p group) (some : part ≡ Some q) where
    anchored : (t : Thing) × (anchor_of p group ≡ Some t) × (q ≡ part_with p group t)
    anchored = some_at (anchor_of p group) q (sym some ∙ is)

    pub part_is_of : q.puzzle ≡ p
    part_is_of = let t = anchored in ap (λ (r : PartValue). r.puzzle) t.2

    pub problem_part : part_problem q ≡ smaller p group
    unfolding smaller
    problem_part = let t = anchored in ap part_problem t.2 ∙ sym (ap (smaller_at p group) t.1)

    pub stood_part : (paths : List (List ℕ)) → counted_in q paths ≡ stood_for p group paths
    unfolding stood_for
    stood_part paths = let t = anchored in ap (λ (r : PartValue). counted_in r paths) t.2 ∙ sym (ap (λ (a : Option Thing). stood_for_at p group a paths) t.1)

    pub each_part : each_in q ≡ each_stands p group
    unfolding each_stands
    each_part = let t = anchored in ap each_in t.2 ∙ sym (ap (each_stands_at p group) t.1)

    pub paths_part : (paths : List (List ℕ)) → whole_paths_of q paths ≡ whole_paths p group paths
    unfolding whole_paths
    paths_part paths = let t = anchored in ap (λ (r : PartValue). whole_paths_of r paths) t.2 ∙ sym (ap (λ (a : Option Thing). whole_paths_at p group a paths) t.1)

-- ---- in a part

module _ (a : PartValue) (z : IsPuzzle a.puzzle) where
  -- each number of an exact cover is that of an option that stays
  pub path_within : (path : List ℕ) → IsExactCover (part_problem a) (has path) → AreNumbersTo (length (part_numbers a)) path
  path_within path e k lt =
      let ns = symmetries_at a.puzzle a.group a.thing in
      let o = (subst (λ (s : ProblemValue). IsExactCover s (has path)) (smaller_is a.puzzle z a.thing ns) e).options (get_or path k 0) (in_has path (get_or path k 0) (member_at path k lt)) in
      let long = length-map (part_numbers a) (option_at (packing_problem a.puzzle)) in
      let x = o.0 in
      let y = o.1 in
      (x, omega (arith, y, long))

  -- exact covers by the numbers of the puzzle are exact covers of its problem
  pub whole_covers : (paths : List (List ℕ)) → AreExactCovers (part_problem a) paths → AreExactCovers (packing_problem a.puzzle) (whole_paths_of a paths)
  whole_covers paths all k lt =
      let ns = symmetries_at a.puzzle a.group a.thing in
      let long = length-map paths (whole_path a.puzzle a.thing ns) in
      subst (λ (r : List ℕ). IsPath a.puzzle r) (sym (get_or-map (whole_path a.puzzle a.thing ns) paths k [] [] (omega (arith, lt, long))))
      (whole_is_path a.puzzle z a.thing ns (get_or paths k []) (all k (omega (arith, lt, long))))

-- exact covers of the smaller problem are exact covers of the puzzle's, by its numbers
module _ (p : PuzzleValue) (z : IsPuzzle p) (group : Group) where
  whole_covers_at : (a : Option Thing) (paths : List (List ℕ)) → AreExactCovers (smaller_at p group a) paths → AreExactCovers (packing_problem p) (whole_paths_at p group a paths)
  whole_covers_at None paths all = all
  whole_covers_at (Some t) paths all = whole_covers (part_with p group t) z paths all

  pub whole_paths_cover : (paths : List (List ℕ)) → AreExactCovers (smaller p group) paths → AreExactCovers (packing_problem p) (whole_paths p group paths)
  unfolding smaller whole_paths
  whole_paths_cover = whole_covers_at (anchor_of p group)

  -- and those that are like none before them
  pub new_covers : (paths : List (List ℕ)) → AreExactCovers (smaller p group) paths → AreExactCovers (packing_problem p) (new_paths p group paths)
  new_covers paths all = distinct_covers p group (whole_paths p group paths) (whole_paths_cover paths all)

-- what is so of the value that a call returns is so of what it returns
pub ok_is : {X E : Type 0} (P : X → Type 0) (result : Result X E) (value : X) → Returns result value → P value → IfOk result P
ok_is P (Ok x) value e h = subst P (sym e) h
ok_is P (Err e) value f h = tt

-- ---- sums

counted_more : (a : PartValue) (vs : List (List ℕ)) (k : ℕ) → k < length vs → counted_in a (take (suc k) vs) ≡ counted_in a (take k vs) + stands_for_in a (get_or vs k [])
unfolding images_counted
counted_more a [] k h = absurd (omega (arith, h))
counted_more a (v ∷ vs) zero h =
    let s = sum_by-cons (λ (q : List ℕ). length (images_by a.puzzle.region (symmetries_in a) (cells_at a.puzzle a.thing q))) (whole_path a.puzzle a.thing (symmetries_in a) v) [] in
    omega (arith, s)
counted_more a (v ∷ vs) (suc k) h =
    let f = λ (q : List ℕ). length (images_by a.puzzle.region (symmetries_in a) (cells_at a.puzzle a.thing q)) in
    let w = whole_path a.puzzle a.thing (symmetries_in a) in
    let one = sum_by-cons f (w v) (map w (take (suc k) vs)) in
    let two = sum_by-cons f (w v) (map w (take k vs)) in
    let rest = counted_more a vs k (omega (arith, h)) in
    omega (arith, one, two, rest)

-- one path more is counted
pub sum_more : (a : PartValue) (vs : List (List ℕ)) (k old more : ℕ) (path : List ℕ) → k < length vs → path ≡ get_or vs k [] → old ≡ counted_in a (take k vs) → more ≡ stands_for_in a path
    → old + more ≡ counted_in a (take (k + 1) vs)
sum_more a vs k old more path h at e f =
    ap₂ (λ (x y : ℕ). x + y) e (f ∙ ap (stands_for_in a) at) ∙ sym (counted_more a vs k h)
    ∙ ap (λ (n : ℕ). counted_in a (take n vs)) (let n : suc k ≡ k + 1 = omega arith in n)

-- one choice more is looked at
pub counts_more : (a : PartValue) (cs : List ChoiceValue) (i : ℕ) (c : ChoiceValue) (old new : List ℕ) → i < length cs → c ≡ get_or cs i c → old ≡ counts_by a (take i cs) → new ≡ old ++ counts_by a (c ∷ [])
    → new ≡ counts_by a (take (i + 1) cs)
counts_more a cs i c old new lt at so push =
    let f = λ (c : ChoiceValue). length (images_by a.puzzle.region (symmetries_in a) c.cells) in
    let test = is_kept_at a.puzzle (symmetries_in a) a.thing in
    push ∙ ap (λ (ns : List ℕ). ns ++ counts_by a (c ∷ [])) so
    ∙ sym (ap (counts_by a) (take_next cs i c lt at) ∙ ap (map f) (filter-append test (take i cs) (c ∷ [])) ∙ map-append f (filter test (take i cs)) (filter test (c ∷ [])))

-- ---- the cells at the anchor

-- a cell that has to be filled is one of the region
pub anchor_inside : (p : PuzzleValue) (t : Thing) → IsAnchor p t → LiesInside p t
anchor_inside p (a_piece name) a = tt
anchor_inside p (a_cell v) a = in_from_has p.region v (and_parts (has_cell p.region v) (not (has_cell p.maybe_cells v)) a).0
anchor_inside p (a_node name h) a = absurd a

-- the cells of an exact cover at the anchor are in the region
pub cells_in_region : (a : PartValue) → IsPuzzle a.puzzle → IsAnchor a.puzzle a.thing → (path : List ℕ) → IsExactCover (part_problem a) (has path)
    → (v : Coordinates) → IsIn v (cells_at a.puzzle a.thing (whole_path a.puzzle a.thing (symmetries_in a) path)) → IsIn v a.puzzle.region
cells_in_region a z anchor path e = cells_inside a.puzzle z a.thing anchor (whole_path a.puzzle a.thing (symmetries_in a) path) (whole_is_path a.puzzle z a.thing (symmetries_in a) path e)

-- a path of a list is within
pub within_at : (a : PartValue) → IsPuzzle a.puzzle → (numbers ks path : List ℕ) → numbers ≡ part_numbers a → ks ≡ numbers → IsExactCover (part_problem a) (has path) → AreNumbersTo (length ks) path
within_at a z numbers ks path is same e = subst (λ (ms : List ℕ). AreNumbersTo (length ms) path) (sym (same ∙ is)) (path_within a z path e)

pub cover_at : (q : ProblemValue) (visits : List (List ℕ)) (k : ℕ) (path : List ℕ) → AreExactCovers q visits → k < length visits → path ≡ get_or visits k [] → IsExactCover q (has path)
cover_at q visits k path all lt at = subst (λ (r : List ℕ). IsExactCover q (has r)) (sym at) (all k lt)

-- its path by the numbers of the puzzle
pub whole_one : (a : PartValue) (numbers ks path whole shown : List ℕ) → numbers ≡ part_numbers a → ks ≡ numbers → whole ≡ map (λ k. get_or ks (k - 1) 0) path → shown ≡ whole
    → shown ≡ whole_path a.puzzle a.thing (symmetries_in a) path
whole_one a numbers ks path whole shown is same made e = e ∙ made ∙ ap (λ (ms : List ℕ). map (λ k. get_or ms (k - 1) 0) path) (same ∙ is)

-- one path more is renumbered
pub paths_more : (a : PartValue) (numbers ks : List ℕ) → numbers ≡ part_numbers a → ks ≡ numbers → (visits : List (List ℕ)) (k : ℕ) (old new : List (List ℕ)) (path whole shown : List ℕ) → k < length visits
    → path ≡ get_or visits k [] → whole ≡ map (λ k. get_or ks (k - 1) 0) path → shown ≡ whole → old ≡ whole_paths_of a (take k visits) → new ≡ old ++ shown ∷ [] → new ≡ whole_paths_of a (take (k + 1) visits)
paths_more a numbers ks is same visits k old new path whole shown lt at made e so push =
    let w = whole_path a.puzzle a.thing (symmetries_in a) in
    push ∙ ap₂ (λ (xs : List (List ℕ)) (q : List ℕ). xs ++ q ∷ []) so (whole_one a numbers ks path whole shown is same made e)
    ∙ sym (ap (map w) (take_next visits k path lt (at ∙ get_or_default visits k [] path lt)) ∙ map-append w (take k visits) (path ∷ []))

pub whole_covers_one : (a : PartValue) → IsPuzzle a.puzzle → (path shown : List ℕ) → shown ≡ whole_path a.puzzle a.thing (symmetries_in a) path → IsExactCover (part_problem a) (has path)
    → IsExactCover (packing_problem a.puzzle) (has shown)
whole_covers_one a z path shown is e = subst (λ (q : List ℕ). IsPath a.puzzle q) (sym is) (whole_is_path a.puzzle z a.thing (symmetries_in a) path e)

-- the cells that are found in its packing
pub cells_shown : (a : PartValue) (path shown : List ℕ) → shown ≡ whole_path a.puzzle a.thing (symmetries_in a) path → (packing : PackingValue) → packing ≡ packing_value a.puzzle shown
    → (placements : List ChoiceValue) → placements ≡ packing.placements → (cells : List Coordinates) → cells ≡ first_cells a.thing placements
    → cells ≡ cells_at a.puzzle a.thing (whole_path a.puzzle a.thing (symmetries_in a) path)
cells_shown a path shown w packing made placements here cells found =
    found ∙ ap (first_cells a.thing) (here ∙ ap (λ (v : PackingValue). v.placements) made ∙ ap (chosen_by a.puzzle) w)

counted_none : (a : PartValue) → 0 ≡ counted_in a []
unfolding images_counted
counted_none a = refl

pub sum_none : (a : PartValue) → (0 ≡ counted_in a []) × (0 ≤ 0)
sum_none a = (counted_none a, omega arith)

-- ---- the moves of a part

module _ (a : PartValue) (moves : MovesValue) (numbers : List ℕ) (problem : ProblemValue) (i : IsPart a moves numbers problem) where
  pub moves_lie : LiesInside moves.puzzle a.thing
  moves_lie = subst (λ (q : MovesValue). LiesInside q.puzzle a.thing) (sym i.moves_are) (anchor_inside a.puzzle a.thing i.anchor)

  pub moves_keep : (vs : List Coordinates) → ((v : Coordinates) → IsIn v vs → IsIn v a.puzzle.region) → (v : Coordinates) → IsIn v vs → IsIn v moves.puzzle.region
  moves_keep vs h v j = subst (λ (q : MovesValue). IsIn v q.puzzle.region) (sym i.moves_are) (h v j)

  pub stands_is : (cells : List Coordinates) → length (images_by moves.puzzle.region (kept_at moves.puzzle moves.group a.thing) cells) ≡ length (images_by a.puzzle.region (symmetries_in a) cells)
  stands_is cells = ap (λ (m : MovesValue). length (images_by m.puzzle.region (kept_at m.puzzle m.group a.thing) cells)) i.moves_are

-- ---- making a part

module _ (p : PuzzleValue) (group : Group) (t : Thing) (m : MovesValue) (moves_made : m ≡ moves_of p (group_at p group t)) where
  pub part_made : IsPuzzle p → IsAnchor p t → (numbers ks : List ℕ) (whole problem : ProblemValue) → numbers ≡ numbers_left p t (kept_at p m.group t) → ks ≡ numbers → whole ≡ packing_problem p
      → problem ≡ with_options whole ks → IsPart (part_with p group t) m numbers problem
  part_made z anchor numbers ks whole problem is kept e made_of =
      let ns : numbers ≡ part_numbers (part_with p group t) = is ∙ ap (λ (n : MovesValue). numbers_left p t (kept_at p n.group t)) moves_made in
      record {
        sound = z;
        anchor = anchor;
        moves_are = moves_made;
        numbers_are = ns;
        problem_is = made_of ∙ ap₂ (λ (q : ProblemValue) (os : List ℕ). with_options q os) e (kept ∙ ns) ∙ sym (smaller_is p z t (symmetries_at p group t));
      }

pub moves_chosen : (p ex : PuzzleValue) (group : Group) (t : Thing) (m all turns : MovesValue) → ex ≡ p → all ≡ moves_of p group → turns ≡ moves_of p Rotations
    → m ≡ cond (may_reflect ex t) all turns → m ≡ moves_of p (group_at p group t)
moves_chosen p ex group t m all turns e f g is =
    is ∙ ap₂ (λ (a b : MovesValue). cond (may_reflect ex t) a b) f g ∙ either (may_reflect ex t) ∙ ap (λ (q : PuzzleValue). moves_of p (group_at q group t)) e
  where
    either : (b : Bool) → cond b (moves_of p group) (moves_of p Rotations) ≡ moves_of p (cond b group Rotations)
    either true = refl
    either false = refl
