-- The tallies of cells: counts of places in the region.
use Rattle.std.proofs.Common.{◌≡◌, ℕ, zero, suc, ◌+◌, ◌<◌, ◌≤◌, ◌==◌, Bool, true, false, not, ◌&&◌, ◌||◌, cond, List, [], ◌∷◌, ◌++◌, map, filter, length, get_or, take, refl, sym, ap, ap₂, subst, ◌∙◌, arith, inl, inr, eq-eqb, eqb-true, Less}
use Rattle.std.specs.Prelude.{nat_lt}
use Rattle.std.specs.List.{list_all}
use Rattle.std.specs.List.Sorted.{IsStrictlySortedBy}
use Rattle.std.proofs.lemmas.Bool.{and_parts, false_from_ne_true, lt-ltb}
use Rattle.poly_cells.specs.Coordinates.{Coordinates, coordinates_cmp}
use Rattle.poly_cells.specs.CellTests.{is_same, has_cell}
use Rattle.poly_cells.specs.Sets.{IsIn}
use Rattle.poly_cells.proofs.CellTestLemmas.{in_from_has, has_from_in}
use Rattle.poly_cells.proofs.CoordinateLemmas.{is_same_Decides, coordinates_total, coordinates_exact}
use Rattle.poly_cells.proofs.MemberLemmas.{all_pass, in_filter, in_from_filter, some_passes}
use Rattle.poly_cells.proofs.SetLemmas.{cases_order, in_at, in_from_map, not_itself, rising_cons, rising_head, rising_tail, turned_back}
use Rattle.shared_words.specs.Lists.{has, are_distinct}
use Rattle.poly_texts.specs.Puzzle.{IsPuzzle}
use Rattle.poly_place.specs.Forms.{AreBelow}
use Rattle.poly_place.specs.Packings.{ChoiceValue, a_cell, every_choice, must_fill, place_of}
use Rattle.poly_place.proofs.PlaceLemmas.{place_rises, place_within}
use Rattle.poly_place.proofs.PlacedLemmas.{has_shapes, placed_in}
use Rattle.poly_distinct.specs.declared.anchor.Anchor.{Anchor}
use Rattle.poly_distinct.specs.declared.anchor.Anchor.TheVariants.{Cell}
use Rattle.poly_distinct.specs.Counts.{AreCounts, cell_tally, first_places, is_first_at, places_in}
use Rattle.poly_distinct.specs.Distinct.{is_at}
use Rattle.poly_distinct.specs.Moves.{MovesValue, kept_at}
use Rattle.poly_distinct.specs.Rule.{TallyValue, is_kept_at, leaves_out}
use Rattle.poly_place.specs.Compiled.{filled_cells}
use Rattle.std.proofs.lemmas.List.{take_all}
use Rattle.poly_distinct.proofs.LeftInLemmas.{choice_inside}
use Rattle.poly_distinct.proofs.MovesLemmas.{same_filter_in}
use Rattle.poly_distinct.proofs.StepLemmas.{must_is}

-- ---- tests that agree

-- two tests of which each passes if the other does
same_truth : (a b : Bool) → (a ≡ true → b ≡ true) → (b ≡ true → a ≡ true) → a ≡ b
same_truth true b f g = sym (f refl)
same_truth false true f g = g refl
same_truth false false f g = refl

pub and_turned : (a b : Bool) → (a && b) ≡ (b && a)
and_turned true true = refl
and_turned true false = refl
and_turned false true = refl
and_turned false false = refl

made : {X Y : Type 0} (f : X → Y) (test : Y → Bool) (x : X) (a b : Bool) (ys zs : List X) → test (f x) ≡ b → filter test (map f ys) ≡ map f zs
    → filter test (map f (cond a (x ∷ ys) ys)) ≡ map f (cond (a && b) (x ∷ zs) zs)
made {X} {Y} f test x true true ys zs t h = ap₂ (λ c (ws : List Y). cond c (f x ∷ ws) ws) t h
made f test x true false ys zs t h = ap (λ c. cond c (f x ∷ filter test (map f ys)) (filter test (map f ys))) t ∙ h
made f test x false b ys zs t h = h

-- what passes a test by what it is made into, and another one
pub filter_made : {X Y : Type 0} (f : X → Y) (test : Y → Bool) (other : X → Bool) (xs : List X) → filter test (map f (filter other xs)) ≡ map f (filter (λ x. other x && test (f x)) xs)
filter_made f test other [] = refl
filter_made f test other (x ∷ xs) = made f test x (other x) (test (f x)) (filter other xs) (filter (λ y. other y && test (f y)) xs) refl (filter_made f test other xs)

-- ---- places in the region

place_here : (c v : Coordinates) (cs : List Coordinates) → c ≡ v → place_of (c ∷ cs) v ≡ 0
place_here c v cs e = ap (λ b. cond b 0 (1 + place_of cs v)) ((is_same_Decides c v).1 e)

place_later : (c v : Coordinates) (cs : List Coordinates) → (c ≡ v → ⊥) → place_of (c ∷ cs) v ≡ 1 + place_of cs v
place_later c v cs n = ap (λ b. cond b 0 (1 + place_of cs v)) (false_from_ne_true (is_same c v) (λ t. n ((is_same_Decides c v).0 t)))

-- the cell at a place has that place
pub place_at : (cs : List Coordinates) → IsStrictlySortedBy coordinates_cmp cs → (k : ℕ) (d : Coordinates) → k < length cs → place_of cs (get_or cs k d) ≡ k
place_at [] h k d lt = absurd (omega arith)
place_at (c ∷ cs) h zero d lt = place_here c c cs refl
place_at (c ∷ cs) h (suc k) d lt =
    let inside : k < length cs = omega arith in
    let i = in_at cs k d inside in
    let less = rising_head coordinates_cmp c cs h (get_or cs k d) i in
    let rest = place_at cs (rising_tail coordinates_cmp c cs h) k d inside in
    let one = place_later c (get_or cs k d) cs (λ e. not_itself coordinates_total c (subst (λ (w : Coordinates). coordinates_cmp c w ≡ Less) (sym e) less)) in
    omega (arith, rest, one)

-- cells with one place are one cell
place_apart : (cs : List Coordinates) → IsStrictlySortedBy coordinates_cmp cs → (v w : Coordinates) → IsIn v cs → IsIn w cs → place_of cs v ≡ place_of cs w → v ≡ w
place_apart cs h v w i j e =
    elim (cases_order (coordinates_cmp v w)) [
      | inl less ↦ let rise = place_rises cs v w h i j less in absurd (omega (arith, e, rise))
      | inr r ↦ elim r [
        | inl same ↦ coordinates_exact v w same
        | inr more ↦ let rise = place_rises cs w v h j i (turned_back coordinates_total v w more) in absurd (omega (arith, e, rise))
      ]
    ]

module _ (region : List Coordinates) (rises : IsStrictlySortedBy coordinates_cmp region) where
  -- a place is one of those of some cells if the cell at it is one of the cells
  pub has_place : (k : ℕ) (d : Coordinates) → k < length region → (cells : List Coordinates) → ((v : Coordinates) → IsIn v cells → IsIn v region) → has (map (place_of region) cells) k ≡ has_cell cells (get_or region k d)
  has_place k d lt [] inside = refl
  has_place k d lt (w ∷ ws) inside =
      ap₂ (λ a b. a || b)
      (same_truth (place_of region w == k) (is_same (get_or region k d) w)
      (λ t. (is_same_Decides (get_or region k d) w).1 (place_apart region rises (get_or region k d) w (in_at region k d lt) (inside w (inl refl)) (place_at region rises k d lt ∙ sym (eqb-true (place_of region w) k t))))
      (λ t. eq-eqb (place_of region w) k (ap (place_of region) (sym ((is_same_Decides (get_or region k d) w).0 t)) ∙ place_at region rises k d lt)))
      (has_place k d lt ws (λ v i. inside v (inr i)))

  -- places of rising cells differ
  pub places_differ : (cells : List Coordinates) → IsStrictlySortedBy coordinates_cmp cells → ((v : Coordinates) → IsIn v cells → IsIn v region) → are_distinct (map (place_of region) cells) ≡ true
  places_differ [] h inside = refl
  places_differ (v ∷ vs) h inside =
      ap₂ (λ a b. not a && b)
      (false_from_ne_true (has (map (place_of region) vs) (place_of region v)) (λ t.
      let there = some_passes (λ y. y == place_of region v) (map (place_of region) vs) t in
      let from = in_from_map (place_of region) there.0 vs there.1 in
      let less = place_rises region v from.0 rises (inside v (inl refl)) (inside from.0 (inr from.1)) (rising_head coordinates_cmp v vs h from.0 from.1) in
      let same = eqb-true there.0 (place_of region v) there.2 in
      let is = from.2 in
      omega (arith, less, same, is)))
      (places_differ vs (rising_tail coordinates_cmp v vs h) (λ w i. inside w (inr i)))

  pub places_low : (cells : List Coordinates) (n : ℕ) → n ≡ length region → ((v : Coordinates) → IsIn v cells → IsIn v region) → list_all (λ k. nat_lt k n) (map (place_of region) cells) ≡ true
  places_low cells n e inside =
      all_pass (λ k. nat_lt k n) (map (place_of region) cells) (λ k i.
      let from = in_from_map (place_of region) k cells i in
      let low = place_within region from.0 rises (inside from.0 from.1) in
      let is = from.2 in
      lt-ltb k n (omega (arith, low, is, e)))

risen : (test : Coordinates → Bool) (v : Coordinates) (vs : List Coordinates) (b : Bool) → IsStrictlySortedBy coordinates_cmp (v ∷ vs) → IsStrictlySortedBy coordinates_cmp (filter test vs)
    → IsStrictlySortedBy coordinates_cmp (cond b (v ∷ filter test vs) (filter test vs))
risen test v vs true h rest =
    rising_cons coordinates_cmp v (filter test vs) (λ w i. rising_head coordinates_cmp v vs h w (in_from_filter test w vs i).0) rest
risen test v vs false h rest = rest

-- rising cells without some rise
some_rise : (test : Coordinates → Bool) (cells : List Coordinates) → IsStrictlySortedBy coordinates_cmp cells → IsStrictlySortedBy coordinates_cmp (filter test cells)
some_rise test [] h = h
some_rise test (v ∷ vs) h = risen test v vs (test v) h (some_rise test vs (rising_tail coordinates_cmp v vs h))

-- some of the cells have a cell if they all have it and it passes the test
pub has_some : (test : Coordinates → Bool) (cells : List Coordinates) (v : Coordinates) → has_cell (filter test cells) v ≡ (has_cell cells v && test v)
has_some test cells v =
    same_truth (has_cell (filter test cells) v) (has_cell cells v && test v)
    (λ t.
    let there = in_from_filter test v cells (in_from_has (filter test cells) v t) in
    ap₂ (λ a b. a && b) (has_from_in cells v there.0) there.1)
    (λ t.
    let both = and_parts (has_cell cells v) (test v) t in
    has_from_in (filter test cells) v (in_filter test v cells (in_from_has cells v both.0) both.1))

-- ---- the cells of a choice

module _ (m : MovesValue) (z : IsPuzzle m.puzzle) (c : ChoiceValue) (i : IsIn c (every_choice m.puzzle)) where
  cells_rise : IsStrictlySortedBy coordinates_cmp c.cells
  cells_rise = (placed_in m.puzzle (has_shapes m.puzzle z) c i).rises

  inside : (v : Coordinates) → IsIn v c.cells → IsIn v m.puzzle.region
  inside = choice_inside m.puzzle z c i

  some_inside : (v : Coordinates) → IsIn v (filter (is_first_at m c.cells) c.cells) → IsIn v m.puzzle.region
  some_inside v j = inside v (in_from_filter (is_first_at m c.cells) v c.cells j).0

  pub places_distinct : (places : List ℕ) → places ≡ places_in m.puzzle c → are_distinct places ≡ true
  places_distinct places e = ap are_distinct e ∙ places_differ m.puzzle.region z.rises c.cells cells_rise inside

  pub firsts_distinct : (places : List ℕ) → places ≡ first_places m c → are_distinct places ≡ true
  firsts_distinct places e =
      ap are_distinct e ∙ places_differ m.puzzle.region z.rises (filter (is_first_at m c.cells) c.cells) (some_rise (is_first_at m c.cells) c.cells cells_rise) some_inside

  pub places_within : (places : List ℕ) (n : ℕ) → places ≡ places_in m.puzzle c → n ≡ length m.puzzle.region → list_all (λ k. nat_lt k n) places ≡ true
  places_within places n e long = ap (list_all (λ k. nat_lt k n)) e ∙ places_low m.puzzle.region z.rises c.cells n long inside

  pub places_below : (places : List ℕ) → places ≡ places_in m.puzzle c → AreBelow (length m.puzzle.region) places
  places_below places e k i =
      let from = in_from_map (place_of m.puzzle.region) k c.cells (subst (IsIn k) e i) in
      let low = place_within m.puzzle.region from.0 z.rises (inside from.0 from.1) in
      let is = from.2 in
      omega (arith, low, is)

  pub firsts_within : (places : List ℕ) (n : ℕ) → places ≡ first_places m c → n ≡ length m.puzzle.region → list_all (λ k. nat_lt k n) places ≡ true
  firsts_within places n e long =
      ap (list_all (λ k. nat_lt k n)) e ∙ places_low m.puzzle.region z.rises (filter (is_first_at m c.cells) c.cells) n long some_inside

  -- the choice has a place if it is at the cell there, and has it among the kept ones if it is kept there
  at_place : (k : ℕ) (d : Coordinates) → k < length m.puzzle.region → has (places_in m.puzzle c) k ≡ is_at (a_cell (get_or m.puzzle.region k d)) c
  at_place k d lt = has_place m.puzzle.region z.rises k d lt c.cells inside

  kept_place : (k : ℕ) (d : Coordinates) → k < length m.puzzle.region
      → has (first_places m c) k ≡ is_kept_at m.puzzle (kept_at m.puzzle m.group (a_cell (get_or m.puzzle.region k d))) (a_cell (get_or m.puzzle.region k d)) c
  kept_place k d lt =
      has_place m.puzzle.region z.rises k d lt (filter (is_first_at m c.cells) c.cells) some_inside
      ∙ has_some (is_first_at m c.cells) c.cells (get_or m.puzzle.region k d)

abbrev tally_with : Anchor → ℕ → ℕ → TallyValue
tally_with a options kept = record { anchor = a; options = options; kept = kept }

same_tally : (a b : Anchor) (i j k l : ℕ) → a ≡ b → i ≡ j → k ≡ l → tally_with a i k ≡ tally_with b j l
same_tally a b i j k l e f g =
    ap (λ (n : Anchor). tally_with n i k) e ∙ ap₂ (λ x y. tally_with b x y) f g

-- the tally of the cell at a place
pub tally_at : (m : MovesValue) → IsPuzzle m.puzzle → (options kept : List ℕ) (k : ℕ) (v : Coordinates) → k < length m.puzzle.region → v ≡ get_or m.puzzle.region k v
    → AreCounts (length m.puzzle.region) (places_in m.puzzle) (every_choice m.puzzle) options → AreCounts (length m.puzzle.region) (first_places m) (every_choice m.puzzle) kept
    → cell_tally m v ≡ record { anchor = Cell v; options = get_or options k 0; kept = get_or kept k 0 }
tally_at m z options kept k v lt is o f =
    let p = m.puzzle in
    let w = get_or p.region k v in
    let ns = kept_at p m.group (a_cell w) in
    ap (cell_tally m) is
    ∙ same_tally (Cell w) (Cell v) _ _ _ _ (ap Cell (sym is))
    (sym (o.each k lt ∙ ap length (same_filter_in (λ c. has (places_in p c) k) (is_at (a_cell w)) (every_choice p) (λ c i. at_place m z c i k v lt))))
    (sym (f.each k lt ∙ ap length (same_filter_in (λ c. has (first_places m c) k) (is_kept_at p ns (a_cell w)) (every_choice p) (λ c i. kept_place m z c i k v lt))))

-- ---- those at which something is left out

-- whether a cell has to be filled and something is left out there
abbrev pub is_told : MovesValue → Coordinates → Bool
is_told m v = must_fill m.puzzle v && leaves_out (cell_tally m v)

pub told_by : (m : MovesValue) (v : Coordinates) (t : TallyValue) (b : Bool) (cells maybe : List Coordinates) (k : ℕ) → cell_tally m v ≡ t → b ≡ (leaves_out t && not (has_cell maybe v))
    → maybe ≡ m.puzzle.maybe_cells → cells ≡ m.puzzle.region → k < length cells → v ≡ get_or cells k v → is_told m v ≡ b
told_by m v t b cells maybe k e h f r lt is =
    ap₂ (λ x y. x && y) (must_is m.puzzle cells k v (has_cell maybe v) r lt is (ap (λ (vs : List Coordinates). has_cell vs v) f)) (ap leaves_out e)
    ∙ and_turned (not (has_cell maybe v)) (leaves_out t) ∙ sym h

pub all_told : (m : MovesValue) (start new : List TallyValue) (cells : List Coordinates) (k : ℕ) → cells ≡ m.puzzle.region → length cells ≤ k → new ≡ start ++ map (cell_tally m) (filter (is_told m) (take k cells))
    → new ≡ start ++ filter leaves_out (map (cell_tally m) (filled_cells m.puzzle))
all_told m start new cells k r le so =
    so ∙ ap (λ (vs : List Coordinates). start ++ map (cell_tally m) (filter (is_told m) vs)) (take_all k cells le ∙ r)
    ∙ ap (λ (ts : List TallyValue). start ++ ts) (sym (filter_made (cell_tally m) leaves_out (must_fill m.puzzle) m.puzzle.region))
