-- Packings of a puzzle and exact covers of its problem are the same, one for one.
use Rattle.std.proofs.Common.{false, not, ◌≡◌, cond, ℕ, ◌<◌, ◌≤◌, List, [], ◌∷◌, ◌++◌, append-nil, length, Bool, true, ◌&&◌, nat_lt, nat_le, inl, inr, refl, sym, ap, subst, ◌∙◌, arith, eqb-true, eq-eqb, ◌==◌, is_eq, ap₂}
use Rattle.std.specs.List.{list_all, list_any, range_with_len}
use Rattle.std.proofs.lemmas.Bool.{cases_Bool, cond-true, cond-false, not-true, not_from_false, both_ways, false_from_ne_true, true_from_ne_false, and_parts, and_from, leb-true, le-leb, ltb-true, lt-ltb}
use Rattle.poly_cells.specs.Coordinates.{Coordinates}
use Rattle.poly_cells.specs.Sets.{IsIn}
use Rattle.poly_cells.proofs.SetLemmas.{in_append_right, in_append_cases, in_map}
use Rattle.poly_texts.specs.Puzzle.{PuzzleValue, IsPuzzle, names_of, has_name, is_needed, is_spare, pieces_of, equal_names, spare_names}
use Rattle.shared_words.specs.Lists.{has}
use Rattle.cover_problem.specs.Problem.{option_at}
use Rattle.cover_problem.specs.ExactCover.{IsExactCover}
use Rattle.poly_place.specs.Placements.{cells_cmp}
use Rattle.poly_place.specs.Packings.{ChoiceValue, choice_with, is_any, neighbours, pairs, first_cell, tree_levels, leaf_of, a_node, IsPlaced, IsPacking, every_choice, leavings, laying_count, option_count, leaving_at, LeavesOut, Thing, a_piece, a_cell, things, needed_things, thing_item, things_of, packing_problem, choice_at, SetStandsFor, ArePackings}
use Rattle.std.proofs.lemmas.Cmp.{tied_itself}
use Rattle.poly_place.proofs.OrderLemmas.{cells_total, cells_exact}
use Rattle.poly_place.specs.Chosen.{same_choice}
use Rattle.poly_cells.proofs.MemberLemmas.{some_passes, passes_some, all_pass, passes, in_to_range, in_from_range, in_flat_map, in_from_flat_map}
use Rattle.poly_texts.proofs.EqualLemmas.{spare_equal}
use Rattle.poly_place.proofs.DistinctLemmas.{in_from_name}
use Rattle.poly_place.proofs.ThingLemmas.{item_same, item_positive, item_needed, needed_piece, needed_cell, needed_cases, needed_at, parts_in, the_piece, the_cell, on_right, on_left, part_of, piece_part, cell_part}
use Rattle.poly_place.specs.Turns.{from_right, from_left}
use Rattle.poly_place.proofs.TurnLemmas.{share_greater}
use Rattle.poly_place.proofs.PairLemmas.{all_of, pair_next, pair_single}
use Rattle.poly_place.proofs.LeavingsLemmas.{split_by, uses, used_from, from_used, leaving_in, first_left, equal_copy, left_copy}
use Rattle.poly_place.proofs.PlaceLemmas.{place_rises}
use Rattle.std.specs.Cmp.{Equal-is, both_ways as same_tests}
use Rattle.poly_place.proofs.PlacedLemmas.{HasShapes, has_shapes, in_placed, layable, in_layable}
use Rattle.poly_place.proofs.FollowLemmas.{packings_have_room}
use Rattle.poly_place.proofs.StandLemmas.{number_of_choice, same_number, holds, held, holds_left, held_left, side, number_of_leaving, primary_is, options_long, count_is, in_piece, in_cell, needed_single, least_inside, leaf_placed, LaysWhat, lays_what, leaving_of, one_leaving}
use Rattle.poly_place.proofs.CoverLemmas.{numbered, placed_by, item_part, cover_leaves, cover_packs}

-- ---- a packing is an exact cover

module _ (p : PuzzleValue) (z : IsPuzzle p) (h : HasShapes p) (set : ℕ → Bool) (chosen : ChoiceValue → Bool) (s : LaysWhat p set chosen) where
  laid_among : (c : ChoiceValue) → chosen c ≡ true → IsIn c (layable p)
  laid_among c k = in_layable p h c (placed_by p z h set chosen s c k)

  -- two nodes are one, so of the same tree
  firsts : (m g a b x y : ℕ) → a_node m g ≡ a_node x a → a_node m g ≡ a_node y b → x ≡ y
  firsts m g a b x y e f = cc

  levels_same : (m g a b x y : ℕ) → a_node m g ≡ a_node x a → a_node m g ≡ a_node y b → a ≡ b
  levels_same m g a b x y e f = cc

  next_of : (one two : ℕ × ℕ) → IsIn one (pairs p) → IsIn two (pairs p) → one.0 ≡ two.0 → one.1 ≡ two.1
  next_of one two i j e = pair_next p z (one.0) (one.1) (two.1) i (subst (λ (n : ℕ). IsIn (n, two.1) (pairs p)) (sym e) j)

  -- a node that is reached from the right by the first of two equal pieces isn't reached from the left by the second
  apart_nodes : IsPacking p chosen → (c d : ChoiceValue) → chosen c ≡ true → chosen d ≡ true → (m g a b : ℕ) (one two : ℕ × ℕ) → IsIn one (pairs p) → IsIn two (pairs p)
      → c.name ≡ one.0 → d.name ≡ two.1 → IsIn a (from_right (tree_levels p) (leaf_of p c)) → IsIn b (from_left (tree_levels p) (leaf_of p d))
      → a_node m g ≡ a_node (one.0) a → a_node m g ≡ a_node (two.0) b → ⊥
  apart_nodes k c d q r m g a b one two i j n o x y e f =
      let pc = k.placed c q in
      let pd = k.placed d r in
      let next = next_of one two i j (firsts m g a b (one.0) (two.0) e f) in
      let pair : IsIn (c.name, d.name) (pairs p) = subst (λ (x : ℕ). IsIn (x, d.name) (pairs p)) (sym n) (subst (λ (x : ℕ). IsIn (one.0, x) (pairs p)) (next ∙ sym o) i) in
      let rise = place_rises p.region (first_cell c.cells) (first_cell d.cells) h.region.rises (least_inside p h c pc) (least_inside p h d pd) (k.ordered c d q r pair) in
      let more = share_greater (tree_levels p) (leaf_of p c) (leaf_of p d) a (leaf_placed p h c pc) (leaf_placed p h d pd) x
      (subst (λ (x : ℕ). IsIn x (from_left (tree_levels p) (leaf_of p d))) (sym (levels_same m g a b (one.0) (two.0) e f)) y) in
      omega (arith, rise, more)

  alone : IsPacking p chosen → (t : Thing) (c d : ChoiceValue) → chosen c ≡ true → chosen d ≡ true → IsIn t (things_of p c) → IsIn t (things_of p d) → c ≡ d
  alone k (a_piece name) c d q r i j = k.once c d q r (in_piece p c name i).0 ((in_piece p c name i).1 ∙ sym (in_piece p d name j).1)
  alone k (a_cell v) c d q r i j = k.apart v c d q r (in_cell p c v i) (in_cell p d v j)
  alone k (a_node m g) c d q r i j = elim (part_of p c (a_node m g) i) [
    | the_piece single e ↦ cc
    | the_cell v a e ↦ cc
    | on_right one a y n x e ↦ elim (part_of p d (a_node m g) j) [
      | the_piece single f ↦ cc
      | the_cell w b f ↦ cc
      | on_right two b u o w f ↦ k.once c d q r (subst (λ (b : ℕ). is_any p b ≡ false) (sym n) (pair_single p z (one.0) (one.1) y).0) (n ∙ firsts m g a b (one.0) (two.0) e f ∙ sym o)
      | on_left two b u o w f ↦ absurd (apart_nodes k c d q r m g a b one two y u n o x w e f)
    ]
    | on_left one a y n x e ↦ elim (part_of p d (a_node m g) j) [
      | the_piece single f ↦ cc
      | the_cell w b f ↦ cc
      | on_right two b u o w f ↦ absurd (apart_nodes k d c r q m g b a two one u y o n w x f e)
      | on_left two b u o w f ↦
          k.once c d q r (subst (λ (b : ℕ). is_any p b ≡ false) (sym n) (pair_single p z (one.0) (one.1) y).1)
          (n ∙ next_of one two y u (firsts m g a b (one.0) (two.0) e f) ∙ sym o)
    ]
  ]

  -- a copy that isn't used is spare, and is left out
  left_in : IsPacking p chosen → (name : ℕ) → IsIn name (names_of (pieces_of p)) → is_needed p name ≡ true → uses p chosen name ≡ false
      → (parts : List ℕ × List ℕ) × IsIn parts (leavings p) × LeavesOut chosen parts × IsIn name (parts.1)
  left_in k name i n unused =
      let g = in_from_flat_map (λ (group : List ℕ). group) name (equal_names p) (in_from_name (all_of (equal_names p)) name (passes (has_name (all_of (equal_names p))) (spare_names p) (spare_equal p z) name (in_from_name (spare_names p) name (spare_if name i n unused)))) in
      parts_of g.0 g.1 g.2
    where
      spare_if : (m : ℕ) → IsIn m (names_of (pieces_of p)) → is_needed p m ≡ true → uses p chosen m ≡ false → is_spare p m ≡ true
      spare_if m j q f = true_from_ne_false (is_spare p m) (λ sure. both_ways (uses p chosen m) f (from_used p chosen laid_among m (k.used m j q sure)))

      parts_of : (group : List ℕ) → IsIn group (equal_names p) → IsIn name group → (parts : List ℕ × List ℕ) × IsIn parts (leavings p) × LeavesOut chosen parts × IsIn name (parts.1)
      parts_of group there member =
          let split = split_by (uses p chosen) group
          (λ a b j t. from_used p chosen laid_among a (k.in_turn a b (in_flat_map neighbours (a, b) group (equal_names p) there j) (used_from p chosen b t))) in
          by_rest split.yes split.no split.whole split.pass split.fail
        where
          by_rest : (firsts others : List ℕ) → group ≡ firsts ++ others → ((m : ℕ) → IsIn m firsts → uses p chosen m ≡ true) → ((m : ℕ) → IsIn m others → uses p chosen m ≡ false)
              → (parts : List ℕ × List ℕ) × IsIn parts (leavings p) × LeavesOut chosen parts × IsIn name (parts.1)
          by_rest firsts [] whole pass fail = absurd (both_ways (uses p chosen name) unused (pass name (subst (λ (ns : List ℕ). IsIn name ns) (whole ∙ append-nil firsts) member)))
          by_rest firsts (y ∷ ys) whole pass fail = (
            (firsts, y ∷ ys),
            leaving_in p firsts y ys (subst (λ (ns : List ℕ). IsIn ns (equal_names p)) whole there) (λ m j.
                let copy = equal_copy p z group m there (subst (λ (ns : List ℕ). IsIn m ns) (sym whole) (in_append_right m firsts (y ∷ ys) j)) in
                spare_if m copy.named copy.needed (fail m j)),
            record {
              used = λ m j. used_from p chosen m (pass m j);
              left = λ m j u. both_ways (uses p chosen m) (fail m j) (from_used p chosen laid_among m u);
            },
            elim (in_append_cases name firsts (y ∷ ys) (subst (λ (ns : List ℕ). IsIn name ns) whole member)) [
              | inl l ↦ absurd (both_ways (uses p chosen name) unused (pass name l))
              | inr r ↦ r
            ],
          )

-- what a packing lays and leaves are options
module _ (p : PuzzleValue) (z : IsPuzzle p) (h : HasShapes p) (set : ℕ → Bool) (chosen : ChoiceValue → Bool) (s : SetStandsFor p set chosen) where
  lays : LaysWhat p set chosen
  lays = lays_what p set chosen s

  laid_option : (t : Thing) (c : ChoiceValue) → chosen c ≡ true → IsIn t (things_of p c) → (o : ℕ) × (set o ≡ true) × (has (option_at (packing_problem p) o) (thing_item p t) ≡ true)
  laid_option t c k i = let n = numbered p z h set chosen lays c k in (n.number, n.taken, item_part p z h set chosen lays c k t i n)

  reaches : IsPacking p chosen → (t : Thing) → IsIn t (needed_things p) → (o : ℕ) × (set o ≡ true) × (has (option_at (packing_problem p) o) (thing_item p t) ≡ true)
  reaches k t i =
      elim (needed_cases p t i) [
        | inl n ↦ elim (cases_Bool (uses p chosen n.0)) [
          | inl used ↦
              let c = used_from p chosen n.0 used in
              laid_option t c.0 c.1
              (subst (λ (w : Thing). IsIn w (things_of p c.0)) (ap a_piece c.2 ∙ sym n.1) (piece_part p c.0 (subst (λ (m : ℕ). is_any p m ≡ false) (sym c.2) (needed_single p n.0 n.3))))
          | inr unused ↦
              let l = left_in p z h set chosen lays k n.0 n.2 n.3 unused in
              let o = number_of_leaving p l.0 l.1 in
              let taken = (s.left o.0 o.1 o.2).1 (subst (LeavesOut chosen) (sym o.3) l.2) in (
                o.0,
                taken,
                ap (λ (w : Thing). has (option_at (packing_problem p) o.0) (thing_item p w)) n.1
                    ∙ holds_left p o.0 n.0 o.1 o.2 (subst (λ (parts : List ℕ × List ℕ). IsIn n.0 (parts.1)) (sym o.3) l.3),
              )
        ]
        | inr m ↦
            let c = k.filled m.0 m.2 in
            laid_option t c.0 c.1 (subst (λ (w : Thing). IsIn w (things_of p c.0)) (sym m.1) (cell_part p c.0 m.0 c.2))
      ]

  covered : IsPacking p chosen → (i : ℕ) → 0 < i → i ≤ length (needed_things p) → (o : ℕ) × (set o ≡ true) × (has (option_at (packing_problem p) o) i ≡ true)
  covered k i some within =
      let t = needed_at p z i some within in
      let o = reaches k t.0 t.1 in
      (o.0, o.1, subst (λ (j : ℕ). has (option_at (packing_problem p) o.0) j ≡ true) t.2 o.2)

  -- the things of an option that lays a piece
  thing_laid : IsPacking p chosen → (o i : ℕ) → set o ≡ true → o ≤ laying_count p → has (option_at (packing_problem p) o) i ≡ true
      → (t : Thing) × IsIn t (things_of p (choice_at p o)) × (thing_item p t ≡ i) × IsIn t (things p)
  thing_laid k o i taken le has_it =
      let c = choice_at p o in
      let t = held p o i (s.within o taken).0 le has_it in
      let placed = k.placed c (s.forth o taken le) in
      (t.0, t.1, t.2, parts_in p c placed (leaf_placed p h c placed) t.0 t.1)

  never_laid : IsPacking p chosen → (i a b : ℕ) → set a ≡ true → a ≤ laying_count p → set b ≡ true → laying_count p < b → has (option_at (packing_problem p) a) i ≡ true → has (option_at (packing_problem p) b) i ≡ true → ⊥
  never_laid k i a b q le r past ha hb =
      let t = thing_laid k a i q le ha in
      let within = (s.within b r).1 in
      let n = held_left p b i past within hb in
      let copy = left_copy p z (leaving_at p b) (leaving_of p z b past within) n.0 n.1 in
      let same = item_same p t.0 (a_piece n.0) t.3 copy.thing (t.2 ∙ sym n.2) in
      let named = in_piece p (choice_at p a) n.0 (subst (λ (w : Thing). IsIn w (things_of p (choice_at p a))) same t.1) in
      ((s.left b past within).0 r).left n.0 n.1 (choice_at p a, s.forth a q le, named.1)

  once_only : IsPacking p chosen → (i a b : ℕ) → set a ≡ true → set b ≡ true → has (option_at (packing_problem p) a) i ≡ true → has (option_at (packing_problem p) b) i ≡ true → a ≡ b
  once_only k i a b q r ha hb =
      elim (side p a) [
        | inl le ↦ elim (side p b) [
          | inl more ↦
              let ta = thing_laid k a i q le ha in
              let tb = thing_laid k b i r more hb in
              let same = item_same p ta.0 tb.0 ta.3 tb.3 (ta.2 ∙ sym tb.2) in
              same_number p z a b (s.within a q).0 le (s.within b r).0 more
              (alone p z h set chosen lays k tb.0 (choice_at p a) (choice_at p b) (s.forth a q le) (s.forth b r more) (subst (λ (w : Thing). IsIn w (things_of p (choice_at p a))) same ta.1) tb.1)
          | inr past ↦ absurd (never_laid k i a b q le r past ha hb)
        ]
        | inr past ↦ elim (side p b) [
          | inl le ↦ absurd (never_laid k i b a r le q past hb ha)
          | inr later ↦
              let within = (s.within a q).1 in
              let inside = (s.within b r).1 in
              let m = held_left p a i past within ha in
              let n = held_left p b i later inside hb in
              let one = left_copy p z (leaving_at p a) (leaving_of p z a past within) m.0 m.1 in
              let other = left_copy p z (leaving_at p b) (leaving_of p z b later inside) n.0 n.1 in
              let same = item_same p (a_piece m.0) (a_piece n.0) one.thing other.thing (m.2 ∙ sym n.2) in
              let name = piece_is m.0 n.0 same in
              one_leaving p z chosen a b n.0 past within later inside ((s.left a past within).0 q) ((s.left b later inside).0 r) (subst (λ (j : ℕ). IsIn j ((leaving_at p a).1)) name m.1) n.1
        ]
      ]
    where
      piece_is : (m n : ℕ) → a_piece m ≡ a_piece n → m ≡ n
      piece_is m n e = cc

  needed_part : (c : ChoiceValue) → IsPlaced p c → (t : Thing) × IsIn t (needed_things p) × IsIn t (things_of p c)
  needed_part c q =
      elim q.useful [
        | inl n ↦ (a_piece c.name, needed_piece p c.name (in_map (λ (m : ℕ × List Coordinates). m.0) (c.name, q.piece) (pieces_of p) q.named) n, piece_part p c (needed_single p c.name n))
        | inr v ↦ (a_cell v.0, needed_cell p v.0 v.2, cell_part p c v.0 v.1)
      ]

  -- an option has a required thing
  required_in : IsPacking p chosen → (o : ℕ) → set o ≡ true → (t : Thing) × IsIn t (needed_things p) × (has (option_at (packing_problem p) o) (thing_item p t) ≡ true)
  required_in k o q =
      let f = s.within o q in
      elim (side p o) [
        | inl le ↦ let t = needed_part (choice_at p o) (k.placed (choice_at p o) (s.forth o q le)) in (t.0, t.1, holds p o t.0 f.0 le t.2)
        | inr past ↦
            let l = leaving_of p z o past f.1 in
            let first = first_left l.group (leaving_at p o) l.parted in
            let copy = left_copy p z (leaving_at p o) l l.parted.first first in
            (a_piece l.parted.first, needed_piece p l.parted.first copy.named copy.needed, holds_left p o l.parted.first past f.1 first)
      ]

  pub packing_covers : IsPacking p chosen → IsExactCover (packing_problem p) set
  packing_covers k = record {
    options = λ o q. let f = s.within o q in (f.0, count_is p o f.1);
    covers = λ i some within. covered k i some (subst (λ (n : ℕ). i ≤ n) (primary_is p) within);
    once = once_only k;
    useful = λ o q.
        let t = required_in k o q in
        (thing_item p t.0, item_positive p t.0, subst (λ (n : ℕ). thing_item p t.0 ≤ n) (sym (primary_is p)) (item_needed p t.0 t.1), t.2);
  }

-- ---- one for one

pub one_packing : (p : PuzzleValue) (set : ℕ → Bool) (chosen other : ChoiceValue → Bool) → SetStandsFor p set chosen → SetStandsFor p set other → (c : ChoiceValue) → chosen c ≡ other c
one_packing p set chosen other s t c = same_tests (chosen c) (other c) (to chosen other s t) (to other chosen t s)
  where
    to : (f g : ChoiceValue → Bool) → SetStandsFor p set f → SetStandsFor p set g → f c ≡ true → g c ≡ true
    to f g q r k = let b = q.back c k in subst (λ (d : ChoiceValue). g d ≡ true) b.3 (r.forth b.0 b.1 b.2)

pub one_cover : (p : PuzzleValue) → IsPuzzle p → (set other : ℕ → Bool) (chosen : ChoiceValue → Bool) → SetStandsFor p set chosen → SetStandsFor p other chosen → (o : ℕ) → set o ≡ other o
one_cover p z set other chosen s t o = same_tests (set o) (other o) (to set other s t) (to other set t s)
  where
    to : (f g : ℕ → Bool) → SetStandsFor p f chosen → SetStandsFor p g chosen → f o ≡ true → g o ≡ true
    to f g q r k =
        elim (side p o) [
          | inl le ↦
              let b = r.back (choice_at p o) (q.forth o k le) in
              subst (λ (n : ℕ). g n ≡ true) (same_number p z b.0 o (r.within b.0 b.1).0 b.2 (q.within o k).0 le b.3) b.1
          | inr past ↦ let within = (q.within o k).1 in (r.left o past within).1 ((q.left o past within).0 k)
        ]

-- ---- a packing for each exact cover

pub same_choice_is : (c d : ChoiceValue) → same_choice c d ≡ true → c ≡ d
same_choice_is c d h =
    let parts = and_parts (c.name == d.name) (is_eq (cells_cmp c.cells d.cells)) h in
    ap₂ choice_with (eqb-true c.name d.name parts.0) (cells_exact c.cells d.cells ((Equal-is (cells_cmp c.cells d.cells)).0 parts.1))

pub same_choice_itself : (c : ChoiceValue) → same_choice c c ≡ true
same_choice_itself c = and_from (c.name == c.name) (is_eq (cells_cmp c.cells c.cells)) (eq-eqb c.name c.name refl) (ap is_eq (tied_itself cells_total c.cells))

-- the option is taken and stands for the choice
takes : PuzzleValue → (ℕ → Bool) → ChoiceValue → ℕ → Bool
takes p set c o = set o && same_choice (choice_at p o) c

is_chosen_by : PuzzleValue → (ℕ → Bool) → ChoiceValue → Bool
is_chosen_by p set c = list_any (takes p set c) (range_with_len 1 (length (every_choice p)))

pub count_back : (p : PuzzleValue) (o : ℕ) → o ≤ length ((packing_problem p).options) → o ≤ option_count p
count_back p o h = subst (λ (n : ℕ). o ≤ n) (options_long p) h

-- what lays the pieces of an exact cover stands for it
pub stands_from : (p : PuzzleValue) → IsPuzzle p → (set : ℕ → Bool) (chosen : ChoiceValue → Bool) → LaysWhat p set chosen → IsExactCover (packing_problem p) set → SetStandsFor p set chosen
stands_from p z set chosen s e = record { within = s.within; forth = s.forth; back = s.back; left = cover_leaves p z (has_shapes p z) set chosen s e }

lays_chosen : (p : PuzzleValue) (set : ℕ → Bool) → IsExactCover (packing_problem p) set → LaysWhat p set (is_chosen_by p set)
unfolding takes is_chosen_by
lays_chosen p set e = record {
  within = λ o k. let at = e.options o k in (at.0, count_back p o at.1);
  forth = λ o k le.
      let at = e.options o k in
      passes_some (takes p set (choice_at p o)) o (range_with_len 1 (length (every_choice p))) (in_to_range o 1 (length (every_choice p)) (omega (arith, at.0)) (omega (arith, le)))
      (and_from (set o) (same_choice (choice_at p o) (choice_at p o)) k (same_choice_itself (choice_at p o)));
  back = λ c k.
      let o = some_passes (takes p set c) (range_with_len 1 (length (every_choice p))) k in
      let parts = and_parts (set o.0) (same_choice (choice_at p o.0) c) o.2 in
      let high = in_from_range o.0 1 (length (every_choice p)) o.1 in
      (o.0, parts.0, omega (arith, high), same_choice_is (choice_at p o.0) c parts.1);
}

pub some_packing : (p : PuzzleValue) → IsPuzzle p → (set : ℕ → Bool) → IsExactCover (packing_problem p) set → (chosen : ChoiceValue → Bool) × SetStandsFor p set chosen
some_packing p z set e = (is_chosen_by p set, stands_from p z set (is_chosen_by p set) (lays_chosen p set e) e)

-- ---- an exact cover for each packing

-- the first pieces are used, and the others aren't
are_parted : PuzzleValue → (ChoiceValue → Bool) → List ℕ × List ℕ → Bool
are_parted p chosen parts = list_all (uses p chosen) (parts.0) && list_all (λ n. not (uses p chosen n)) (parts.1)

taken_by : PuzzleValue → (ChoiceValue → Bool) → ℕ → Bool
taken_by p chosen o =
    cond (nat_lt (laying_count p) o) (nat_le o (option_count p) && are_parted p chosen (leaving_at p o)) (nat_lt 0 o && chosen (choice_at p o))

laying_taken : (p : PuzzleValue) (chosen : ChoiceValue → Bool) (o : ℕ) → o ≤ laying_count p → taken_by p chosen o ≡ (nat_lt 0 o && chosen (choice_at p o))
unfolding taken_by
laying_taken p chosen o le = cond-false _ _ _ (le-ltb-false (laying_count p) o le)
  where
    le-ltb-false : (k o : ℕ) → o ≤ k → nat_lt k o ≡ false
    le-ltb-false k o le = false_from_ne_true (nat_lt k o) (λ t. let lt = ltb-true k o t in omega (arith, lt, le))

leaving_taken : (p : PuzzleValue) (chosen : ChoiceValue → Bool) (o : ℕ) → laying_count p < o → taken_by p chosen o ≡ (nat_le o (option_count p) && are_parted p chosen (leaving_at p o))
unfolding taken_by
leaving_taken p chosen o past = cond-true _ _ _ (lt-ltb (laying_count p) o past)

module _ (p : PuzzleValue) (z : IsPuzzle p) (h : HasShapes p) (chosen : ChoiceValue → Bool) (k : IsPacking p chosen) where
  among : (c : ChoiceValue) → chosen c ≡ true → IsIn c (layable p)
  among c t = in_layable p h c (k.placed c t)

  left_from : (parts : List ℕ × List ℕ) → are_parted p chosen parts ≡ true → LeavesOut chosen parts
  unfolding are_parted
  left_from parts t =
      let both = and_parts (list_all (uses p chosen) (parts.0)) (list_all (λ n. not (uses p chosen n)) (parts.1)) t in
      record {
        used = λ n i. used_from p chosen n (passes (uses p chosen) (parts.0) both.0 n i);
        left = λ n i u. both_ways (uses p chosen n) (not-true _ (passes (λ m. not (uses p chosen m)) (parts.1) both.1 n i)) (from_used p chosen among n u);
      }

  from_parted : (parts : List ℕ × List ℕ) → LeavesOut chosen parts → are_parted p chosen parts ≡ true
  unfolding are_parted
  from_parted parts a =
      and_from (list_all (uses p chosen) (parts.0)) (list_all (λ n. not (uses p chosen n)) (parts.1))
      (all_pass (uses p chosen) (parts.0) (λ n i. from_used p chosen among n (a.used n i)))
      (all_pass (λ n. not (uses p chosen n)) (parts.1) (λ n i. not_from_false _ (false_from_ne_true _ (λ t. a.left n i (used_from p chosen n t)))))

  taken_stands : SetStandsFor p (taken_by p chosen) chosen
  taken_stands = record {
    within = λ o t.
        elim (side p o) [
          | inl le ↦
              let parts = and_parts (nat_lt 0 o) (chosen (choice_at p o)) (sym (laying_taken p chosen o le) ∙ t) in
              let some = ltb-true 0 o parts.0 in
              (some, omega (arith, le))
          | inr past ↦
              let parts = and_parts (nat_le o (option_count p)) (are_parted p chosen (leaving_at p o)) (sym (leaving_taken p chosen o past) ∙ t) in
              (omega (arith, past), leb-true o (option_count p) parts.0)
        ];
    forth = λ o t le. (and_parts (nat_lt 0 o) (chosen (choice_at p o)) (sym (laying_taken p chosen o le) ∙ t)).1;
    back = λ c t.
        let o = number_of_choice p c (in_placed p h c (k.placed c t) (packings_have_room p chosen c z k t)) in (
          o.0,
          laying_taken p chosen o.0 o.2 ∙ and_from (nat_lt 0 o.0) (chosen (choice_at p o.0)) (lt-ltb 0 o.0 o.1) (subst (λ (d : ChoiceValue). chosen d ≡ true) (sym o.3) t),
          o.2,
          o.3,
        );
    left = λ o past within. (
      (λ t. left_from (leaving_at p o) (and_parts (nat_le o (option_count p)) (are_parted p chosen (leaving_at p o)) (sym (leaving_taken p chosen o past) ∙ t)).1),
      (λ a.
          leaving_taken p chosen o past
          ∙ and_from (nat_le o (option_count p)) (are_parted p chosen (leaving_at p o)) (le-leb o (option_count p) within) (from_parted (leaving_at p o) a)),
    );
  }

pub some_cover : (p : PuzzleValue) → IsPuzzle p → HasShapes p → (chosen : ChoiceValue → Bool) → IsPacking p chosen → (set : ℕ → Bool) × SetStandsFor p set chosen
some_cover p z h chosen k = (taken_by p chosen, taken_stands p z h chosen k)

pub are_packings : (p : PuzzleValue) → IsPuzzle p → ArePackings p
are_packings p z = let h = has_shapes p z in record {
  packs = λ set chosen s e. cover_packs p z h set chosen (lays_what p set chosen s) e;
  covers = λ set chosen s k. packing_covers p z h set chosen s k;
  some_packing = some_packing p z;
  some_cover = some_cover p z h;
  one_packing = one_packing p;
  one_cover = one_cover p z;
}
