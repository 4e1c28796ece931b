-- An exact cover of the problem is a packing of the puzzle.
use Rattle.std.proofs.Common.{false, Less, ◌≡◌, ◌↔◌, ◌⊎◌, ℕ, ◌<◌, ◌≤◌, List, Bool, true, inl, inr, refl, sym, ap, subst, ◌∙◌, arith}
use Rattle.std.proofs.lemmas.Bool.{both_ways}
use Rattle.poly_cells.specs.Coordinates.{Coordinates, coordinates_cmp}
use Rattle.poly_cells.specs.Sets.{IsIn}
use Rattle.poly_cells.proofs.SetLemmas.{in_append_left, in_append_right, cases_order, turned_back}
use Rattle.poly_texts.specs.Puzzle.{PuzzleValue, IsPuzzle, names_of, is_needed, is_spare, pieces_of, equal_names}
use Rattle.shared_words.specs.Lists.{has}
use Rattle.cover_problem.specs.Problem.{option_at}
use Rattle.cover_problem.specs.ExactCover.{IsExactCover}
use Rattle.poly_place.specs.Packings.{ChoiceValue, is_any, must_fill, neighbours, pairs, IsUsed, first_cell, tree_levels, leaf_of, a_node, IsPlaced, IsPacking, every_choice, laying_count, option_count, leaving_at, LeavesOut, Thing, a_piece, a_cell, needed_things, thing_item, things_of, packing_problem, choice_at}
use Rattle.poly_cells.proofs.MemberLemmas.{in_from_flat_map}
use Rattle.poly_place.proofs.ThingLemmas.{item_same, item_positive, item_needed, needed_in, needed_piece, needed_cell, parts_in, piece_part, cell_part, right_part, left_part}
use Rattle.poly_place.proofs.TurnLemmas.{greater_shares}
use Rattle.poly_place.proofs.PairLemmas.{distinct_apart, in_group, pair_differs}
use Rattle.poly_place.proofs.LeavingsLemmas.{later_left, next_left, IsLeaving, first_left, IsCopy, equal_copy, left_copy}
use Rattle.poly_place.proofs.PlaceLemmas.{place_rises}
use Rattle.poly_cells.proofs.CoordinateLemmas.{coordinates_total, coordinates_exact}
use Rattle.poly_place.proofs.PlacedLemmas.{HasShapes, placed_in}
use Rattle.poly_place.proofs.StandLemmas.{chosen_in, holds, held, holds_left, held_left, side, primary_is, in_piece, in_cell, least_in, least_inside, leaf_placed, IsNumbered, IsLeftBy, LaysWhat, same_group, leaving_of, same_whole, distinct_parts, one_leaving}

module _ (p : PuzzleValue) (z : IsPuzzle p) (h : HasShapes p) (set : ℕ → Bool) (chosen : ChoiceValue → Bool) (s : LaysWhat p set chosen) where
  pub numbered : (c : ChoiceValue) → chosen c ≡ true → IsNumbered p set c
  numbered c k =
      let b = s.back c k in
      record { number = b.0; some = (s.within b.0 b.1).0; within = b.2; taken = b.1; is = b.3 }

  pub placed_by : (c : ChoiceValue) → chosen c ≡ true → IsPlaced p c
  placed_by c k =
      let n = numbered c k in
      placed_in p h c (subst (λ (d : ChoiceValue). IsIn d (every_choice p)) n.is (chosen_in p n.number n.some n.within))

  pub item_part : (c : ChoiceValue) → chosen c ≡ true → (t : Thing) → IsIn t (things_of p c) → (n : IsNumbered p set c) → has (option_at (packing_problem p) n.number) (thing_item p t) ≡ true
  item_part c k t i n = holds p n.number t n.some n.within (subst (λ (d : ChoiceValue). IsIn t (things_of p d)) (sym n.is) i)

  -- ---- an exact cover is a packing

  shared : IsExactCover (packing_problem p) set → (t : Thing) (c d : ChoiceValue) → chosen c ≡ true → chosen d ≡ true → IsIn t (things_of p c) → IsIn t (things_of p d) → c ≡ d
  shared e t c d k l i j =
      let m = numbered c k in
      let n = numbered d l in
      let same = e.once (thing_item p t) m.number n.number m.taken n.taken (item_part c k t i m) (item_part d l t j n) in
      sym m.is ∙ ap (choice_at p) same ∙ n.is

  -- a thing that is required is laid, or a copy that is left out
  met : IsExactCover (packing_problem p) set → (t : Thing) → IsIn t (needed_things p)
      → ((c : ChoiceValue) × (chosen c ≡ true) × IsIn t (things_of p c)) ⊎ ((n : ℕ) × (t ≡ a_piece n) × IsLeftBy p set n)
  met e t i =
      let o = e.covers (thing_item p t) (item_positive p t) (subst (λ (n : ℕ). thing_item p t ≤ n) (sym (primary_is p)) (item_needed p t i)) in
      let f = s.within o.0 o.1 in
      elim (side p o.0) [
        | inl le ↦
            let c = choice_at p o.0 in
            let k = s.forth o.0 o.1 le in
            let u = held p o.0 (thing_item p t) f.0 le o.2 in
            let same = item_same p u.0 t (parts_in p c (placed_by c k) (leaf_placed p h c (placed_by c k)) u.0 u.1) (needed_in p t i) u.2 in
            inl (c, k, subst (λ (w : Thing). IsIn w (things_of p c)) same u.1)
        | inr past ↦
            let u = held_left p o.0 (thing_item p t) past f.1 o.2 in
            let copy = left_copy p z (leaving_at p o.0) (leaving_of p z o.0 past f.1) u.0 u.1 in
            let same = item_same p (a_piece u.0) t copy.thing (needed_in p t i) u.2 in
            inr (u.0, sym same, record { option = o.0; taken = o.1; past = past; within = f.1; member = u.1 })
      ]

  -- so it is of an equal piece
  met_copy : IsExactCover (packing_problem p) set → (n : ℕ) → IsCopy p n → IsUsed chosen n ⊎ IsLeftBy p set n
  met_copy e n copy =
      elim (met e (a_piece n) (needed_piece p n copy.named copy.needed)) [
        | inl c ↦ inl (c.0, c.1, (in_piece p c.0 n c.2).1)
        | inr l ↦ let same : n ≡ l.0 = piece_is n l.0 l.1 in inr (subst (IsLeftBy p set) (sym same) l.2)
      ]
    where
      piece_is : (m n : ℕ) → a_piece m ≡ a_piece n → m ≡ n
      piece_is m n e = cc

  -- no piece is both laid and left out
  never_both : IsExactCover (packing_problem p) set → (n : ℕ) → IsUsed chosen n → IsLeftBy p set n → ⊥
  never_both e n u l =
      let c = u.0 in
      let m = numbered c u.1 in
      let copy = left_copy p z (leaving_at p l.option) (leaving_of p z l.option l.past l.within) n l.member in
      let part = subst (λ (k : ℕ). IsIn (a_piece k) (things_of p c)) u.2 (piece_part p c (subst (λ (k : ℕ). is_any p k ≡ false) (sym u.2) copy.single)) in
      let same = e.once (thing_item p (a_piece n)) m.number l.option m.taken l.taken (item_part c u.1 (a_piece n) part m) (holds_left p l.option n l.past l.within l.member) in
      let within = m.within in
      let past = l.past in
      omega (arith, same, within, past)

  left_by : (o n : ℕ) → set o ≡ true → laying_count p < o → IsIn n ((leaving_at p o).1) → IsLeftBy p set n
  left_by o n taken past i = record { option = o; taken = taken; past = past; within = (s.within o taken).1; member = i }

  -- what an option of an exact cover leaves out is left, and what comes before is used
  are_left : IsExactCover (packing_problem p) set → (o : ℕ) → set o ≡ true → laying_count p < o → LeavesOut chosen (leaving_at p o)
  are_left e o taken past = record { used = used; left = λ n i u. never_both e n u (left_by o n taken past i) }
    where
      parts : List ℕ × List ℕ
      parts = leaving_at p o

      l : IsLeaving p (leaving_at p o)
      l = leaving_of p z o past (s.within o taken).1

      used : (n : ℕ) → IsIn n ((leaving_at p o).0) → IsUsed chosen n
      used n i =
          let there = subst (λ (ns : List ℕ). IsIn n ns) (sym l.parted.whole) (in_append_left n ((leaving_at p o).0) ((leaving_at p o).1) i) in
          elim (met_copy e n (equal_copy p z l.group n l.there there)) [
            | inl u ↦ u
            | inr q ↦
                let other = leaving_at p q.option in
                let m = leaving_of p z q.option q.past q.within in
                let a = leaving_at p o in
                let whole = same_whole p z a other l m n (in_append_left n (a.0) (a.1) i) (in_append_right n (other.0) (other.1) q.member) in
                let first = first_left l.group a l.parted in
                let later = later_left (a.0) (a.1) (other.0) (other.1) n whole (distinct_parts p z other m) i q.member l.parted.first first in
                let same = e.once (thing_item p (a_piece l.parted.first)) o q.option taken q.taken (holds_left p o l.parted.first past (s.within o taken).1 first) (holds_left p q.option l.parted.first q.past q.within later) in
                absurd (distinct_apart n (a.0) (a.1) (distinct_parts p z a l) i (subst (λ (k : ℕ). IsIn n ((leaving_at p k).1)) (sym same) q.member))
          ]

  taken_if_left : IsExactCover (packing_problem p) set → (o : ℕ) → laying_count p < o → o ≤ option_count p → LeavesOut chosen (leaving_at p o) → set o ≡ true
  taken_if_left e o past within x =
      let l = leaving_of p z o past within in
      let n = l.parted.first in
      let first = first_left l.group (leaving_at p o) l.parted in
      elim (met_copy e n (left_copy p z (leaving_at p o) l n first)) [
        | inl u ↦ absurd (x.left n first u)
        | inr q ↦
            let same = one_leaving p z chosen o q.option n past within q.past q.within x (are_left e q.option q.taken q.past) first q.member in
            subst (λ (k : ℕ). set k ≡ true) (sym same) q.taken
      ]

  pub cover_leaves : IsExactCover (packing_problem p) set → (o : ℕ) → laying_count p < o → o ≤ option_count p → ((set o ≡ true) ↔ LeavesOut chosen (leaving_at p o))
  cover_leaves e o past within = ((λ taken. are_left e o taken past), taken_if_left e o past within)

  -- of two equal pieces the leaf of the first is the lesser one: else they would share a cell or a node
  same_never : (c d : ChoiceValue) → IsIn (c.name, d.name) (pairs p) → c ≡ d → ⊥
  same_never c d i e = pair_differs p z c.name d.name i (ap (λ (b : ChoiceValue). b.name) e)

  in_their_order : IsExactCover (packing_problem p) set → (c d : ChoiceValue) → chosen c ≡ true → chosen d ≡ true → IsIn (c.name, d.name) (pairs p)
      → coordinates_cmp (first_cell c.cells) (first_cell d.cells) ≡ Less
  in_their_order e c d k l i =
      let v = first_cell c.cells in
      let w = first_cell d.cells in
      let pc = placed_by c k in
      let pd = placed_by d l in
      elim (cases_order (coordinates_cmp v w)) [
        | inl less ↦ less
        | inr other ↦ elim other [
          | inl same ↦
              absurd (same_never c d i (shared e (a_cell v) c d k l (cell_part p c v (least_in p h c pc))
              (cell_part p d v (subst (λ (u : Coordinates). IsIn u d.cells) (sym (coordinates_exact v w same)) (least_in p h d pd)))))
          | inr more ↦
              let rise = place_rises p.region w v h.region.rises (least_inside p h d pd) (least_inside p h c pc) (turned_back coordinates_total v w more) in
              let node = greater_shares (tree_levels p) (leaf_of p c) (leaf_of p d) (leaf_placed p h c pc) (leaf_placed p h d pd) (omega (arith, rise)) in
              absurd (same_never c d i (shared e (a_node c.name node.0) c d k l (right_part p c (c.name, d.name) node.0 i refl node.1) (left_part p d (c.name, d.name) node.0 i refl node.2)))
        ]
      ]

  used_by : IsExactCover (packing_problem p) set → (name : ℕ) → IsIn name (names_of (pieces_of p)) → is_needed p name ≡ true → is_spare p name ≡ false → IsUsed chosen name
  used_by e name i n sure =
      elim (met e (a_piece name) (needed_piece p name i n)) [
        | inl c ↦ (c.0, c.1, (in_piece p c.0 name c.2).1)
        | inr l ↦
            let spare = (leaving_of p z l.2.option l.2.past l.2.within).spare l.0 l.2.member in
            let e = l.1 in
            let same : name ≡ l.0 = cc in
            absurd (both_ways (is_spare p name) sure (subst (λ (k : ℕ). is_spare p k ≡ true) (sym same) spare))
      ]

  filled_by : IsExactCover (packing_problem p) set → (v : Coordinates) → must_fill p v ≡ true → (c : ChoiceValue) × (chosen c ≡ true) × IsIn v c.cells
  filled_by e v m =
      elim (met e (a_cell v) (needed_cell p v m)) [
        | inl c ↦ (c.0, c.1, in_cell p c.0 v c.2)
        | inr l ↦ let f = l.1 in absurd (cc)
      ]

  -- a copy that is used is not left out; so neither is the one before it, as that would leave out both
  used_in_turn : IsExactCover (packing_problem p) set → (m n : ℕ) → IsIn (m, n) (pairs p) → IsUsed chosen n → IsUsed chosen m
  used_in_turn e m n i u =
      let g = in_from_flat_map neighbours (m, n) (equal_names p) i in
      let both = in_group m n g.0 g.2 in
      elim (met_copy e m (equal_copy p z g.0 m g.1 both.0)) [
        | inl w ↦ w
        | inr q ↦
            let a = leaving_at p q.option in
            let l = leaving_of p z q.option q.past q.within in
            let inside = subst (λ (ns : List ℕ). IsIn m ns) (sym l.parted.whole) (in_append_right m (a.0) (a.1) q.member) in
            let whole = same_group p z g.0 l.group m g.1 l.there both.0 inside ∙ l.parted.whole in
            let next = next_left m n (a.0) (a.1) (distinct_parts p z a l) (subst (λ (ns : List ℕ). IsIn (m, n) (neighbours ns)) whole g.2) q.member in
            absurd (never_both e n u (left_by q.option n q.taken q.past next))
      ]

  pub cover_packs : IsExactCover (packing_problem p) set → IsPacking p chosen
  cover_packs e = record {
    placed = placed_by;
    once = λ c d k l single same. shared e (a_piece c.name) c d k l (piece_part p c single)
        (subst (λ (n : ℕ). IsIn (a_piece n) (things_of p d)) (sym same) (piece_part p d (subst (λ (n : ℕ). is_any p n ≡ false) same single)));
    used = used_by e;
    filled = filled_by e;
    apart = λ v c d k l i j. shared e (a_cell v) c d k l (cell_part p c v i) (cell_part p d v j);
    ordered = in_their_order e;
    in_turn = used_in_turn e;
  }
