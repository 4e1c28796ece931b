-- What may be chosen is what is placed, and nothing comes twice.
use Rattle.std.proofs.Common.{◌≡◌, ℕ, ◌≤◌, List, [], ◌∷◌, map, filter, length, true, ◌⊎◌, inl, inr, sym, ap, subst}
use Rattle.std.specs.List.{list_any, flat_map}
use Rattle.std.proofs.lemmas.Bool.{and_parts, and_from, or_left, or_right, or_cases}
use Rattle.poly_cells.specs.Coordinates.{Coordinates}
use Rattle.poly_cells.specs.Sets.{IsIn}
use Rattle.poly_cells.specs.Shapes.{IsShape}
use Rattle.poly_cells.proofs.SetLemmas.{in_map, in_from_map}
use Rattle.poly_texts.specs.Puzzle.{PuzzleValue, IsPuzzle, names_of, is_needed, pieces_of}
use Rattle.poly_place.specs.Placements.{placements}
use Rattle.poly_place.specs.Packings.{ChoiceValue, choice_with, turns_of, must_fill, IsPlaced, is_useful, leaves_room, may_be_chosen, choices_of_piece, every_choice}
use Rattle.poly_place.proofs.OrderLemmas.{cells_total}
use Rattle.poly_cells.proofs.MemberLemmas.{in_flat_map, in_from_flat_map, in_from_filter, in_filter, some_passes, passes_some}
use Rattle.poly_texts.proofs.NameLemmas.{pieces_new, pieces_shaped}
use Rattle.poly_place.proofs.PlacementLemmas.{sound, complete, placements_rise}
use Rattle.poly_place.proofs.DistinctLemmas.{IsDistinct, distinct_append, distinct_filter, distinct_map, distinct_rising, distinct_names}

-- ---- the pieces and the region are shapes

-- each of the pieces and the region are shapes
pub record HasShapes (p : PuzzleValue) : Type 0 where
  pub pieces : (named : ℕ × List Coordinates) → IsIn named (pieces_of p) → IsShape (named.1)
  pub region : IsShape p.region
  pub few : length p.region ≤ 4096

pub has_shapes : (p : PuzzleValue) → IsPuzzle p → HasShapes p
has_shapes p z = record {
  pieces = λ named i. (pieces_shaped p z named i).shape;
  region = record { some = z.some_cell; rises = z.rises; limits = z.limits };
  few = z.few;
}

-- ---- what may be chosen is what is placed

useful_from : (p : PuzzleValue) (c : ChoiceValue) → is_useful p c ≡ true → (is_needed p c.name ≡ true) ⊎ ((v : Coordinates) × IsIn v c.cells × (must_fill p v ≡ true))
useful_from p c h =
    elim (or_cases (is_needed p c.name) (list_any (must_fill p) c.cells) h) [ inl l ↦ inl l | inr r ↦ inr (some_passes (must_fill p) c.cells r) ]

from_useful : (p : PuzzleValue) (c : ChoiceValue) → (is_needed p c.name ≡ true) ⊎ ((v : Coordinates) × IsIn v c.cells × (must_fill p v ≡ true)) → is_useful p c ≡ true
from_useful p c h =
    elim h [
      | inl l ↦ or_left (is_needed p c.name) (list_any (must_fill p) c.cells) l
      | inr r ↦ or_right (is_needed p c.name) (list_any (must_fill p) c.cells) (passes_some (must_fill p) r.0 c.cells r.1 r.2)
    ]

placed_from : (p : PuzzleValue) → HasShapes p → (name : ℕ) (piece set : List Coordinates) → IsIn (name, piece) (pieces_of p) → IsIn set (placements (turns_of p name) piece p.region) → is_useful p (choice_with name set) ≡ true
    → IsPlaced p (choice_with name set)
placed_from p s name piece set named i h =
    let found = sound (turns_of p name) piece p.region set (s.pieces (name, piece) named) i in
    record { piece = piece; named = named; rises = found.0; placed = found.1; useful = useful_from p (choice_with name set) h }

pub placed_in : (p : PuzzleValue) → HasShapes p → (c : ChoiceValue) → IsIn c (every_choice p) → IsPlaced p c
unfolding every_choice
placed_in p s c i =
    let n = in_from_flat_map (choices_of_piece p) c (pieces_of p) i in
    let kept = in_from_filter (may_be_chosen p) c (map (choice_with (n.0.0)) (placements (turns_of p (n.0.0)) (n.0.1) p.region)) n.2 in
    let set = in_from_map (choice_with (n.0.0)) c (placements (turns_of p (n.0.0)) (n.0.1) p.region) kept.0 in
    subst (IsPlaced p) (sym set.2)
    (placed_from p s n.0.0 n.0.1 set.0 n.1 set.1 (subst (λ (d : ChoiceValue). is_useful p d ≡ true) set.2 (and_parts (is_useful p c) (leaves_room p c) kept.1).0))

placement_in : (p : PuzzleValue) → HasShapes p → (c : ChoiceValue) → (h : IsPlaced p c) → IsIn c (map (choice_with c.name) (placements (turns_of p c.name) h.piece p.region))
placement_in p s c h =
    in_map (choice_with c.name) c.cells (placements (turns_of p c.name) h.piece p.region) (complete (turns_of p c.name) h.piece p.region c.cells (s.pieces (c.name, h.piece) h.named) h.rises h.placed)

pub in_placed : (p : PuzzleValue) → HasShapes p → (c : ChoiceValue) → IsPlaced p c → leaves_room p c ≡ true → IsIn c (every_choice p)
unfolding every_choice
in_placed p s c h room =
    in_flat_map (choices_of_piece p) c (c.name, h.piece) (pieces_of p) h.named
    (in_filter (may_be_chosen p) c (map (choice_with c.name) (placements (turns_of p c.name) h.piece p.region)) (placement_in p s c h) (and_from (is_useful p c) (leaves_room p c) (from_useful p c h.useful) room))

-- what is placed, whether or not it leaves room
layable_of_piece : PuzzleValue → ℕ × List Coordinates → List ChoiceValue
layable_of_piece p named = filter (is_useful p) (map (choice_with (named.0)) (placements (turns_of p (named.0)) (named.1) p.region))

pub layable : PuzzleValue → List ChoiceValue
layable p = flat_map (layable_of_piece p) (pieces_of p)

pub in_layable : (p : PuzzleValue) → HasShapes p → (c : ChoiceValue) → IsPlaced p c → IsIn c (layable p)
unfolding layable layable_of_piece
in_layable p s c h =
    in_flat_map (layable_of_piece p) c (c.name, h.piece) (pieces_of p) h.named
    (in_filter (is_useful p) c (map (choice_with c.name) (placements (turns_of p c.name) h.piece p.region)) (placement_in p s c h) (from_useful p c h.useful))

-- ---- no choice comes twice

pub named_by : (p : PuzzleValue) (n : ℕ × List Coordinates) (c : ChoiceValue) → IsIn c (choices_of_piece p n) → c.name ≡ n.0
named_by p n c i =
    let kept = in_from_filter (may_be_chosen p) c (map (choice_with (n.0)) (placements (turns_of p (n.0)) (n.1) p.region)) i in
    let set = in_from_map (choice_with (n.0)) c (placements (turns_of p (n.0)) (n.1) p.region) kept.0 in
    ap (λ (d : ChoiceValue). d.name) set.2

pub named_among : (p : PuzzleValue) (ns : List (ℕ × List Coordinates)) (c : ChoiceValue) → IsIn c (flat_map (choices_of_piece p) ns) → IsIn c.name (names_of ns)
named_among p ns c i =
    let n = in_from_flat_map (choices_of_piece p) c ns i in
    subst (λ (m : ℕ). IsIn m (names_of ns)) (sym (named_by p n.0 c n.2)) (in_map (λ (m : ℕ × List Coordinates). m.0) n.0 ns n.1)

cells_same : (name : ℕ) (a b : List Coordinates) → choice_with name a ≡ choice_with name b → a ≡ b
cells_same name a b e = ap (λ (c : ChoiceValue). c.cells) e

distinct_of : (p : PuzzleValue) (ns : List (ℕ × List Coordinates)) → IsDistinct (names_of ns) → IsDistinct (flat_map (choices_of_piece p) ns)
distinct_of p [] d = tt
distinct_of p (n ∷ ns) d =
    distinct_append (choices_of_piece p n) (flat_map (choices_of_piece p) ns)
    (distinct_filter (may_be_chosen p) (map (choice_with (n.0)) (placements (turns_of p (n.0)) (n.1) p.region))
    (distinct_map (choice_with (n.0)) (placements (turns_of p (n.0)) (n.1) p.region) (cells_same (n.0)) (distinct_rising cells_total (placements (turns_of p (n.0)) (n.1) p.region) (placements_rise (turns_of p (n.0)) (n.1) p.region))))
    (distinct_of p ns d.1)
    (λ c i j. d.0 (subst (λ (m : ℕ). IsIn m (names_of ns)) (named_by p n c i) (named_among p ns c j)))

pub choices_distinct : (p : PuzzleValue) → IsPuzzle p → IsDistinct (every_choice p)
unfolding every_choice
choices_distinct p z = distinct_of p (pieces_of p) (distinct_names (names_of (pieces_of p)) (pieces_new p z))
