-- A packing whose symmetries are orthogonal matrices is one whose symmetries are numbers, and back.
use Rattle.std.proofs.Common.{◌≡◌, ◌<◌, ℕ, ◌⊎◌, Bool, true, false, cond, inl, inr, List, refl, sym, ap, ◌∙◌, arith, pos}
use Rattle.poly_cells.specs.Sets.{IsIn}
use Rattle.poly_cells.specs.Points.{Point, point, translated}
use Rattle.poly_cells.specs.Symmetries.{matrix, sent_by, determinant}
use Rattle.poly_cells.proofs.SetLemmas.{contains_from_in, in_from_contains}
use Rattle.poly_cells.proofs.MemberLemmas.{in_from_range, in_to_range}
use Rattle.poly_cells.proofs.NumberLemmas.{are_matrices}
use Rattle.poly_cells.proofs.GroupLemmas.{are_rotations}
use Rattle.poly_texts.specs.Puzzle.{PuzzleValue, pieces_of, mirrored_names, names_of, has_name}
use Rattle.poly_place.specs.declared.alike.Group.TheVariants.{Rotations, Symmetries}
use Rattle.poly_place.specs.Placements.{turns_by}
use Rattle.poly_place.specs.Packings.{ChoiceValue, IsPlaced, IsPacking, pairs}
use Rattle.polylab_engine.specs.Matrices.{IntegerMatrix, IsOrthogonal, sent_to, determinant_of}
use Rattle.polylab_engine.specs.Packing.{IsTurnedPiece, Packs}
use Rattle.polylab_engine.proofs.MatrixLemmas.{rows_of, to_permutation, each_orthogonal}

-- ---- the symmetries of a piece

-- the symmetries by which a piece may be turned, that may be reflected if this is so
abbrev turns_if : Bool → List ℕ
turns_if mirrored = turns_by (cond mirrored Symmetries Rotations)

abbrev MayTurn : Bool → IntegerMatrix → Type 0
MayTurn mirrored m = IsOrthogonal m × ((determinant_of m ≡ pos 1) ⊎ (mirrored ≡ true))

-- the rows of a symmetry send points where it does
acts : (n : ℕ) → n < 48 → (v : Point) → sent_by n v ≡ sent_to (rows_of (matrix n)) v
acts n lt v = are_matrices.acts (matrix n) (are_matrices.each n lt) v

number_below : (mirrored : Bool) (n : ℕ) → IsIn n (turns_if mirrored) → n < 48
number_below true n i = in_from_range n 0 48 i
number_below false n i = ((are_rotations.exactly n).0 i).0

to_rows : (mirrored : Bool) (n : ℕ) → IsIn n (turns_if mirrored) → MayTurn mirrored (rows_of (matrix n))
to_rows true n i = (each_orthogonal n (in_from_range n 0 48 i), inr refl)
to_rows false n i = let r = (are_rotations.exactly n).0 i in (each_orthogonal n r.0, inl r.1)

to_number : (mirrored : Bool) (m : IntegerMatrix) → MayTurn mirrored m → (n : ℕ) × (n < 48) × IsIn n (turns_if mirrored) × (rows_of (matrix n) ≡ m)
to_number mirrored m h =
    let p = to_permutation m h.0 in
    let n = are_matrices.every p.0 p.1 in
    let same : rows_of (matrix n.0) ≡ m = ap rows_of n.2 ∙ p.2 in
    (n.0, n.1, among mirrored n.0 n.1 (elim h.1 [ inl e ↦ inl (ap determinant_of same ∙ e) | inr e ↦ inr e ]), same)
  where
    among : (b : Bool) (n : ℕ) → n < 48 → (determinant (matrix n) ≡ pos 1) ⊎ (b ≡ true) → IsIn n (turns_if b)
    among true n lt h = in_to_range n 0 48 (omega arith) (omega (arith, lt))
    among false n lt (inl e) = (are_rotations.exactly n).1 (lt, e)
    among false n lt (inr e) = absurd (cc)

-- ---- a piece that is laid

module _ (p : PuzzleValue) (c : ChoiceValue) where
  to_turned : IsPlaced p c → IsTurnedPiece p c
  to_turned h =
      let n = h.placed.symmetry in
      let below = number_below (has_name (mirrored_names p) c.name) n h.placed.turned in
      let by = h.placed.by in
      record {
        piece = h.piece;
        m = rows_of (matrix n);
        d = by;
        named = contains_from_in (pieces_of p) (c.name, h.piece) h.named;
        may_turn = to_rows (has_name (mirrored_names p) c.name) n h.placed.turned;
        onto = λ w i.
            let v = h.placed.image.onto w (in_from_contains c.cells w i) in
            (v.0, contains_from_in h.piece v.0 v.1, v.2 ∙ ap (translated by) (acts n below (point v.0)));
        into = λ v i.
            let w = h.placed.image.into v (in_from_contains h.piece v i) in
            (w.0, contains_from_in c.cells w.0 w.1, w.2 ∙ ap (translated by) (acts n below (point v)));
        inside = λ w i. contains_from_in p.region w (h.placed.inside w (in_from_contains c.cells w i));
        rises = h.rises;
        useful = elim h.useful [ inl need ↦ inl need | inr fills ↦ inr (fills.0, contains_from_in c.cells fills.0 fills.1, fills.2) ];
      }

  from_turned : IsTurnedPiece p c → IsPlaced p c
  from_turned h =
      let n = to_number (has_name (mirrored_names p) c.name) h.m h.may_turn in
      let sent : (v : Point) → translated h.d (sent_to h.m v) ≡ translated h.d (sent_by n.0 v) =
      λ v. ap (λ (m : IntegerMatrix). translated h.d (sent_to m v)) (sym n.3) ∙ ap (translated h.d) (sym (acts n.0 n.1 v)) in
      record {
        piece = h.piece;
        named = in_from_contains (pieces_of p) (c.name, h.piece) h.named;
        rises = h.rises;
        placed = record {
          symmetry = n.0;
          by = h.d;
          turned = n.2;
          image = record {
            onto = λ w i. let v = h.onto w (contains_from_in c.cells w i) in (v.0, in_from_contains h.piece v.0 v.1, v.2 ∙ sent (point v.0));
            into = λ v i. let w = h.into v (contains_from_in h.piece v i) in (w.0, in_from_contains c.cells w.0 w.1, w.2 ∙ sent (point v));
          };
          inside = λ w i. in_from_contains p.region w (h.inside w (contains_from_in c.cells w i));
        };
        useful = elim h.useful [ inl need ↦ inl need | inr fills ↦ inr (fills.0, in_from_contains c.cells fills.0 fills.1, fills.2) ];
      }

-- ---- a packing

module _ (p : PuzzleValue) (chosen : ChoiceValue → Bool) where
  pub packs_from : IsPacking p chosen → Packs p chosen
  packs_from h = record {
    placed = λ c k. to_turned p c (h.placed c k);
    once = h.once;
    used = λ name i. h.used name (in_from_contains (names_of (pieces_of p)) name i);
    filled = λ v must. let c = h.filled v must in (c.0, c.1, contains_from_in c.0.cells v c.2);
    apart = λ v c d k l i j. h.apart v c d k l (in_from_contains c.cells v i) (in_from_contains d.cells v j);
    ordered = λ c d k l i. h.ordered c d k l (in_from_contains (pairs p) (c.name, d.name) i);
    in_turn = λ m n i. h.in_turn m n (in_from_contains (pairs p) (m, n) i);
  }

  pub packing_from : Packs p chosen → IsPacking p chosen
  packing_from h = record {
    placed = λ c k. from_turned p c (h.placed c k);
    once = h.once;
    used = λ name i. h.used name (contains_from_in (names_of (pieces_of p)) name i);
    filled = λ v must. let c = h.filled v must in (c.0, c.1, in_from_contains c.0.cells v c.2);
    apart = λ v c d k l i j. h.apart v c d k l (contains_from_in c.cells v i) (contains_from_in d.cells v j);
    ordered = λ c d k l i. h.ordered c d k l (contains_from_in (pairs p) (c.name, d.name) i);
    in_turn = λ m n i. h.in_turn m n (contains_from_in (pairs p) (m, n) i);
  }
