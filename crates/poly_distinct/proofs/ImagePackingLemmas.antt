-- The images of a packing's choices under a symmetry that keeps the region, its optional cells and the pieces are a packing, where all
-- pieces are told apart.
use Rattle.std.proofs.Common.{◌≡◌, ℕ, Bool, true, false, not, ◌&&◌, List, map, inl, inr, sym, ap, ap₂, subst, ◌∙◌}
use Rattle.std.proofs.lemmas.Bool.{and_parts}
use Rattle.poly_cells.specs.Coordinates.{Coordinates, coordinates_cmp}
use Rattle.poly_cells.specs.Sets.{IsIn}
use Rattle.poly_cells.specs.Shapes.{IsShape}
use Rattle.poly_cells.specs.CellTests.{has_cell}
use Rattle.poly_cells.proofs.SetLemmas.{in_map, in_from_map, in_from_order, in_to_order, in_order_rises}
use Rattle.poly_cells.proofs.CoordinateLemmas.{coordinates_total, coordinates_exact}
use Rattle.poly_texts.specs.Puzzle.{PuzzleValue, IsPuzzle, pieces_of, names_of, is_needed, is_spare}
use Rattle.poly_place.specs.declared.alike.Group.{Group}
use Rattle.poly_place.specs.Packings.{ChoiceValue, is_any, must_fill, IsPlaced}
use Rattle.poly_place.specs.Chosen.{is_among}
use Rattle.poly_place.specs.Swaps.{IsApart}
use Rattle.poly_place.specs.ClassCount.{image_in}
use Rattle.poly_place.specs.Forms.{IsKept}
use Rattle.poly_distinct.specs.Distinct.{image_of, CarriesPieces, image_choice, image_choices}
use Rattle.poly_place.proofs.PlacedLemmas.{has_shapes}
use Rattle.poly_place.proofs.ChosenLemmas.{in_from_among, among_from_in}
use Rattle.poly_place.proofs.CarryLemmas.{kept_stays, kept_inverse, maps_at}
use Rattle.poly_cells.proofs.CellTestLemmas.{in_from_has, has_from_in}

-- ---- a symmetry that is kept, on the region

module _ (group : Group) (vs ms : List Coordinates) (n : ℕ) (s : IsShape vs) (k : IsKept group vs ms n) where
  pub stays : (v : Coordinates) → IsIn v vs → IsIn (image_in vs n v) vs
  stays v i = kept_stays group vs ms n s k v i

  pub same_marks : (v : Coordinates) → IsIn v vs → has_cell ms (image_in vs n v) ≡ has_cell ms v
  same_marks v i = maps_at (has_cell ms) (image_in vs n) (has_cell ms) vs k.optional v i

  -- where a cell comes from
  pub comes_from : (v : Coordinates) → IsIn v vs → (u : Coordinates) × IsIn u vs × (image_in vs n u ≡ v)
  comes_from v i = let c = kept_inverse group vs ms n s k in (image_in vs c.0 v, kept_stays group vs ms c.0 s c.1 v i, c.2 v i)

  -- two cells aren't brought to one
  pub tells : (v w : Coordinates) → IsIn v vs → IsIn w vs → image_in vs n v ≡ image_in vs n w → v ≡ w
  tells v w i j e = sym (back v i) ∙ ap (image_in vs (kept_inverse group vs ms n s k).0) e ∙ back w j
    where
      back : (v : Coordinates) → IsIn v vs → image_in vs (kept_inverse group vs ms n s k).0 (image_in vs n v) ≡ v
      back v i =
          let c = kept_inverse group vs ms n s k in
          let d = kept_inverse group vs ms c.0 s c.1 in
          -- d does what n does
          let same : image_in vs d.0 v ≡ image_in vs n v = sym (c.2 (image_in vs d.0 v) (kept_stays group vs ms d.0 s d.1 v i)) ∙ ap (image_in vs n) (d.2 v i) in
          ap (image_in vs c.0) (sym same) ∙ d.2 v i

  pub in_image : (v : Coordinates) (cells : List Coordinates) → IsIn v cells → IsIn (image_in vs n v) (image_of vs n cells)
  in_image v cells i = in_to_order coordinates_exact (image_in vs n v) (map (image_in vs n) cells) (in_map (image_in vs n) v cells i)

  pub from_image : (w : Coordinates) (cells : List Coordinates) → IsIn w (image_of vs n cells) → (v : Coordinates) × IsIn v cells × (w ≡ image_in vs n v)
  from_image w cells i = in_from_map (image_in vs n) w cells (in_from_order coordinates_cmp w (map (image_in vs n) cells) i)

-- ---- the images of a packing

module _ (p : PuzzleValue) (z : IsPuzzle p) (group : Group) (n : ℕ) (k : IsKept group p.region p.maybe_cells n) (s : ℕ → ℕ) (keeps : CarriesPieces p s n) where
  shape : IsShape p.region
  shape = (has_shapes p z).region

  filled_there : (v : Coordinates) → IsIn v p.region → must_fill p (image_in p.region n v) ≡ must_fill p v
  filled_there v i =
      ap₂ (λ (a b : Bool). a && not b)
      (has_from_in p.region (image_in p.region n v) (stays group p.region p.maybe_cells n shape k v i) ∙ sym (has_from_in p.region v i))
      (same_marks group p.region p.maybe_cells n shape k v i)

  filled_inside : (v : Coordinates) → must_fill p v ≡ true → IsIn v p.region
  filled_inside v h = in_from_has p.region v (and_parts (has_cell p.region v) (not (has_cell p.maybe_cells v)) h).0

  named : (c : ChoiceValue) → IsPlaced p c → IsIn c.name (names_of (pieces_of p))
  named c h = in_map (λ (m : ℕ × List Coordinates). m.0) (c.name, h.piece) (pieces_of p) h.named

  placed_there : (c : ChoiceValue) → IsPlaced p c → IsPlaced p (image_choice p s n c)
  placed_there c h =
      let there = keeps.placed c.name h.piece c.cells h.named h.placed in
      record {
        piece = there.0;
        named = there.1;
        rises = in_order_rises coordinates_total (map (image_in p.region n) c.cells);
        placed = there.2;
        useful = elim h.useful [
          | inl e ↦ inl (keeps.needed c.name (named c h) ∙ e)
          | inr v ↦ inr (image_in p.region n v.0, in_image group p.region p.maybe_cells n shape k v.0 c.cells v.1, filled_there v.0 (h.placed.inside v.0 v.1) ∙ v.2)
        ];
      }

  module _ (cs : List ChoiceValue) (a : IsApart p (is_among cs)) where
    from : (c : ChoiceValue) → is_among (image_choices p s n cs) c ≡ true → (d : ChoiceValue) × (is_among cs d ≡ true) × (c ≡ image_choice p s n d)
    from c h = let d = in_from_map (image_choice p s n) c cs (in_from_among (image_choices p s n cs) c h) in (d.0, among_from_in cs d.0 d.1, d.2)

    to : (d : ChoiceValue) → is_among cs d ≡ true → is_among (image_choices p s n cs) (image_choice p s n d) ≡ true
    to d h = among_from_in (image_choices p s n cs) (image_choice p s n d) (in_map (image_choice p s n) d cs (in_from_among cs d h))

    pub images_pack : IsApart p (is_among (image_choices p s n cs))
    images_pack = record {
      placed = λ c h. let d = from c h in subst (λ (e : ChoiceValue). IsPlaced p e) (sym d.2) (placed_there d.0 (a.placed d.0 d.1));
      once = λ c d h g single same.
          let e = from c h in
          let f = from d g in
          let one = named e.0 (a.placed e.0 e.1) in
          let two = named f.0 (a.placed f.0 f.1) in
          let names : s e.0.name ≡ s f.0.name = sym (ap (λ (x : ChoiceValue). x.name) e.2) ∙ same ∙ ap (λ (x : ChoiceValue). x.name) f.2 in
          let plain : is_any p e.0.name ≡ false = sym (keeps.any e.0.name one) ∙ ap (λ (x : ChoiceValue). is_any p x.name) (sym e.2) ∙ single in
          e.2 ∙ ap (image_choice p s n) (a.once e.0 f.0 e.1 f.1 plain (keeps.apart e.0.name f.0.name one two names)) ∙ sym f.2;
      used = λ name i needed sure.
          let m = keeps.onto name i in
          let c = a.used m.0 m.1 (sym (keeps.needed m.0 m.1) ∙ ap (is_needed p) m.2 ∙ needed) (sym (keeps.spare m.0 m.1) ∙ ap (is_spare p) m.2 ∙ sure) in
          (image_choice p s n c.0, to c.0 c.1, ap s c.2 ∙ m.2);
      filled = λ v h.
          let u = comes_from group p.region p.maybe_cells n shape k v (filled_inside v h) in
          let c = a.filled u.0 (sym (filled_there u.0 u.1) ∙ ap (must_fill p) u.2 ∙ h) in
          (image_choice p s n c.0, to c.0 c.1, subst (λ (w : Coordinates). IsIn w (image_of p.region n c.0.cells)) u.2 (in_image group p.region p.maybe_cells n shape k u.0 c.0.cells c.2));
      apart = λ v c d h g i j.
          let e = from c h in
          let f = from d g in
          let x = from_image group p.region p.maybe_cells n shape k v e.0.cells (subst (λ (b : ChoiceValue). IsIn v b.cells) e.2 i) in
          let y = from_image group p.region p.maybe_cells n shape k v f.0.cells (subst (λ (b : ChoiceValue). IsIn v b.cells) f.2 j) in
          let same = tells group p.region p.maybe_cells n shape k x.0 y.0 ((a.placed e.0 e.1).placed.inside x.0 x.1) ((a.placed f.0 f.1).placed.inside y.0 y.1) (sym x.2 ∙ y.2) in
          e.2 ∙ ap (image_choice p s n) (a.apart x.0 e.0 f.0 e.1 f.1 x.1 (subst (λ (w : Coordinates). IsIn w f.0.cells) (sym same) y.1)) ∙ sym f.2;
      ordered = λ c d h g i. absurd i;
      in_turn = λ m l i u. absurd i;
    }
