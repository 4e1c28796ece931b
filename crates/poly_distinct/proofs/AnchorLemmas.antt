-- Each packing is alike to one whose choice at an anchor is left in.
use Rattle.std.proofs.Common.{◌≡◌, ℕ, true, false, not, List, [], ◌∷◌, map, inl, inr, refl, sym, ap, subst, subst₂, ◌∙◌, Ordering, Less, Equal, Greater, eqb-true, eq-eqb}
use Rattle.std.specs.List.{flat_map}
use Rattle.std.specs.Ordering.{is_lt}
use Rattle.std.specs.Cmp.{IsTotalOrder}
use Rattle.std.proofs.lemmas.Bool.{cases_Bool, both_ways, true≢false, false_from_ne_true, not_from_false, or_left, or_right}
use Rattle.poly_cells.specs.Coordinates.{Coordinates, coordinates_cmp}
use Rattle.poly_cells.specs.Sets.{IsIn}
use Rattle.poly_cells.proofs.SetLemmas.{cases_order, turned_back, not_both, not_itself, in_map, in_from_map, in_from_order, in_to_order, in_order_rises, same_members}
use Rattle.poly_cells.proofs.MemberLemmas.{all_pass, passes, in_from_flat_map}
use Rattle.poly_cells.proofs.CellTestLemmas.{in_from_has, has_from_in}
use Rattle.poly_cells.proofs.CoordinateLemmas.{coordinates_total, coordinates_exact}
use Rattle.poly_texts.specs.Puzzle.{PuzzleValue, IsPuzzle, pieces_of, equal_names, spare_names, names_of, has_name, is_spare}
use Rattle.poly_texts.proofs.EqualLemmas.{spare_equal}
use Rattle.poly_place.specs.declared.alike.Group.{Group}
use Rattle.poly_place.specs.Placements.{cells_cmp}
use Rattle.poly_place.specs.Packings.{ChoiceValue, is_any, IsPacking, Thing, a_piece, a_cell, a_node}
use Rattle.poly_place.specs.Chosen.{is_among, chosen_by, packing_value}
use Rattle.poly_place.specs.Classes.{AreAlike}
use Rattle.poly_place.specs.Swaps.{AreEqual}
use Rattle.poly_place.specs.ClassCount.{image_in}
use Rattle.poly_place.specs.Forms.{IsKept}
use Rattle.poly_distinct.specs.Distinct.{IsPath, IsMoved, image_of, CarriesPieces, is_at, IsAnchor, KeepsThing, AreAllowed, is_least, is_left_in}
use Rattle.poly_place.proofs.PlacedLemmas.{has_shapes}
use Rattle.poly_place.proofs.OrderLemmas.{cells_total}
use Rattle.poly_place.proofs.DistinctLemmas.{in_from_name}
use Rattle.poly_place.proofs.StandLemmas.{needed_single}
use Rattle.poly_place.proofs.ChosenLemmas.{cover_packs, in_from_among, among_from_in}
use Rattle.poly_distinct.proofs.ImagePackingLemmas.{in_image, from_image, tells, stays}
use Rattle.poly_distinct.proofs.MovedCoverLemmas.{inside_of, moved_path, moved_alike}

-- ---- the least of several

is_less : (o : Ordering) → is_lt o ≡ true → o ≡ Less
is_less Less h = refl
is_less Equal h = cc
is_less Greater h = cc

below : {K : Type 0} {R : K → K → Ordering} → IsTotalOrder R → (a b c : K) → is_lt (R a b) ≡ false → R a c ≡ Less → is_lt (R b c) ≡ true
below {K} {R} t a b c h l =
    elim (cases_order (R a b)) [
      | inl k ↦ absurd (true≢false (sym (ap is_lt k) ∙ h))
      | inr r ↦ elim r [ inl e ↦ ap is_lt (sym (t.congr a b c e) ∙ l) | inr g ↦ ap is_lt (t.trans b a c (turned_back t a b g) l) ]
    ]

-- one of these is such that none is lower
none_lower : {X K : Type 0} {R : K → K → Ordering} → IsTotalOrder R → (f : X → K) (x : X) (xs : List X) → (y : X) × IsIn y (x ∷ xs) × ((z : X) → IsIn z (x ∷ xs) → is_lt (R (f z) (f y)) ≡ false)
none_lower {X} {K} {R} t f x [] = (x, inl refl, λ z i. elim i [ inl e ↦ false_from_ne_true _ (λ h. not_itself t (f x) (subst (λ (u : X). R (f u) (f x) ≡ Less) e (is_less _ h))) | inr r ↦ absurd r ])
none_lower {X} {K} {R} t f x (w ∷ ws) =
    let r = none_lower t f w ws in
    elim (cases_Bool (is_lt (R (f r.0) (f x)))) [
      | inl less ↦ (
        r.0,
        inr r.1,
        λ z i. elim i [
          | inl e ↦ subst (λ (u : X). is_lt (R (f u) (f r.0)) ≡ false) (sym e) (false_from_ne_true _ (λ h. not_both t (f r.0) (f x) (is_less _ less) (is_less _ h)))
          | inr j ↦ r.2 z j
        ],
      )
      | inr more ↦ (
        x,
        inl refl,
        λ z i. elim i [
          | inl e ↦ subst (λ (u : X). is_lt (R (f u) (f x)) ≡ false) (sym e) (false_from_ne_true _ (λ h. not_itself t (f x) (is_less _ h)))
          | inr j ↦ false_from_ne_true _ (λ h. both_ways (is_lt (R (f r.0) (f x))) more (below t (f z) (f r.0) (f x) (r.2 z j) (is_less _ h)))
        ],
      )
    ]

-- ---- images of images

pub image_twice : (region : List Coordinates) (a b c : ℕ) (cells : List Coordinates) → ((v : Coordinates) → IsIn v cells → image_in region c v ≡ image_in region a (image_in region b v))
    → image_of region a (image_of region b cells) ≡ image_of region c cells
image_twice region a b c cells e =
    same_members coordinates_total (image_of region a (image_of region b cells)) (image_of region c cells) (in_order_rises coordinates_total _) (in_order_rises coordinates_total _)
    (λ w i.
    let v = in_from_map (image_in region a) w (image_of region b cells) (in_from_order coordinates_cmp w _ i) in
    let u = in_from_map (image_in region b) v.0 cells (in_from_order coordinates_cmp v.0 _ v.1) in
    in_to_order coordinates_exact w (map (image_in region c) cells)
    (subst (λ (x : Coordinates). IsIn x (map (image_in region c) cells)) (e u.0 u.1 ∙ ap (image_in region a) (sym u.2) ∙ sym v.2) (in_map (image_in region c) u.0 cells u.1)))
    (λ w i.
    let u = in_from_map (image_in region c) w cells (in_from_order coordinates_cmp w _ i) in
    in_to_order coordinates_exact w (map (image_in region a) (image_of region b cells))
    (subst (λ (x : Coordinates). IsIn x (map (image_in region a) (image_of region b cells))) (sym (e u.0 u.1) ∙ sym u.2)
    (in_map (image_in region a) (image_in region b u.0) (image_of region b cells) (in_to_order coordinates_exact (image_in region b u.0) (map (image_in region b) cells) (in_map (image_in region b) u.0 cells u.1)))))

-- ---- the choice at an anchor

module _ (p : PuzzleValue) (z : IsPuzzle p) where
  -- a piece without an equal one isn't spare
  not_spare : (name : ℕ) → ((group : List ℕ) → IsIn group (equal_names p) → IsIn name group → ⊥) → is_spare p name ≡ false
  not_spare name alone =
      false_from_ne_true (is_spare p name) (λ h.
      let there = passes (has_name (flat_map (λ (group : List ℕ). group) (equal_names p))) (spare_names p) (spare_equal p z) name (in_from_name (spare_names p) name h) in
      let g = in_from_flat_map (λ (group : List ℕ). group) name (equal_names p) (in_from_name (flat_map (λ (group : List ℕ). group) (equal_names p)) name there) in
      alone g.0 g.1 g.2)

  -- a packing has a choice at the anchor
  pub anchor_in : (t : Thing) → IsAnchor p t → (cs : List ChoiceValue) → IsPacking p (is_among cs) → (c : ChoiceValue) × IsIn c cs × (is_at t c ≡ true)
  anchor_in (a_piece name) a cs k = let c = k.used name a.0 a.1 (not_spare name a.2) in (c.0, in_from_among cs c.0 c.1, eq-eqb c.0.name name c.2)
  anchor_in (a_cell v) a cs k = let c = k.filled v a in (c.0, in_from_among cs c.0 c.1, has_from_in c.0.cells v c.2)
  anchor_in (a_node name h) a cs k = absurd a

  -- and no other
  pub anchor_once : (t : Thing) → IsAnchor p t → (cs : List ChoiceValue) → IsPacking p (is_among cs) → (c d : ChoiceValue) → IsIn c cs → IsIn d cs → is_at t c ≡ true → is_at t d ≡ true → c ≡ d
  anchor_once (a_piece name) a cs k c d i j m n =
      let e = eqb-true c.name name m in
      let f = eqb-true d.name name n in
      k.once c d (among_from_in cs c i) (among_from_in cs d j) (ap (is_any p) e ∙ needed_single p name a.1) (e ∙ sym f)
  anchor_once (a_cell v) a cs k c d i j m n = k.apart v c d (among_from_in cs c i) (among_from_in cs d j) (in_from_has c.cells v m) (in_from_has d.cells v n)
  anchor_once (a_node name h) a cs k c d i j m n = absurd a

  module _ (group : Group) (n : ℕ) (q r : List ℕ) (e : IsPath p q) (f : IsPath p r) where
    named : (c : ChoiceValue) → IsIn c (chosen_by p q) → IsIn c.name (names_of (pieces_of p))
    named c i = let h = (cover_packs p z q e).placed c (among_from_in (chosen_by p q) c i) in in_map (λ (m : ℕ × List Coordinates). m.0) (c.name, h.piece) (pieces_of p) h.named

    -- what is brought to the anchor comes from it
    comes_from_anchor : (t : Thing) → IsAnchor p t → (k : IsKept group p.region p.maybe_cells n) (s : ℕ → ℕ) → CarriesPieces p s n → KeepsThing p s n t
        → (c d : ChoiceValue) → IsIn c (chosen_by p q) → d.cells ≡ image_of p.region n c.cells → AreEqual p d.name (s c.name) → is_at t d ≡ true → is_at t c ≡ true
    comes_from_anchor (a_piece name) a k s keeps fixed c d i cells equal at =
        let here = eqb-true d.name name at in
        let same : d.name ≡ s c.name = elim equal [ inl g ↦ g | inr g ↦ absurd (a.2 g.0 g.1 (subst (λ (m : ℕ). IsIn m g.0) here g.2)) ] in
        eq-eqb c.name name (keeps.apart c.name name (named c i) a.0 (sym same ∙ here ∙ sym fixed))
    comes_from_anchor (a_cell v) a k s keeps fixed c d i cells equal at =
        let region = (has_shapes p z).region in
        let u = from_image group p.region p.maybe_cells n region k v c.cells (subst (λ (us : List Coordinates). IsIn v us) cells (in_from_has d.cells v at)) in
        let inside = inside_of p z r f d in
        let c_in = inside_of p z q e c i u.0 u.1 in
        let v_in : IsIn v p.region = subst (λ (x : Coordinates). IsIn x p.region) (sym u.2) (stays group p.region p.maybe_cells n region k u.0 c_in) in
        has_from_in c.cells v (subst (λ (x : Coordinates). IsIn x c.cells) (tells group p.region p.maybe_cells n region k u.0 v c_in v_in (sym u.2 ∙ sym fixed)) u.1)
    comes_from_anchor (a_node name h) a k s keeps fixed c d i cells equal at = absurd a

  -- what comes from the anchor is brought to it
  pub goes_to_anchor : (group : Group) (n : ℕ) (t : Thing) → IsAnchor p t → (k : IsKept group p.region p.maybe_cells n) (s : ℕ → ℕ) → KeepsThing p s n t
      → (c d : ChoiceValue) → d.cells ≡ image_of p.region n c.cells → AreEqual p (s c.name) d.name → is_at t c ≡ true → is_at t d ≡ true
  goes_to_anchor group n (a_piece name) a k s fixed c d cells equal at =
      let here = ap s (eqb-true c.name name at) ∙ fixed in
      eq-eqb d.name name (elim equal [ inl g ↦ sym g ∙ here | inr g ↦ absurd (a.2 g.0 g.1 (subst (λ (m : ℕ). IsIn m g.0) here g.2)) ])
  goes_to_anchor group n (a_cell v) a k s fixed c d cells equal at =
      has_from_in d.cells v (subst (λ (us : List Coordinates). IsIn v us) (sym cells)
      (subst (λ (u : Coordinates). IsIn u (image_of p.region n c.cells)) fixed (in_image group p.region p.maybe_cells n (has_shapes p z).region k v c.cells (in_from_has c.cells v at))))
  goes_to_anchor group n (a_node name h) a k s fixed c d cells equal at = absurd a

  -- where a symmetry brings the cells at the anchor to the least ones, all choices of what it brings the packing to are left in
  pub left_there : (group : Group) (t : Thing) (ns : List ℕ) → IsAnchor p t → (allowed : AreAllowed p group t ns) (q : List ℕ) → IsPath p q → (part : ChoiceValue) → IsIn part (chosen_by p q) → is_at t part ≡ true
      → (n : ℕ) (i : IsIn n ns) → ((m : ℕ) → IsIn m ns → is_lt (cells_cmp (image_of p.region m part.cells) (image_of p.region n part.cells)) ≡ false)
      → (r : List ℕ) → IsPath p r → IsMoved p (allowed.each n i).names n q r → (c : ChoiceValue) → IsIn c (chosen_by p r) → is_left_in p t ns c ≡ true
  left_there group t ns a allowed q e part part_in part_at n member least r f moved d j =
      let ok = allowed.each n member in
      elim (cases_Bool (is_at t d)) [
        | inr off ↦ or_left (not (is_at t d)) (is_least p.region ns d.cells) (not_from_false (is_at t d) off)
        | inl at ↦
            let c = moved.back d j in
            let here = comes_from_anchor group n q r e f t a ok.kept ok.names ok.pieces ok.thing c.0 d c.1 c.2 c.3 at in
            let one : c.0 ≡ part = anchor_once t a (chosen_by p q) (cover_packs p z q e) c.0 part c.1 part_in here part_at in
            let is : d.cells ≡ image_of p.region n part.cells = c.2 ∙ ap (λ (b : ChoiceValue). image_of p.region n b.cells) one in
            or_right (not (is_at t d)) (is_least p.region ns d.cells)
            (all_pass (λ m. not (is_lt (cells_cmp (image_of p.region m d.cells) d.cells))) ns (λ m l.
            let both = allowed.composed m n l member in
            let twice = image_twice p.region m n both.0 part.cells (λ v h. both.2 v (inside_of p z q e part part_in v h)) in
            not_from_false _ (subst₂ (λ (us ws : List Coordinates). is_lt (cells_cmp us ws) ≡ false) (sym (ap (image_of p.region m) is ∙ twice)) (sym is) (least both.0 both.1))))
      ]

  -- some symmetry of a list that isn't empty brings the cells to the least ones
  pub brings_least : (ns : List ℕ) (cells : List Coordinates) → IsIn 0 ns
      → (n : ℕ) × IsIn n ns × ((m : ℕ) → IsIn m ns → is_lt (cells_cmp (image_of p.region m cells) (image_of p.region n cells)) ≡ false)
  brings_least [] cells i = absurd i
  brings_least (x ∷ xs) cells i = none_lower cells_total (λ (m : ℕ). image_of p.region m cells) x xs

  -- each packing is alike to one all of whose choices are left in
  pub met : (group : Group) (t : Thing) (ns : List ℕ) → IsAnchor p t → AreAllowed p group t ns → (q : List ℕ) → IsPath p q
      → (r : List ℕ) × IsPath p r × ((c : ChoiceValue) → IsIn c (chosen_by p r) → is_left_in p t ns c ≡ true) × AreAlike group (packing_value p q) (packing_value p r)
  met group t ns a allowed q e =
      let part = anchor_in t a (chosen_by p q) (cover_packs p z q e) in
      let n = brings_least ns part.0.cells allowed.neutral in
      let ok = allowed.each n.0 n.1 in
      let r = moved_path p z group n.0 ok.kept ok.names ok.pieces q e in
      (r.0, r.1, left_there group t ns a allowed q e part.0 part.1 part.2 n.0 n.1 n.2 r.0 r.1 r.2, moved_alike p z group n.0 ok.kept ok.names ok.pieces q e r.0 r.1 r.2)
