-- Where other pieces differ, packings are alike exactly where a symmetry carries each piece of one onto the piece with its name or an equal
-- one of the other.
use Rattle.std.proofs.Common.{◌≡◌, ℕ, ◌<◌, true, false, List, [], ◌∷◌, inl, inr, refl, sym, ap, ap₂, subst, ◌∙◌}
use Rattle.std.specs.Cmp.{both_ways as same_tests}
use Rattle.poly_cells.specs.Coordinates.{Coordinates}
use Rattle.poly_cells.specs.Points.{Point, point, translated}
use Rattle.poly_cells.specs.Symmetries.{sent_by}
use Rattle.poly_cells.specs.Products.{composed, inverse_of}
use Rattle.poly_cells.specs.Sets.{IsIn}
use Rattle.poly_cells.specs.Images.{IsImage}
use Rattle.poly_cells.proofs.MemberLemmas.{in_from_range}
use Rattle.poly_cells.proofs.ImageLemmas.{point_same}
use Rattle.poly_cells.proofs.GroupLemmas.{rotation_from_in}
use Rattle.poly_cells.proofs.SymmetryTables.{composed_in, is_composed, inverse_in, undone_before}
use Rattle.poly_texts.specs.Puzzle.{PuzzleValue, IsPuzzle}
use Rattle.poly_place.specs.declared.alike.Group.{Group}
use Rattle.poly_place.specs.declared.alike.Group.TheVariants.{Rotations, Symmetries}
use Rattle.poly_place.specs.Placements.{turns_by}
use Rattle.poly_place.specs.Packings.{ChoiceValue, choice_with, first_cell, is_any, turning_group, IsPlaced}
use Rattle.poly_place.specs.Chosen.{is_among}
use Rattle.poly_place.specs.Swaps.{IsApart, AreEqual, IsSwap}
use Rattle.poly_place.specs.Classes.{IsSent, is_empty_cell, same_part, Carries, AreAlike}
use Rattle.poly_place.specs.Labelled.{packing_with, ThenSwaps, CarriesNames, AreAlikeByName, OthersDiffer, AlikeByNameThenSwaps, ClassesAreLabelledByName}
use Rattle.poly_place.proofs.PlacedLemmas.{has_shapes}
use Rattle.poly_place.proofs.StandLemmas.{least_in}
use Rattle.poly_place.proofs.LaidLemmas.{moved_to}
use Rattle.poly_place.proofs.CarryLemmas.{minus, undone, image_composed, image_undone}
use Rattle.poly_place.proofs.PartLemmas.{HaveOne, AreApart, one_of_part, part_of_one, not_empty, empty_if, parts_if, one_part, some_or_none}
use Rattle.poly_place.proofs.ChosenLemmas.{in_from_among, among_from_in}
use Rattle.poly_place.proofs.LabelledLemmas.{lists_apart, from_swaps, counted_by}

-- ---- images

-- cells that a symmetry and a translation bring to one cell are one
one_source : (n : ℕ) (d : Point) (u v : Coordinates) → n < 48 → translated d (sent_by n (point u)) ≡ translated d (sent_by n (point v)) → u ≡ v
one_source n d u v l e =
    let c = inverse_of n in
    let is = undone_before n l in
    point_same u v (sym (undone n c is d (point u)) ∙ ap (λ (p : Point). translated (sent_by c (minus d)) (sent_by c p)) e ∙ undone n c is d (point v))

turn_low : (group : Group) (n : ℕ) → IsIn n (turns_by group) → n < 48
turn_low Rotations n i = (rotation_from_in n i).0
turn_low Symmetries n i = in_from_range n 0 48 i

-- a piece is brought to the piece that lies on the image of its placement
piece_image : (p : PuzzleValue) (c e : ChoiceValue) (n : ℕ) (d : Point) (h : IsPlaced p c) (k : IsPlaced p e) → n < 48 → IsImage n d c.cells e.cells
    → (m : ℕ) × (m < 48) × (b : Point) × IsImage m b h.piece k.piece
piece_image p c e n d h k l image =
    let r = h.placed.symmetry in
    let s = k.placed.symmetry in
    let low = turn_low (turning_group p c.name) r h.placed.turned in
    let high = turn_low (turning_group p e.name) s k.placed.turned in
    let to = composed n r in
    let to_low = composed_in n r l low in
    let there = image_composed n r to d h.placed.by h.piece c.cells e.cells (is_composed n r l low) image h.placed.image in
    let b = sent_by (inverse_of s) (minus k.placed.by) in
    let back = image_undone s (inverse_of s) k.placed.by k.piece e.cells (undone_before s high) k.placed.image in
    let all = composed (inverse_of s) to in (
      all,
      composed_in (inverse_of s) to (inverse_in s high) to_low,
      translated b (sent_by (inverse_of s) (translated d (sent_by n h.placed.by))),
      image_composed (inverse_of s) to all b (translated d (sent_by n h.placed.by)) h.piece e.cells k.piece (is_composed (inverse_of s) to (inverse_in s high) to_low) back there,
    )

equal_back : (p : PuzzleValue) (m n : ℕ) → AreEqual p m n → AreEqual p n m
equal_back p m n e = elim e [ inl same ↦ inl (sym same) | inr h ↦ inr (h.0, h.1, h.3, h.2) ]

-- ---- two packings in which the pieces are told apart

module _ (p : PuzzleValue) (z : IsPuzzle p) (cs ds : List ChoiceValue) (k : IsApart p (is_among cs)) (l : IsApart p (is_among ds)) (n : ℕ) (d : Point) (low : n < 48) where
  here_apart : AreApart cs
  here_apart = lists_apart p cs k

  there_apart : AreApart ds
  there_apart = lists_apart p ds l

  here_placed : (c : ChoiceValue) → IsIn c cs → IsPlaced p c
  here_placed c i = k.placed c (among_from_in cs c i)

  there_placed : (e : ChoiceValue) → IsIn e ds → IsPlaced p e
  there_placed e i = l.placed e (among_from_in ds e i)

  -- a cell of each choice
  here_some : (c : ChoiceValue) → IsIn c cs → IsIn (first_cell c.cells) c.cells
  here_some c i = least_in p (has_shapes p z) c (here_placed c i)

  there_some : (e : ChoiceValue) → IsIn e ds → IsIn (first_cell e.cells) e.cells
  there_some e i = least_in p (has_shapes p z) e (there_placed e i)

  -- the choices on the images of one choice are one
  one_image : (c b e f : ChoiceValue) → IsIn c cs → c ≡ b → IsIn e ds → IsIn f ds → IsImage n d c.cells e.cells → IsImage n d b.cells f.cells → e ≡ f
  one_image c b e f i same j g x y =
      let v = here_some c i in
      let w = x.into (first_cell c.cells) v in
      let u = y.into (first_cell c.cells) (subst (λ (a : ChoiceValue). IsIn (first_cell c.cells) a.cells) same v) in
      there_apart w.0 e f j g w.1 (subst (λ (a : Coordinates). IsIn a f.cells) (point_same u.0 w.0 (u.2 ∙ sym w.2)) u.1)

  -- and so are those of which one choice is the image
  one_origin : (c b e f : ChoiceValue) → IsIn c cs → IsIn b cs → IsIn e ds → e ≡ f → IsImage n d c.cells e.cells → IsImage n d b.cells f.cells → c ≡ b
  one_origin c b e f i j g same x y =
      let w = there_some e g in
      let v = x.onto (first_cell e.cells) w in
      let u = y.onto (first_cell e.cells) (subst (λ (a : ChoiceValue). IsIn (first_cell e.cells) a.cells) same w) in
      here_apart v.0 c b i j v.1 (subst (λ (a : Coordinates). IsIn a b.cells) (one_source n d u.0 v.0 low (sym u.2 ∙ v.2)) u.1)

  -- ---- carried by name

  module _ (by : CarriesNames n d (packing_with p cs) (packing_with p ds)) where
    have_there : (v w x y : Coordinates) → IsSent n d v x → IsSent n d w y → HaveOne cs v w → HaveOne ds x y
    have_there v w x y s t h =
        let e = by.forth h.0 h.1 in
        let u = e.3.into v h.2 in
        let a = e.3.into w h.3 in (
          e.0,
          e.1,
          subst (λ (b : Coordinates). IsIn b e.0.cells) (point_same u.0 x (u.2 ∙ sym s)) u.1,
          subst (λ (b : Coordinates). IsIn b e.0.cells) (point_same a.0 y (a.2 ∙ sym t)) a.1,
        )

    have_here : (v w x y : Coordinates) → IsSent n d v x → IsSent n d w y → HaveOne ds x y → HaveOne cs v w
    have_here v w x y s t h =
        let c = by.back h.0 h.1 in
        let u = c.3.onto x h.2 in
        let a = c.3.onto y h.3 in (
          c.0,
          c.1,
          subst (λ (b : Coordinates). IsIn b c.0.cells) (one_source n d u.0 v low (sym u.2 ∙ s)) u.1,
          subst (λ (b : Coordinates). IsIn b c.0.cells) (one_source n d a.0 w low (sym a.2 ∙ t)) a.1,
        )

    empty_there : (v x : Coordinates) → IsSent n d v x → is_empty_cell cs v ≡ true → is_empty_cell ds x ≡ true
    empty_there v x s e = empty_if ds cs x v (have_here v v x x s s) e

    empty_here : (v x : Coordinates) → IsSent n d v x → is_empty_cell ds x ≡ true → is_empty_cell cs v ≡ true
    empty_here v x s e = empty_if cs ds v x (have_there v v x x s s) e

    carries_cells : Carries n d (packing_with p cs) (packing_with p ds)
    carries_cells = record {
      region = by.region;
      optional = by.optional;
      empty = λ v w i s. same_tests (is_empty_cell cs v) (is_empty_cell ds w) (empty_there v w s) (empty_here v w s);
      parts = λ v w x y i j s t.
          same_tests (same_part cs v w) (same_part ds x y)
          (parts_if cs ds v w x y there_apart (have_there v w x y s t) (empty_there v x s) (empty_there w y t))
          (parts_if ds cs x y v w here_apart (have_here v w x y s t) (empty_here v x s) (empty_here w y t));
    }

  -- ---- carried cell by cell

  module _ (h : Carries n d (packing_with p cs) (packing_with p ds)) where
    inside : (c : ChoiceValue) → IsIn c cs → (v : Coordinates) → IsIn v c.cells → IsIn v p.region
    inside c i = (here_placed c i).placed.inside

    -- the choice that has the image of one cell of another has the images of all its cells
    on_image : (c e : ChoiceValue) → IsIn c cs → IsIn e ds → (v w : Coordinates) → IsIn v c.cells → IsIn w e.cells → IsSent n d v w → IsImage n d c.cells e.cells
    on_image c e i j v w here there s = record {
      into = λ u k.
          let x = h.region.into u (inside c i u k) in
          let same = sym (h.parts v u w x.0 (inside c i v here) (inside c i u k) s x.2) ∙ part_of_one cs v u here_apart (c, i, here, k) in
          let f = one_of_part ds w x.0 same (not_empty ds w e j there) in
          (x.0, subst (λ (b : ChoiceValue). IsIn x.0 b.cells) (there_apart w f.0 e f.1 j f.2 there) f.3, x.2);
      onto = λ x k.
          let u = h.region.onto x ((there_placed e j).placed.inside x k) in
          let same = h.parts v u.0 w x (inside c i v here) u.1 s u.2 ∙ part_of_one ds w x there_apart (e, j, there, k) in
          let b = one_of_part cs v u.0 same (not_empty cs v c i here) in
          (u.0, subst (λ (a : ChoiceValue). IsIn u.0 a.cells) (here_apart v b.0 c b.1 i b.2 here) b.3, u.2);
    }

    -- a choice of the other packing lies on the image of each choice
    target : (c : ChoiceValue) → IsIn c cs → (e : ChoiceValue) × IsIn e ds × IsImage n d c.cells e.cells
    target c i =
        let v = first_cell c.cells in
        let here = here_some c i in
        let w = h.region.into v (inside c i v here) in
        let some = sym (h.empty v w.0 (inside c i v here) w.2) ∙ not_empty cs v c i here in
        let e = one_part ds w.0 w.0 refl (some_or_none _ some) in
        (e.0, e.1, on_image c e.0 i e.1 v w.0 here e.2 w.2)

    -- and each choice of the other packing lies on the image of one
    origin : (e : ChoiceValue) → IsIn e ds → (c : ChoiceValue) × IsIn c cs × IsImage n d c.cells e.cells
    origin e i =
        let w = first_cell e.cells in
        let there = there_some e i in
        let v = h.region.onto w ((there_placed e i).placed.inside w there) in
        let some = h.empty v.0 w v.1 v.2 ∙ not_empty ds w e i there in
        let c = one_part cs v.0 v.0 refl (some_or_none _ some) in
        (c.0, c.1, on_image c.0 e c.1 i v.0 w c.2 there v.2)

    -- the pieces of the one packing, each on the image of its cells
    abbrev carried : (xs : List ChoiceValue) → ((c : ChoiceValue) → IsIn c xs → IsIn c cs) → List ChoiceValue
    carried [] g = []
    carried (c ∷ xs) g = choice_with c.name (target c (g c (inl refl))).0.cells ∷ carried xs (λ b i. g b (inr i))

    between : List ChoiceValue
    between = carried cs (λ c i. i)

    record IsCarried (b : ChoiceValue) : Type 0 where
      pub from : ChoiceValue
      pub here : IsIn from cs
      pub to : ChoiceValue
      pub there : IsIn to ds
      pub is : b ≡ choice_with from.name to.cells
      pub image : IsImage n d from.cells to.cells

    from_carried : (xs : List ChoiceValue) (g : (c : ChoiceValue) → IsIn c xs → IsIn c cs) (b : ChoiceValue) → IsIn b (carried xs g) → IsCarried b
    from_carried [] g b i = absurd i
    from_carried (c ∷ xs) g b i =
        elim i [
          | inl e ↦
              let t = target c (g c (inl refl)) in
              record { from = c; here = g c (inl refl); to = t.0; there = t.1; is = e; image = t.2 }
          | inr r ↦ from_carried xs (λ a j. g a (inr j)) b r
        ]

    to_carried : (xs : List ChoiceValue) (g : (c : ChoiceValue) → IsIn c xs → IsIn c cs) (c : ChoiceValue) → IsIn c xs
        → (e : ChoiceValue) × IsIn e ds × IsImage n d c.cells e.cells × IsIn (choice_with c.name e.cells) (carried xs g)
    to_carried [] g c i = absurd i
    to_carried (x ∷ xs) g c i =
        elim i [
          | inl e ↦
              let t = target x (g x (inl refl)) in
              (t.0, t.1, subst (λ (a : ChoiceValue). IsImage n d a.cells t.0.cells) (sym e) t.2, inl (ap (λ (a : ChoiceValue). choice_with a.name t.0.cells) e))
          | inr r ↦ let t = to_carried xs (λ a j. g a (inr j)) c r in (t.0, t.1, t.2, inr t.3)
        ]

    in_between : (b : ChoiceValue) → IsIn b between → IsCarried b
    unfolding between
    in_between b i = from_carried cs (λ c j. j) b i

    to_between : (c : ChoiceValue) → IsIn c cs → (e : ChoiceValue) × IsIn e ds × IsImage n d c.cells e.cells × IsIn (choice_with c.name e.cells) between
    unfolding between
    to_between c i = to_carried cs (λ b j. j) c i

    -- two of them are one where they come of one choice
    one_carried : (a b : ChoiceValue) (q : IsCarried a) (r : IsCarried b) → q.from ≡ r.from → a ≡ b
    one_carried a b q r e =
        let to = one_image q.from r.from q.to r.to q.here e q.there r.there q.image r.image in
        q.is ∙ ap₂ choice_with (ap (λ (c : ChoiceValue). c.name) e) (ap (λ (c : ChoiceValue). c.cells) to) ∙ sym r.is

    -- ---- it is a packing in which the pieces are told apart

    module _ (differ : OthersDiffer p) where
      -- the pieces of a choice and of the one on its image are equal
      names_equal : (c e : ChoiceValue) → IsIn c cs → IsIn e ds → IsImage n d c.cells e.cells → AreEqual p c.name e.name
      names_equal c e i j image =
          let x = here_placed c i in
          let y = there_placed e j in
          let m = piece_image p c e n d x y low image in
          differ (c.name, x.piece) (e.name, y.piece) m.0 m.2 x.named y.named m.1 m.3

      -- the one may be laid where the other one is
      placed_for : (c e : ChoiceValue) → IsPlaced p e → AreEqual p c.name e.name → IsPlaced p (choice_with c.name e.cells)
      placed_for c e h q =
          elim q [
            | inl same ↦ subst (λ (m : ℕ). IsPlaced p (choice_with m e.cells)) (sym same) h
            | inr g ↦ moved_to p z g.0 e.name c.name e.cells g.1 g.3 g.2 h
          ]

      all_placed : (b : ChoiceValue) → IsCarried b → IsPlaced p b
      all_placed b q =
          subst (λ (a : ChoiceValue). IsPlaced p a) (sym q.is)
          (placed_for q.from q.to (there_placed q.to q.there) (names_equal q.from q.to q.here q.there q.image))

      same_cells : (b : ChoiceValue) (q : IsCarried b) → b.cells ≡ q.to.cells
      same_cells b q = ap (λ (c : ChoiceValue). c.cells) q.is

      same_name : (b : ChoiceValue) (q : IsCarried b) → b.name ≡ q.from.name
      same_name b q = ap (λ (c : ChoiceValue). c.name) q.is

      -- the choice on the image of the one to which e is the image
      laid_there : (e : ChoiceValue) → IsIn e ds → (c : ChoiceValue) × IsIn c cs × IsImage n d c.cells e.cells × IsIn (choice_with c.name e.cells) between
      laid_there e i =
          let c = origin e i in
          let b = to_between c.0 c.1 in
          let same = one_image c.0 c.0 b.0 e c.1 refl b.1 i b.2 c.2 in
          (c.0, c.1, c.2, subst (λ (f : ChoiceValue). IsIn (choice_with c.0.name f.cells) between) same b.3)

      between_packs : IsApart p (is_among between)
      between_packs = record {
        placed = λ b t. all_placed b (in_between b (in_from_among between b t));
        once = λ a b s t one e.
            let q = in_between a (in_from_among between a s) in
            let r = in_between b (in_from_among between b t) in
            one_carried a b q r
            (k.once q.from r.from (among_from_in cs q.from q.here) (among_from_in cs r.from r.here)
            (subst (λ (m : ℕ). is_any p m ≡ false) (same_name a q) one) (sym (same_name a q) ∙ e ∙ same_name b r));
        used = λ m i needed sure.
            let c = k.used m i needed sure in
            let b = to_between c.0 (in_from_among cs c.0 c.1) in
            (choice_with c.0.name b.0.cells, among_from_in between (choice_with c.0.name b.0.cells) b.3, c.2);
        filled = λ v must.
            let e = l.filled v must in
            let b = laid_there e.0 (in_from_among ds e.0 e.1) in
            (choice_with b.0.name e.0.cells, among_from_in between (choice_with b.0.name e.0.cells) b.3, e.2);
        apart = λ v a b s t i j.
            let q = in_between a (in_from_among between a s) in
            let r = in_between b (in_from_among between b t) in
            let same = there_apart v q.to r.to q.there r.there (subst (λ (us : List Coordinates). IsIn v us) (same_cells a q) i) (subst (λ (us : List Coordinates). IsIn v us) (same_cells b r) j) in
            one_carried a b q r (one_origin q.from r.from q.to r.to q.here r.here q.there same q.image r.image);
        ordered = λ a b s t i. absurd i;
        in_turn = λ a b i u. absurd i;
      }

      between_swaps : IsSwap p (is_among between) (is_among ds)
      between_swaps = record {
        forth = λ b t.
            let q = in_between b (in_from_among between b t) in
            (q.to, among_from_in ds q.to q.there, sym (same_cells b q), subst (λ (m : ℕ). AreEqual p m q.to.name) (sym (same_name b q)) (names_equal q.from q.to q.here q.there q.image));
        back = λ e t.
            let i = in_from_among ds e t in
            let b = laid_there e i in
            (choice_with b.0.name e.cells, among_from_in between (choice_with b.0.name e.cells) b.3, refl, equal_back p b.0.name e.name (names_equal b.0 e b.1 i b.2));
      }

    carries_names : CarriesNames n d (packing_with p cs) (packing_with p between)
    carries_names = record {
      region = h.region;
      optional = h.optional;
      forth = λ c i. let b = to_between c i in (choice_with c.name b.0.cells, b.3, refl, b.2);
      back = λ b i.
          let q = in_between b i in
          (q.from, q.here, sym (ap (λ (c : ChoiceValue). c.name) q.is), subst (λ (c : ChoiceValue). IsImage n d q.from.cells c.cells) (sym q.is) q.image);
    }

-- ---- the laws

forth : (p : PuzzleValue) (group : Group) (cs ds : List ChoiceValue) → IsPuzzle p → OthersDiffer p → IsApart p (is_among cs) → IsApart p (is_among ds)
    → AreAlike group (packing_with p cs) (packing_with p ds) → ThenSwaps p (AreAlikeByName group) (packing_with p cs) (packing_with p ds)
forth p group cs ds z differ k l a = record {
  between = between p z cs ds k l a.symmetry a.by a.limit a.carried;
  packs = between_packs p z cs ds k l a.symmetry a.by a.limit a.carried differ;
  like = record {
    symmetry = a.symmetry;
    limit = a.limit;
    member = a.member;
    by = a.by;
    carried = carries_names p z cs ds k l a.symmetry a.by a.limit a.carried;
  };
  swaps = between_swaps p z cs ds k l a.symmetry a.by a.limit a.carried differ;
}

backwards : (p : PuzzleValue) (group : Group) (cs ds : List ChoiceValue) → IsPuzzle p → IsApart p (is_among cs) → IsApart p (is_among ds)
    → ThenSwaps p (AreAlikeByName group) (packing_with p cs) (packing_with p ds) → AreAlike group (packing_with p cs) (packing_with p ds)
backwards p group cs ds z k l t =
    from_swaps p z group cs ds l (record {
      between = t.between;
      packs = t.packs;
      like = record {
        symmetry = t.like.symmetry;
        limit = t.like.limit;
        member = t.like.member;
        by = t.like.by;
        carried = carries_cells p z cs t.between k t.packs t.like.symmetry t.like.by t.like.limit t.like.carried;
      };
      swaps = t.swaps;
    })

pub alike_by_name : AlikeByNameThenSwaps
alike_by_name p group cs ds z differ k l = (forth p group cs ds z differ k l, backwards p group cs ds z k l)

pub classes_by_name : ClassesAreLabelledByName
classes_by_name p group packings labelled z differ a b n =
    counted_by p z group packings labelled a b (ThenSwaps p (AreAlikeByName group))
    (λ cs ds k l h. forth p group cs ds z differ k l h) (λ cs ds k l h. backwards p group cs ds z k l h) n
