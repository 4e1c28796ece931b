-- The classes of a puzzle's packings are those of the packings in which all pieces are told apart.
use Rattle.std.proofs.Common.{◌≡◌, ℕ, Bool, List, [], map, inl, refl, sym, subst, ◌∙◌, arith}
use Rattle.poly_cells.specs.Coordinates.{Coordinates}
use Rattle.poly_cells.specs.Sets.{IsIn}
use Rattle.poly_cells.specs.Shapes.{IsShape}
use Rattle.poly_cells.proofs.SetLemmas.{in_map, in_from_map}
use Rattle.poly_texts.specs.Puzzle.{PuzzleValue, IsPuzzle}
use Rattle.poly_place.specs.declared.alike.Group.{Group}
use Rattle.poly_place.specs.Packings.{ChoiceValue, IsPackingBy}
use Rattle.poly_place.specs.Chosen.{PackingValue, is_among}
use Rattle.poly_place.specs.Swaps.{IsApart, IsSwap}
use Rattle.poly_place.specs.Classes.{AreAlike, IsLikeOne, IsClassCount}
use Rattle.poly_place.specs.ClassCount.{are_alike, class_count}
use Rattle.poly_place.specs.Counts.{AreAll, AreAllPackings}
use Rattle.poly_place.specs.Labelled.{packing_with, ThenSwaps, AlikeThenSwaps, ClassesAreLabelled}
use Rattle.poly_place.proofs.ChosenLemmas.{in_from_among, among_from_in}
use Rattle.poly_place.proofs.PlacedLemmas.{has_shapes}
use Rattle.poly_place.proofs.PartLemmas.{AreApart, LiesWithin, empty_same, part_same}
use Rattle.poly_place.proofs.ClassLemmas.{AreMatched, matched, alike, matched_itself, matched_on, matched_back, one_region}
use Rattle.poly_place.proofs.ClassCountLemmas.{counts_classes}
use Rattle.poly_place.proofs.UnlikeLemmas.{IsLikeness, classes_at_most, new_by_other}
use Rattle.poly_place.proofs.SwapLemmas.{count_swaps_once}

-- ---- lists of choices as tests

pub lists_apart : (p : PuzzleValue) {order : List (ℕ × ℕ)} (cs : List ChoiceValue) → IsPackingBy p order (is_among cs) → AreApart cs
lists_apart p cs k v c d i j a b = k.apart v c d (among_from_in cs c i) (among_from_in cs d j) a b

swap_within : (p : PuzzleValue) (cs ds : List ChoiceValue) → IsSwap p (is_among cs) (is_among ds) → LiesWithin cs ds
swap_within p cs ds s c i = let d = s.forth c (among_from_in cs c i) in (d.0, in_from_among ds d.0 d.1, d.2)

swap_back : (p : PuzzleValue) (cs ds : List ChoiceValue) → IsSwap p (is_among cs) (is_among ds) → LiesWithin ds cs
swap_back p cs ds s d i = let c = s.back d (among_from_in ds d i) in (c.0, in_from_among cs c.0 c.1, c.2)

same_within : (cs ds : List ChoiceValue) → ((c : ChoiceValue) → is_among cs c ≡ is_among ds c) → LiesWithin cs ds
same_within cs ds s c i = (c, in_from_among ds c (sym (s c) ∙ among_from_in cs c i), refl)

-- nothing changes places
pub no_swap : (p : PuzzleValue) (chosen : ChoiceValue → Bool) → IsSwap p chosen chosen
no_swap p chosen = record {
  forth = λ c h. (c, h, refl, inl refl);
  back = λ d h. (d, h, refl, inl refl);
}

-- ---- likeness goes back and on

module _ (p : PuzzleValue) (z : IsPuzzle p) (group : Group) where
  -- the region is the puzzle's, and so are its optional cells
  abbrev pub IsOfPuzzle : PackingValue → Type 0
  IsOfPuzzle a = (a.region ≡ p.region) × (a.maybe_cells ≡ p.maybe_cells)

  shape : (a : PackingValue) → IsOfPuzzle a → IsShape a.region
  shape a g = subst IsShape (sym g.0) (has_shapes p z).region

  -- both are of it
  one_of : (a b : PackingValue) → IsOfPuzzle a → IsOfPuzzle b → (a.region ≡ b.region) × (a.maybe_cells ≡ b.maybe_cells)
  one_of a b g h = (g.0 ∙ sym h.0, g.1 ∙ sym h.1)

  pub itself : (a : PackingValue) → IsOfPuzzle a → AreAlike group a a
  itself a g = alike group a a (shape a g) refl refl (matched_itself group a.region a.maybe_cells (shape a g) a.placements)

  pub likeness : IsLikeness IsOfPuzzle (AreAlike group)
  likeness = record {
    back = λ a b g h l.
        let one = one_of a b g h in
        let m = matched_back group a.region a.maybe_cells (shape a g) a.placements b.placements (matched group a b (shape a g) one.0 one.1 l) in
        alike group b a (shape b h) (sym one.0) (sym one.1)
        (subst (λ (ms : List Coordinates). AreMatched group b.region ms b.placements a.placements) one.1
        (subst (λ (vs : List Coordinates). AreMatched group vs a.maybe_cells b.placements a.placements) one.0 m));
    onward = λ a b c g h k l m.
        let one = one_of a b g h in
        let two = one_of b c h k in
        let all = one_of a c g k in
        let first = matched group a b (shape a g) one.0 one.1 l in
        let second = matched group b c (shape b h) two.0 two.1 m in
        let here =
        subst (λ (ms : List Coordinates). AreMatched group a.region ms b.placements c.placements) (sym one.1)
        (subst (λ (vs : List Coordinates). AreMatched group vs b.maybe_cells b.placements c.placements) (sym one.0) second) in
        alike group a c (shape a g) all.0 all.1 (matched_on group a.region a.maybe_cells (shape a g) a.placements b.placements c.placements first here);
  }

  -- ---- pieces on the same cells

  -- what is like the one is like the other that lays pieces on the same cells
  pub by_cells : (a : PackingValue) (cs ds : List ChoiceValue) → AreApart cs → AreApart ds → LiesWithin cs ds → LiesWithin ds cs
      → AreAlike group a (packing_with p cs) → AreAlike group a (packing_with p ds)
  by_cells a cs ds e f l m h = record {
    symmetry = h.symmetry;
    limit = h.limit;
    member = h.member;
    by = h.by;
    carried = record {
      region = h.carried.region;
      optional = h.carried.optional;
      empty = λ v w i s. h.carried.empty v w i s ∙ empty_same cs ds w l m;
      parts = λ v w x y i j s t. h.carried.parts v w x y i j s t ∙ part_same cs ds x y l m e f;
    };
  }

  of_puzzle : (cs : List ChoiceValue) → IsOfPuzzle (packing_with p cs)
  of_puzzle cs = (refl, refl)

  -- ---- alike, and then swapped

  pub to_swaps : (cs ds : List ChoiceValue) → IsApart p (is_among ds) → AreAlike group (packing_with p cs) (packing_with p ds)
      → ThenSwaps p (AreAlike group) (packing_with p cs) (packing_with p ds)
  to_swaps cs ds k h = record { between = ds; packs = k; like = h; swaps = no_swap p (is_among ds) }

  pub from_swaps : (cs ds : List ChoiceValue) → IsApart p (is_among ds) → ThenSwaps p (AreAlike group) (packing_with p cs) (packing_with p ds)
      → AreAlike group (packing_with p cs) (packing_with p ds)
  from_swaps cs ds k t =
      by_cells (packing_with p cs) t.between ds (lists_apart p t.between t.packs) (lists_apart p ds k)
      (swap_within p t.between ds t.swaps) (swap_back p t.between ds t.swaps) t.like

  -- ---- classes

  module _ (packings labelled : List (List ChoiceValue)) (a : AreAllPackings p packings) (b : AreAll (IsApart p) labelled) where
    valued : (lists : List (List ChoiceValue)) (x : PackingValue) → IsIn x (map (packing_with p) lists) → IsOfPuzzle x
    valued lists x i = let cs = in_from_map (packing_with p) x lists i in subst IsOfPuzzle (sym cs.2) (of_puzzle cs.0)

    -- a list that lays pieces on the same cells is among the values, and like it
    found : (lists : List (List ChoiceValue)) (x : PackingValue) (cs ds : List ChoiceValue) → x ≡ packing_with p cs → IsIn ds lists → AreApart cs → AreApart ds → LiesWithin cs ds → LiesWithin ds cs
        → IsLikeOne (AreAlike group) (map (packing_with p) lists) x
    found lists x cs ds e i f g l m = (
      packing_with p ds,
      in_map (packing_with p) ds lists i,
      subst (λ (y : PackingValue). AreAlike group (packing_with p ds) y) (sym e)
          (by_cells (packing_with p ds) ds cs g f m l (itself (packing_with p ds) (of_puzzle ds))),
    )

    -- each packing is one in which the pieces are told apart
    to_labelled : (x : PackingValue) → IsIn x (map (packing_with p) packings) → IsLikeOne (AreAlike group) (map (packing_with p) labelled) x
    to_labelled x i =
        let cs = in_from_map (packing_with p) x packings i in
        let k = a.sound cs.0 cs.1 in
        let ds = b.complete (is_among cs.0) ((count_swaps_once p z).apart (is_among cs.0) k) in
        found labelled x cs.0 ds.0 cs.2 ds.1 (lists_apart p cs.0 k) (lists_apart p ds.0 (b.sound ds.0 ds.1))
        (same_within cs.0 ds.0 (λ c. sym (ds.2 c))) (same_within ds.0 cs.0 ds.2)

    -- and equal pieces of each of those change places so that it is a packing
    to_packing : (x : PackingValue) → IsIn x (map (packing_with p) labelled) → IsLikeOne (AreAlike group) (map (packing_with p) packings) x
    to_packing x i =
        let cs = in_from_map (packing_with p) x labelled i in
        let k = b.sound cs.0 cs.1 in
        let other = ((count_swaps_once p z).once (is_among cs.0) k).some in
        let ds = a.complete other.0 other.1 in
        found packings x cs.0 ds.0 cs.2 ds.1 (lists_apart p cs.0 k) (lists_apart p ds.0 (a.sound ds.0 ds.1))
        (λ c j.
        let d = other.2.forth c (among_from_in cs.0 c j) in
        (d.0, in_from_among ds.0 d.0 (ds.2 d.0 ∙ d.1), d.2))
        (λ d j.
        let c = other.2.back d (sym (ds.2 d) ∙ among_from_in ds.0 d j) in
        (c.0, in_from_among cs.0 c.0 c.1, c.2))

    -- the number of classes of a list
    some_count : (lists : List (List ChoiceValue)) → IsClassCount (AreAlike group) (map (packing_with p) lists) (class_count (are_alike group) (map (packing_with p) lists))
    some_count lists =
        (counts_classes group (map (packing_with p) lists) (λ x i. shape x (valued lists x i))
        (one_region p.region p.maybe_cells (map (packing_with p) lists) (valued lists)) (class_count (are_alike group) (map (packing_with p) lists))).1 refl

    same_count : (m n : ℕ) → IsClassCount (AreAlike group) (map (packing_with p) packings) m → IsClassCount (AreAlike group) (map (packing_with p) labelled) n → m ≡ n
    same_count m n c d =
        let up = classes_at_most IsOfPuzzle (AreAlike group) likeness itself (map (packing_with p) packings) (map (packing_with p) labelled) m n (valued packings) (valued labelled) c d to_labelled in
        let down = classes_at_most IsOfPuzzle (AreAlike group) likeness itself (map (packing_with p) labelled) (map (packing_with p) packings) n m (valued labelled) (valued packings) d c to_packing in
        omega (arith, up, down)

    -- the classes by a likeness that is this one among the packings in which the pieces are told apart
    pub counted_by : (Such : PackingValue → PackingValue → Type 0)
        → ((cs ds : List ChoiceValue) → IsApart p (is_among cs) → IsApart p (is_among ds) → AreAlike group (packing_with p cs) (packing_with p ds) → Such (packing_with p cs) (packing_with p ds))
        → ((cs ds : List ChoiceValue) → IsApart p (is_among cs) → IsApart p (is_among ds) → Such (packing_with p cs) (packing_with p ds) → AreAlike group (packing_with p cs) (packing_with p ds))
        → (n : ℕ) → (IsClassCount (AreAlike group) (map (packing_with p) packings) n → IsClassCount Such (map (packing_with p) labelled) n)
        × (IsClassCount Such (map (packing_with p) labelled) n → IsClassCount (AreAlike group) (map (packing_with p) packings) n)
    counted_by Such forth back n =
        let all = map (packing_with p) labelled in
        let to : (x y : PackingValue) → IsIn x all → IsIn y all → AreAlike group x y → Such x y = λ x y i j h.
        let cs = in_from_map (packing_with p) x labelled i in
        let ds = in_from_map (packing_with p) y labelled j in
        subst (λ (v : PackingValue). Such v y) (sym cs.2) (subst (λ (w : PackingValue). Such (packing_with p cs.0) w) (sym ds.2)
        (forth cs.0 ds.0 (b.sound cs.0 cs.1) (b.sound ds.0 ds.1) (subst (λ (v : PackingValue). AreAlike group v (packing_with p ds.0)) cs.2 (subst (λ (w : PackingValue). AreAlike group x w) ds.2 h)))) in
        let from : (x y : PackingValue) → IsIn x all → IsIn y all → Such x y → AreAlike group x y = λ x y i j h.
        let cs = in_from_map (packing_with p) x labelled i in
        let ds = in_from_map (packing_with p) y labelled j in
        subst (λ (v : PackingValue). AreAlike group v y) (sym cs.2) (subst (λ (w : PackingValue). AreAlike group (packing_with p cs.0) w) (sym ds.2)
        (back cs.0 ds.0 (b.sound cs.0 cs.1) (b.sound ds.0 ds.1) (subst (λ (v : PackingValue). Such v (packing_with p ds.0)) cs.2 (subst (λ (w : PackingValue). Such x w) ds.2 h)))) in (
          λ c.
              let e = same_count n (class_count (are_alike group) all) c (some_count labelled) in
              new_by_other (AreAlike group) Such [] all n to from (subst (λ (m : ℕ). IsClassCount (AreAlike group) all m) (sym e) (some_count labelled)),
          λ c.
              let e = same_count (class_count (are_alike group) (map (packing_with p) packings)) n (some_count packings) (new_by_other Such (AreAlike group) [] all n from to c) in
              subst (λ (m : ℕ). IsClassCount (AreAlike group) (map (packing_with p) packings) m) e (some_count packings),
        )

-- ---- the laws

pub alike_then_swaps : AlikeThenSwaps
alike_then_swaps p group cs ds z k l = (to_swaps p z group cs ds l, from_swaps p z group cs ds l)

pub classes_are_labelled : ClassesAreLabelled
classes_are_labelled p group packings labelled z a b n =
    counted_by p z group packings labelled a b (ThenSwaps p (AreAlike group))
    (λ cs ds k l h. to_swaps p z group cs ds l h) (λ cs ds k l h. from_swaps p z group cs ds l h) n
