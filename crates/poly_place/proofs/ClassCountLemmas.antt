-- The test of two packings tells whether they are alike, and the number of classes is how many are like none before them.
use Rattle.std.proofs.Common.{◌≡◌, ℕ, ◌+◌, ◌<◌, Bool, true, false, ◌&&◌, cond, List, [], ◌∷◌, ◌++◌, ◌⊎◌, map, inl, inr, refl, sym, ap, subst, ◌∙◌, None, arith}
use Rattle.std.specs.List.{list_any, range_with_len, slice_get}
use Rattle.std.specs.Cmp.{Equal-is, booleans_Decides}
use Rattle.std.proofs.Math.Bool.{beq}
use Rattle.std.proofs.lemmas.Bool.{cases_Bool, and_parts, and_from, both_ways}
use Rattle.std.proofs.lemmas.Cmp.{tied_itself}
use Rattle.poly_cells.specs.Coordinates.{Coordinates}
use Rattle.poly_cells.specs.Sets.{IsIn}
use Rattle.poly_cells.specs.Shapes.{IsShape, normal, turned}
use Rattle.poly_cells.specs.CellTests.{has_cell}
use Rattle.poly_cells.proofs.RegionLemmas.{symmetry_from_forms, forms_from_symmetry}
use Rattle.poly_cells.proofs.SetLemmas.{in_from_map, in_append_left, in_append_right}
use Rattle.poly_place.specs.declared.alike.Group.{Group}
use Rattle.poly_place.specs.Placements.{cells_cmp}
use Rattle.poly_texts.specs.Puzzle.{PuzzleValue, IsPuzzle}
use Rattle.poly_place.specs.Chosen.{PackingValue, packing_value}
use Rattle.poly_place.specs.Classes.{is_member, part_at, is_empty_cell, same_part, AreAlike, HaveOneRegion, IsLikeOne, AreNew, IsClassCount}
use Rattle.poly_place.specs.ClassCount.{image_in, agree, carries, are_alike, count_new, class_count, AlikeIsTested, ClassesAreCounted}
use Rattle.poly_place.specs.Forms.{IsKept}
use Rattle.poly_place.proofs.OrderLemmas.{cells_total, cells_exact}
use Rattle.poly_cells.proofs.MemberLemmas.{all_pass, passes, some_passes, passes_some, in_from_range, in_to_range}
use Rattle.poly_place.proofs.CarryLemmas.{maps_at, maps_are}
use Rattle.poly_place.proofs.FormLemmas.{PartAlike}
use Rattle.poly_place.proofs.ClassLemmas.{AreMatched, matched, alike, one_region}
use Rattle.poly_place.proofs.PlacedLemmas.{has_shapes}
use Rattle.std.proofs.lemmas.List.{append_assoc}

-- ---- tests over cells, and over the symmetries

agrees : (f g : Coordinates → Bool) (vs : List Coordinates) → agree f g vs ≡ true → (v : Coordinates) → IsIn v vs → f v ≡ g v
agrees f g vs h v i = (booleans_Decides (f v) (g v)).0 (passes (λ u. beq (f u) (g u)) vs h v i)

agreed : (f g : Coordinates → Bool) (vs : List Coordinates) → ((v : Coordinates) → IsIn v vs → f v ≡ g v) → agree f g vs ≡ true
agreed f g vs h = all_pass (λ u. beq (f u) (g u)) vs (λ v i. (booleans_Decides (f v) (g v)).1 (h v i))

below_48 : (n : ℕ) → IsIn n (range_with_len 0 48) → n < 48
below_48 n i = let h = in_from_range n 0 48 i in omega arith

among_48 : (n : ℕ) → n < 48 → IsIn n (range_with_len 0 48)
among_48 n lt = in_to_range n 0 48 (omega arith) (omega arith)

-- ---- the test of two packings

matched_by : (group : Group) (p q : PackingValue) (n : ℕ) → IsShape p.region → p.maybe_cells ≡ q.maybe_cells → n < 48 → is_member group n ≡ true → carries n p q ≡ true
    → AreMatched group p.region p.maybe_cells p.placements q.placements
unfolding carries
matched_by group p q n s m lt member h =
    let vs = p.region in
    let one = and_parts _ _ h in
    let two = and_parts _ _ one.1 in
    let three = and_parts _ _ two.1 in (
      n,
      record {
        limit = lt;
        member = member;
        symmetry = symmetry_from_forms n vs s (cells_exact (turned n vs) (normal vs) ((Equal-is (cells_cmp (turned n vs) (normal vs))).0 one.0));
        optional = maps_are (has_cell p.maybe_cells) (image_in vs n) (has_cell p.maybe_cells) vs
            (λ v i. ap (λ (ms : List Coordinates). has_cell ms (image_in vs n v)) m ∙ sym (agrees (has_cell p.maybe_cells) (λ v. has_cell q.maybe_cells (image_in vs n v)) vs two.0 v i));
      },
      record {
        empty = agrees (is_empty_cell p.placements) (λ v. is_empty_cell q.placements (image_in vs n v)) vs three.0;
        parts = λ v w i j.
            agrees (same_part p.placements v) (λ w. same_part q.placements (image_in vs n v) (image_in vs n w)) vs
            (passes (λ v. agree (same_part p.placements v) (λ w. same_part q.placements (image_in vs n v) (image_in vs n w)) vs) vs three.1 v i) w j;
      },
    )

carries_by : (group : Group) (p q : PackingValue) (n : ℕ) → IsShape p.region → p.maybe_cells ≡ q.maybe_cells → IsKept group p.region p.maybe_cells n
    → PartAlike p.region (part_at p.placements) (λ v. part_at q.placements (image_in p.region n v)) → carries n p q ≡ true
unfolding carries
carries_by group p q n s m k a =
    let vs = p.region in
    and_from _ _
    ((Equal-is (cells_cmp (turned n vs) (normal vs))).1 (subst (λ (us : List Coordinates). cells_cmp us (normal vs) ≡ cells_cmp (normal vs) (normal vs)) (sym (forms_from_symmetry n vs s k.symmetry)) refl ∙ tied_itself cells_total (normal vs)))
    (and_from _ _
    (agreed (has_cell p.maybe_cells) (λ v. has_cell q.maybe_cells (image_in vs n v)) vs
    (λ v i. sym (maps_at (has_cell p.maybe_cells) (image_in vs n) (has_cell p.maybe_cells) vs k.optional v i) ∙ ap (λ (ms : List Coordinates). has_cell ms (image_in vs n v)) m))
    (and_from _ _
    (agreed (is_empty_cell p.placements) (λ v. is_empty_cell q.placements (image_in vs n v)) vs a.empty)
    (all_pass (λ v. agree (same_part p.placements v) (λ w. same_part q.placements (image_in vs n v) (image_in vs n w)) vs) vs
    (λ v i. agreed (same_part p.placements v) (λ w. same_part q.placements (image_in vs n v) (image_in vs n w)) vs (λ w j. a.parts v w i j)))))

-- one of the symmetries of the group carries p onto q
abbrev carries_in : Group → PackingValue → PackingValue → ℕ → Bool
carries_in group p q n = is_member group n && carries n p q

pub tests_alike : AlikeIsTested
unfolding are_alike
tests_alike group p q s e m = (
  λ h.
      let n = some_passes (carries_in group p q) (range_with_len 0 48) h in
      let both = and_parts _ _ n.2 in
      alike group p q s e m (matched_by group p q n.0 s m (below_48 n.0 n.1) both.0 both.1),
  λ a.
      let found = matched group p q s e m a in
      passes_some (carries_in group p q) found.0 (range_with_len 0 48) (among_48 found.0 found.1.limit)
      (and_from _ _ found.1.member (carries_by group p q found.0 s m found.1 found.2)),
)

-- ---- the number of classes

-- the test tells which of the list are alike
pub record Tells {P : Type 0} (Like : P → P → Type 0) (like : P → P → Bool) (all : List P) : Type 0 where
  pub sound : (p q : P) → IsIn p all → IsIn q all → like p q ≡ true → Like p q
  pub complete : (p q : P) → IsIn p all → IsIn q all → Like p q → like p q ≡ true

like_one : {P : Type 0} (Like : P → P → Type 0) (like : P → P → Bool) (before : List P) (p : P) (ps : List P) → Tells Like like (before ++ p ∷ ps)
    → (IsLikeOne Like before p × (list_any (λ q. like q p) before ≡ true)) ⊎ ((IsLikeOne Like before p → ⊥) × (list_any (λ q. like q p) before ≡ false))
like_one {P} Like like before p ps t =
    elim (cases_Bool (list_any (λ q. like q p) before)) [
      | inl h ↦
          let q = some_passes (λ q. like q p) before h in
          inl ((q.0, q.1, t.sound q.0 p (in_append_left q.0 before (p ∷ ps) q.1) (in_append_right p before (p ∷ ps) (inl refl)) q.2), h)
      | inr h ↦ inr (
        (λ one.
            let found = passes_some (λ q. like q p) one.0 before one.1 (t.complete one.0 p (in_append_left one.0 before (p ∷ ps) one.1) (in_append_right p before (p ∷ ps) (inl refl)) one.2) in
            both_ways (list_any (λ q. like q p) before) h found),
        h,
      )
    ]

further : {P : Type 0} (Like : P → P → Type 0) (like : P → P → Bool) (before : List P) (p : P) (ps : List P) → Tells Like like (before ++ p ∷ ps) → Tells Like like ((before ++ p ∷ []) ++ ps)
further {P} Like like before p ps t = subst (λ (qs : List P). Tells Like like qs) (sym (append_assoc before (p ∷ []) ps)) t

same : (n : ℕ) (b : Bool) → b ≡ true → n ≡ cond b 0 1 + n
same n true h = omega arith
same n false h = cc

more : (n : ℕ) (b : Bool) → b ≡ false → cond b 0 1 + n ≡ n + 1
more n true h = cc
more n false h = omega arith

count_is_new : {P : Type 0} (Like : P → P → Type 0) (like : P → P → Bool) (before ps : List P) → Tells Like like (before ++ ps) → AreNew Like before ps (count_new like before ps)
count_is_new Like like before [] t = refl
count_is_new {P} Like like before (p ∷ ps) t =
    let rest = count_is_new Like like (before ++ p ∷ []) ps (further Like like before p ps t) in
    elim (like_one Like like before p ps t) [
      | inl one ↦ inl (one.0, subst (λ (n : ℕ). AreNew Like (before ++ p ∷ []) ps n) (same (count_new like (before ++ p ∷ []) ps) (list_any (λ q. like q p) before) one.1) rest)
      | inr none ↦ inr (none.0, (count_new like (before ++ p ∷ []) ps, more (count_new like (before ++ p ∷ []) ps) (list_any (λ q. like q p) before) none.1, rest))
    ]

new_is_count : {P : Type 0} (Like : P → P → Type 0) (like : P → P → Bool) (before ps : List P) (n : ℕ) → Tells Like like (before ++ ps) → AreNew Like before ps n → n ≡ count_new like before ps
new_is_count Like like before [] n t a = a
new_is_count {P} Like like before (p ∷ ps) n t a =
    let later = further Like like before p ps t in
    elim a [
      | inl old ↦ elim (like_one Like like before p ps t) [
        | inl one ↦ new_is_count Like like (before ++ p ∷ []) ps n later old.1 ∙ same (count_new like (before ++ p ∷ []) ps) (list_any (λ q. like q p) before) one.1
        | inr none ↦ absurd (none.0 old.0)
      ]
      | inr new ↦ elim (like_one Like like before p ps t) [
        | inl one ↦ absurd (new.0 one.0)
        | inr none ↦ new.1.1 ∙ ap (λ m. m + 1) (new_is_count Like like (before ++ p ∷ []) ps new.1.0 later new.1.2) ∙ sym (more (count_new like (before ++ p ∷ []) ps) (list_any (λ q. like q p) before) none.1)
      ]
    ]

tells : (group : Group) (ps : List PackingValue) → ((p : PackingValue) → IsIn p ps → IsShape p.region) → HaveOneRegion ps → Tells (AreAlike group) (are_alike group) ps
tells group ps shapes one = record {
  sound = λ p q i j h. (tests_alike group p q (shapes p i) (one p q i j).0 (one p q i j).1).0 h;
  complete = λ p q i j a. (tests_alike group p q (shapes p i) (one p q i j).0 (one p q i j).1).1 a;
}

pub counts_classes : ClassesAreCounted
unfolding class_count
counts_classes group ps shapes one n = (
  new_is_count (AreAlike group) (are_alike group) [] ps n (tells group ps shapes one),
  λ e. subst (λ (m : ℕ). IsClassCount (AreAlike group) ps m) (sym e) (count_is_new (AreAlike group) (are_alike group) [] ps (tells group ps shapes one)),
)

-- a number of classes is the one that the test counts
pub value_is : (group : Group) (ps : List PackingValue) (first : PackingValue) (n : ℕ) → IsShape first.region → IsIn first ps → HaveOneRegion ps → IsClassCount (AreAlike group) ps n → n ≡ class_count (are_alike group) ps
value_is group ps first n s here one c = (counts_classes group ps (λ p i. subst IsShape (one first p here i).0 s) one n).0 c

-- the answer where there is no packing
pub none_value : (group : Group) (ps : List PackingValue) → slice_get ps 0 ≡ None → 0 ≡ class_count (are_alike group) ps
unfolding class_count
none_value group [] h = refl
none_value group (p ∷ ps) h = cc

-- ---- packings of one puzzle

-- they have its region and its optional cells
pub of_one_puzzle : (p : PuzzleValue) (paths : List (List ℕ)) → HaveOneRegion (map (packing_value p) paths)
of_one_puzzle p paths = one_region p.region p.maybe_cells (map (packing_value p) paths) (λ q i.
    let path = in_from_map (packing_value p) q paths i in
    (ap (λ (r : PackingValue). r.region) path.2, ap (λ (r : PackingValue). r.maybe_cells) path.2))

pub puzzle_classes : (p : PuzzleValue) → IsPuzzle p → (group : Group) (paths : List (List ℕ)) → IsClassCount (AreAlike group) (map (packing_value p) paths) (class_count (are_alike group) (map (packing_value p) paths))
puzzle_classes p z group paths = (counts_classes group (map (packing_value p) paths) shapes (of_one_puzzle p paths) (class_count (are_alike group) (map (packing_value p) paths))).1 refl
  where
    shapes : (q : PackingValue) → IsIn q (map (packing_value p) paths) → IsShape q.region
    shapes q i =
        let path = in_from_map (packing_value p) q paths i in
        subst IsShape (sym (ap (λ (r : PackingValue). r.region) path.2)) (has_shapes p z).region
