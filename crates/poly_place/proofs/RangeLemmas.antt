-- The packings of a puzzle with spare copies are those of the puzzles where the numbers of copies are fixed.
use Rattle.std.proofs.Common.{◌≡◌, ℕ, ◌-◌, List, [], ◌∷◌, ◌++◌, map, filter, flat_map, length, take, drop, Bool, true, false, cond, not, ◌&&◌, ◌⊎◌, inl, inr, refl, sym, ap, ap₂, subst, ◌∙◌, append-nil, eqb-true, arith}
use Rattle.std.proofs.Math.Seq.{drop-length}
use Rattle.std.proofs.lemmas.List.Elements.{filter-append}
use Rattle.std.proofs.lemmas.Bool.{cases_Bool, cond-true, cond-false, both_ways, not-true, not_from_false, false_from_ne_true, true_from_ne_false}
use Rattle.std.specs.Cmp.{both_ways as same_tests}
use Rattle.poly_cells.specs.Coordinates.{Coordinates}
use Rattle.poly_cells.specs.Sets.{IsIn}
use Rattle.poly_cells.proofs.SetLemmas.{in_map, in_from_map}
use Rattle.poly_cells.proofs.MemberLemmas.{in_flat_map, in_from_flat_map, in_from_filter, in_filter, passes}
use Rattle.poly_texts.specs.declared.usage.Usage.{Usage}
use Rattle.poly_texts.specs.declared.usage.Usage.TheVariants as usages
use Rattle.poly_texts.specs.Usages as usage
use Rattle.poly_texts.specs.Usages.{is_maybe, is_repeatable, are_copies, may_spare}
use Rattle.poly_texts.specs.Kinds.{KindValue, given_if, named_shapes, kind_names, kind_pieces, kind_equal, kind_spare}
use Rattle.poly_texts.specs.Puzzle.{PuzzleValue, IsPuzzle, names_of, has_name, is_needed, is_spare, pieces_of, maybe_names, any_names, mirrored_names, equal_names, spare_names}
use Rattle.poly_texts.proofs.KindLemmas.{told_by, spare_own}
use Rattle.poly_texts.proofs.EqualLemmas.{spare_equal}
use Rattle.poly_place.specs.declared.alike.Group.TheVariants.{Rotations, Symmetries}
use Rattle.poly_place.specs.Placements.{IsPlacement, turns_by}
use Rattle.poly_place.specs.Packings.{ChoiceValue, neighbours, pairs, must_fill, IsUsed, IsPlaced, IsPacking, every_choice, option_of, leaving_option, leavings, packing_problem}
use Rattle.poly_place.specs.Ranges.{AreSpareEnds, is_kept, fixed_kind, fixed_without, SumOfFixed, SurePuzzlesStay}
use Rattle.poly_place.proofs.DistinctLemmas.{in_from_name, name_from_in}
use Rattle.poly_place.proofs.PairLemmas.{all_of, among_groups, equal_named, equal_single}
use Rattle.poly_place.proofs.PlacedLemmas.{has_shapes, layable, in_layable}
use Rattle.poly_place.proofs.LeavingsLemmas.{split_by, neighbours_more, uses, used_from, from_used, leaving_is, first_left}
use Rattle.poly_place.proofs.LaidLemmas.{neighbours_left}

-- ---- neighbours that are left

-- where the first ones pass a test and the others don't, those that pass are the first ones
passed_first : (test : ℕ → Bool) (xs ys : List ℕ) → ((n : ℕ) → IsIn n xs → test n ≡ true) → ((n : ℕ) → IsIn n ys → test n ≡ false) → filter test (xs ++ ys) ≡ xs
passed_first test [] [] f g = refl
passed_first test [] (y ∷ ys) f g = cond-false (test y) (y ∷ filter test ys) (filter test ys) (g y (inl refl)) ∙ passed_first test [] ys f (λ n i. g n (inr i))
passed_first test (x ∷ xs) ys f g =
    cond-true (test x) (x ∷ filter test (xs ++ ys)) (filter test (xs ++ ys)) (f x (inl refl)) ∙ ap (λ (zs : List ℕ). x ∷ zs) (passed_first test xs ys (λ n i. f n (inr i)) g)

-- neighbours that both pass are neighbours among those that pass
both_pass : (test : ℕ → Bool) (m n : ℕ) (g : List ℕ) → test m ≡ true → test n ≡ true → IsIn (m, n) (neighbours g) → IsIn (m, n) (neighbours (filter test g))
both_pass test m n [] s t i = absurd i
both_pass test m n (a ∷ []) s t i = absurd i
both_pass test m n (a ∷ b ∷ ns) s t i =
    elim i [
      | inl e ↦
          let first : m ≡ a = ap (λ (q : ℕ × ℕ). q.0) e in
          let second : n ≡ b = ap (λ (q : ℕ × ℕ). q.1) e in
          let one = cond-true (test a) (a ∷ filter test (b ∷ ns)) (filter test (b ∷ ns)) (sym (ap test first) ∙ s) in
          let two = cond-true (test b) (b ∷ filter test ns) (filter test ns) (sym (ap test second) ∙ t) in
          subst (λ (zs : List ℕ). IsIn (m, n) (neighbours zs)) (sym (one ∙ ap (λ (zs : List ℕ). a ∷ zs) two)) (inl e)
      | inr r ↦
          let rest = both_pass test m n (b ∷ ns) s t r in
          elim (cases_Bool (test a)) [
            | inl u ↦
                subst (λ (zs : List ℕ). IsIn (m, n) (neighbours zs)) (sym (cond-true (test a) (a ∷ filter test (b ∷ ns)) (filter test (b ∷ ns)) u))
                (neighbours_more m n a (filter test (b ∷ ns)) rest)
            | inr f ↦ subst (λ (zs : List ℕ). IsIn (m, n) (neighbours zs)) (sym (cond-false (test a) (a ∷ filter test (b ∷ ns)) (filter test (b ∷ ns)) f)) rest
          ]
    ]

-- ---- kinds that are left

-- what is told of the kinds that are left
told_left : {X : Type 0} (gone : List ℕ) (f : KindValue → List X) (test : X → Bool) (ks : List KindValue)
    → ((k : KindValue) → IsIn k ks → f (fixed_kind gone k) ≡ filter test (f k)) → flat_map f (map (fixed_kind gone) ks) ≡ filter test (flat_map f ks)
told_left gone f test [] same = refl
told_left {X} gone f test (k ∷ ks) same =
    ap₂ (λ (xs ys : List X). xs ++ ys) (same k (inl refl)) (told_left gone f test ks (λ j i. same j (inr i))) ∙ sym (filter-append test (f k) (flat_map f ks))

given_left : (test : ℕ → Bool) (b : Bool) (ns : List ℕ) → given_if b (filter test ns) ≡ filter test (given_if b ns)
given_left test true ns = refl
given_left test false ns = refl

-- where the first one passes, it is the first one that passes
first_kept : (test : ℕ → Bool) (ns : List ℕ) → ((n : ℕ) → IsIn n ns → test n ≡ true) → take 1 (filter test ns) ≡ filter test (take 1 ns)
first_kept test [] pass = refl
first_kept test (n ∷ ns) pass =
    let t = pass n (inl refl) in
    ap (λ (b : Bool). take 1 (cond b (n ∷ filter test ns) (filter test ns))) t ∙ sym (ap (λ (b : Bool). cond b (n ∷ []) []) t)

shapes_left : (test : ℕ → Bool) (ns : List ℕ) (cells : List Coordinates) → named_shapes (filter test ns) cells ≡ filter (λ r. test (r.0)) (named_shapes ns cells)
shapes_left test [] cells = refl
shapes_left test (n ∷ ns) cells = by_test (test n) (shapes_left test ns cells)
  where
    by_test : (b : Bool) → named_shapes (filter test ns) cells ≡ filter (λ r. test (r.0)) (named_shapes ns cells)
        → named_shapes (cond b (n ∷ filter test ns) (filter test ns)) cells ≡ cond b ((n, cells) ∷ filter (λ r. test (r.0)) (named_shapes ns cells)) (filter (λ r. test (r.0)) (named_shapes ns cells))
    by_test true h = ap (λ (qs : List (ℕ × List Coordinates)). (n, cells) ∷ qs) h
    by_test false h = h

groups_left : (gone : List ℕ) (ks : List KindValue) → flat_map kind_equal (map (fixed_kind gone) ks) ≡ map (filter (is_kept gone)) (flat_map kind_equal ks)
groups_left gone [] = refl
groups_left gone (k ∷ ks) = by_test (are_copies k.usage) (groups_left gone ks)
  where
    by_test : (b : Bool) → flat_map kind_equal (map (fixed_kind gone) ks) ≡ map (filter (is_kept gone)) (flat_map kind_equal ks)
        → given_if b (filter (is_kept gone) k.symbols ∷ []) ++ flat_map kind_equal (map (fixed_kind gone) ks) ≡ map (filter (is_kept gone)) (given_if b (k.symbols ∷ []) ++ flat_map kind_equal ks)
    by_test true rest = ap (λ (gs : List (List ℕ)). filter (is_kept gone) k.symbols ∷ gs) rest
    by_test false rest = rest

none_after : (ns : List ℕ) → drop (length ns - 0) ns ≡ []
none_after ns = let e : length ns - 0 ≡ length ns = omega arith in ap (λ (m : ℕ). drop m ns) e ∙ drop-length ns

no_spare : (gone : List ℕ) (ks : List KindValue) → flat_map kind_spare (map (fixed_kind gone) ks) ≡ []
no_spare gone [] = refl
no_spare gone (k ∷ ks) = ap₂ (λ (xs ys : List ℕ). xs ++ ys) (none_after (filter (is_kept gone) k.symbols)) (no_spare gone ks)

-- a name that passes is among those that pass exactly if it is among all
still_among : (test : ℕ → Bool) (ns : List ℕ) (n : ℕ) → test n ≡ true → has_name (filter test ns) n ≡ has_name ns n
still_among test ns n t =
    same_tests (has_name (filter test ns) n) (has_name ns n) (λ h. name_from_in ns n (in_from_filter test n ns (in_from_name (filter test ns) n h)).0)
    (λ h. name_from_in (filter test ns) n (in_filter test n ns (in_from_name ns n h) t))

module _ (p : PuzzleValue) (z : IsPuzzle p) (gone : List ℕ) (e : AreSpareEnds p gone) where
  -- a symbol that shows copies isn't spare
  shown_kept : (k : KindValue) → IsIn k p.kinds → k.usage ≡ usages.Any → (n : ℕ) → IsIn n k.symbols → is_kept gone n ≡ true
  unfolding spare_names
  shown_kept k there any n i =
      let spare : k.spare ≡ 0 = eqb-true k.spare 0 (subst (λ (u : Usage). may_spare u k.spare (length k.symbols) ≡ true) any (z.kinds_are k there).spares) in
      let none : kind_spare k ≡ [] = ap (λ (m : ℕ). drop (length k.symbols - m) k.symbols) spare ∙ none_after k.symbols in
      not_from_false _ (false_from_ne_true _ (λ g. both_ways (is_spare p n) (told_by p.kinds z.new kind_spare spare_own k there n i ∙ ap (λ (ns : List ℕ). has_name ns n) none) (e.spare n g)))

  -- the names of a kind that are left
  names_left : (k : KindValue) → IsIn k p.kinds → kind_names (fixed_kind gone k) ≡ filter (is_kept gone) (kind_names k)
  names_left k there = by_usage k.usage refl
    where
      by_usage : (u : Usage) → k.usage ≡ u → usage.pieces_named u (filter (is_kept gone) k.symbols) ≡ filter (is_kept gone) (usage.pieces_named u k.symbols)
      by_usage usages.Once f = refl
      by_usage usages.Maybe f = refl
      by_usage usages.Copies f = refl
      by_usage usages.Any f = first_kept (is_kept gone) k.symbols (shown_kept k there f)

  pieces_left : pieces_of (fixed_without gone p) ≡ filter (λ r. is_kept gone (r.0)) (pieces_of p)
  unfolding pieces_of
  pieces_left =
      told_left gone kind_pieces (λ r. is_kept gone (r.0)) p.kinds
      (λ k i. ap (λ (ns : List ℕ). named_shapes ns k.cells) (names_left k i) ∙ shapes_left (is_kept gone) (kind_names k) k.cells)

  -- what is told of a name that is left
  same_left : (test : KindValue → Bool) → ((k : KindValue) → test (fixed_kind gone k) ≡ test k) → (n : ℕ) → is_kept gone n ≡ true
      → has_name (flat_map (λ k. given_if (test k) (kind_names k)) (map (fixed_kind gone) p.kinds)) n ≡ has_name (flat_map (λ k. given_if (test k) (kind_names k)) p.kinds) n
  same_left test same n t =
      ap (λ (ns : List ℕ). has_name ns n)
      (told_left gone (λ k. given_if (test k) (kind_names k)) (is_kept gone) p.kinds
      (λ k i. ap₂ (λ (b : Bool) (ns : List ℕ). given_if b ns) (same k) (names_left k i) ∙ given_left (is_kept gone) (test k) (kind_names k)))
      ∙ still_among (is_kept gone) (flat_map (λ k. given_if (test k) (kind_names k)) p.kinds) n t

  same_maybe : (n : ℕ) → is_kept gone n ≡ true → has_name (maybe_names (fixed_without gone p)) n ≡ has_name (maybe_names p) n
  unfolding maybe_names
  same_maybe n t = same_left (λ k. is_maybe k.usage) (λ k. refl) n t

  same_any : (n : ℕ) → is_kept gone n ≡ true → has_name (any_names (fixed_without gone p)) n ≡ has_name (any_names p) n
  unfolding any_names
  same_any n t = same_left (λ k. is_repeatable k.usage) (λ k. refl) n t

  same_mirrored : (n : ℕ) → is_kept gone n ≡ true → has_name (mirrored_names (fixed_without gone p)) n ≡ has_name (mirrored_names p) n
  unfolding mirrored_names
  same_mirrored n t = same_left (λ k. k.mirrored) (λ k. refl) n t

  same_needed : (n : ℕ) → is_kept gone n ≡ true → is_needed (fixed_without gone p) n ≡ is_needed p n
  same_needed n t = ap₂ (λ (a b : Bool). not a && not b) (same_maybe n t) (same_any n t)

  none_spare : (n : ℕ) → is_spare (fixed_without gone p) n ≡ false
  unfolding spare_names
  none_spare n = ap (λ (ns : List ℕ). has_name ns n) (no_spare gone p.kinds)

  equal_left : equal_names (fixed_without gone p) ≡ map (filter (is_kept gone)) (equal_names p)
  unfolding equal_names
  equal_left = groups_left gone p.kinds

  -- ---- equal pieces

  -- the one before a copy that is left is left
  left_before : (m n : ℕ) → IsIn (m, n) (pairs p) → is_kept gone n ≡ true → is_kept gone m ≡ true
  left_before m n i t = not_from_false _ (false_from_ne_true _ (λ g. both_ways (has_name gone n) (not-true _ t) (e.ends m n i g)))

  to_pairs : (m n : ℕ) → is_kept gone m ≡ true → is_kept gone n ≡ true → IsIn (m, n) (pairs p) → IsIn (m, n) (pairs (fixed_without gone p))
  to_pairs m n s t i =
      let g = in_from_flat_map neighbours (m, n) (equal_names p) i in
      subst (λ (gs : List (List ℕ)). IsIn (m, n) (flat_map neighbours gs)) (sym equal_left)
      (in_flat_map neighbours (m, n) (filter (is_kept gone) g.0) (map (filter (is_kept gone)) (equal_names p)) (in_map (filter (is_kept gone)) g.0 (equal_names p) g.1) (both_pass (is_kept gone) m n g.0 s t g.2))

  from_pairs : (m n : ℕ) → IsIn (m, n) (pairs (fixed_without gone p)) → IsIn (m, n) (pairs p)
  from_pairs m n i =
      let h = in_from_flat_map neighbours (m, n) (map (filter (is_kept gone)) (equal_names p)) (subst (λ (gs : List (List ℕ)). IsIn (m, n) (flat_map neighbours gs)) equal_left i) in
      let g = in_from_map (filter (is_kept gone)) h.0 (equal_names p) h.1 in
      let split = split_by (is_kept gone) g.0 (λ a b j t. left_before a b (in_flat_map neighbours (a, b) g.0 (equal_names p) g.1 j) t) in
      let firsts = ap (filter (is_kept gone)) split.whole ∙ passed_first (is_kept gone) split.yes split.no split.pass split.fail in
      let there = subst (λ (zs : List ℕ). IsIn (m, n) (neighbours zs)) (g.2 ∙ firsts) h.2 in
      in_flat_map neighbours (m, n) g.0 (equal_names p) g.1 (subst (λ (zs : List ℕ). IsIn (m, n) (neighbours zs)) (sym split.whole) (neighbours_left m n split.yes split.no there))

  -- ---- pieces

  to_piece : (q : ℕ × List Coordinates) → is_kept gone (q.0) ≡ true → IsIn q (pieces_of p) → IsIn q (pieces_of (fixed_without gone p))
  to_piece q t i = subst (λ (qs : List (ℕ × List Coordinates)). IsIn q qs) (sym pieces_left) (in_filter (λ (r : ℕ × List Coordinates). is_kept gone (r.0)) q (pieces_of p) i t)

  from_piece : (q : ℕ × List Coordinates) → IsIn q (pieces_of (fixed_without gone p)) → IsIn q (pieces_of p) × (is_kept gone (q.0) ≡ true)
  from_piece q i = in_from_filter (λ (r : ℕ × List Coordinates). is_kept gone (r.0)) q (pieces_of p) (subst (λ (qs : List (ℕ × List Coordinates)). IsIn q qs) pieces_left i)

  to_names : (n : ℕ) → is_kept gone n ≡ true → IsIn n (names_of (pieces_of p)) → IsIn n (names_of (pieces_of (fixed_without gone p)))
  to_names n t i =
      let q = in_from_map (λ (r : ℕ × List Coordinates). r.0) n (pieces_of p) i in
      subst (λ (k : ℕ). IsIn k (names_of (pieces_of (fixed_without gone p)))) (sym q.2)
      (in_map (λ (r : ℕ × List Coordinates). r.0) q.0 (pieces_of (fixed_without gone p)) (to_piece q.0 (subst (λ (k : ℕ). is_kept gone k ≡ true) q.2 t) q.1))

  from_names : (n : ℕ) → IsIn n (names_of (pieces_of (fixed_without gone p))) → IsIn n (names_of (pieces_of p)) × (is_kept gone n ≡ true)
  from_names n i =
      let q = in_from_map (λ (r : ℕ × List Coordinates). r.0) n (pieces_of (fixed_without gone p)) i in
      let kept = from_piece q.0 q.1 in
      (subst (λ (k : ℕ). IsIn k (names_of (pieces_of p))) (sym q.2) (in_map (λ (r : ℕ × List Coordinates). r.0) q.0 (pieces_of p) kept.0), subst (λ (k : ℕ). is_kept gone k ≡ true) (sym q.2) kept.1)

  -- by the same turns
  turned_alike : (c : ChoiceValue) (piece : List Coordinates) (a b : Bool) → a ≡ b → IsPlacement (turns_by (cond a Symmetries Rotations)) piece p.region c.cells → IsPlacement (turns_by (cond b Symmetries Rotations)) piece p.region c.cells
  turned_alike c piece a b same h = subst (λ (q : Bool). IsPlacement (turns_by (cond q Symmetries Rotations)) piece p.region c.cells) same h

  abbrev Useful : Bool → ChoiceValue → Type 0
  Useful needed c = (needed ≡ true) ⊎ ((v : Coordinates) × IsIn v c.cells × (must_fill p v ≡ true))

  to_placed : (c : ChoiceValue) → is_kept gone c.name ≡ true → IsPlaced p c → IsPlaced (fixed_without gone p) c
  to_placed c t h = record {
    piece = h.piece;
    named = to_piece (c.name, h.piece) t h.named;
    rises = h.rises;
    placed = turned_alike c h.piece _ _ (sym (same_mirrored c.name t)) h.placed;
    useful = subst (λ (b : Bool). Useful b c) (sym (same_needed c.name t)) h.useful;
  }

  from_placed : (c : ChoiceValue) → IsPlaced (fixed_without gone p) c → IsPlaced p c × (is_kept gone c.name ≡ true)
  from_placed c h =
      let kept = from_piece (c.name, h.piece) h.named in (
        record {
          piece = h.piece;
          named = kept.0;
          rises = h.rises;
          placed = turned_alike c h.piece _ _ (same_mirrored c.name kept.1) h.placed;
          useful = subst (λ (b : Bool). Useful b c) (same_needed c.name kept.1) h.useful;
        },
        kept.1,
      )

  -- ---- a packing with fixed numbers is one

  module _ (chosen : ChoiceValue → Bool) (k : IsPacking (fixed_without gone p) chosen) where
    used_left : (n : ℕ) → IsUsed chosen n → is_kept gone n ≡ true
    used_left n u = subst (λ (m : ℕ). is_kept gone m ≡ true) u.2 (from_placed u.0 (k.placed u.0 u.1)).1

    left_used : (n : ℕ) → IsIn n (names_of (pieces_of p)) → is_needed p n ≡ true → is_kept gone n ≡ true → IsUsed chosen n
    left_used n i needed t = k.used n (to_names n t i) (same_needed n t ∙ needed) (none_spare n)

    pub from_fixed : IsPacking p chosen
    from_fixed = record {
      placed = λ c h. (from_placed c (k.placed c h)).0;
      once = λ c d s t one. k.once c d s t (same_any c.name (used_left c.name (c, s, refl)) ∙ one);
      used = λ n i needed sure. left_used n i needed (not_from_false _ (false_from_ne_true _ (λ g. both_ways (is_spare p n) sure (e.spare n g))));
      filled = k.filled;
      apart = k.apart;
      ordered = λ c d h g i. k.ordered c d h g (to_pairs c.name d.name (used_left c.name (c, h, refl)) (used_left d.name (d, g, refl)) i);
      in_turn = λ m n i u.
          let among = (among_groups m n (equal_names p) i).0 in
          left_used m (equal_named p z m among) (equal_single p z m among).0 (left_before m n i (used_left n u));
    }

-- ---- a packing is one with fixed numbers

module _ (p : PuzzleValue) (z : IsPuzzle p) (chosen : ChoiceValue → Bool) (k : IsPacking p chosen) where
  among : (c : ChoiceValue) → chosen c ≡ true → IsIn c (layable p)
  among c h = in_layable p (has_shapes p z) c (k.placed c h)

  -- the spare copies that it leaves out
  gone_by : List ℕ
  gone_by = filter (λ n. not (uses p chosen n)) (spare_names p)

  unused : (n : ℕ) → has_name gone_by n ≡ true → (is_spare p n ≡ true) × (uses p chosen n ≡ false)
  unfolding gone_by
  unused n h =
      let kept = in_from_filter (λ (m : ℕ). not (uses p chosen m)) n (spare_names p) (in_from_name gone_by n h) in
      (name_from_in (spare_names p) n kept.0, not-true _ kept.1)

  goes : (n : ℕ) → is_spare p n ≡ true → uses p chosen n ≡ false → has_name gone_by n ≡ true
  unfolding gone_by
  goes n s f = name_from_in gone_by n (in_filter (λ (m : ℕ). not (uses p chosen m)) n (spare_names p) (in_from_name (spare_names p) n s) (not_from_false _ f))

  spare_if : (n : ℕ) → IsIn n (names_of (pieces_of p)) → is_needed p n ≡ true → uses p chosen n ≡ false → is_spare p n ≡ true
  spare_if n i needed f = true_from_ne_false _ (λ sure. both_ways (uses p chosen n) f (from_used p chosen among n (k.used n i needed sure)))

  are_ends : AreSpareEnds p gone_by
  are_ends = record {
    spare = λ n h. (unused n h).0;
    ends = λ m n i h.
        let there = (among_groups m n (equal_names p) i).1 in
        let f : uses p chosen n ≡ false =
        false_from_ne_true _ (λ t. both_ways (uses p chosen m) (unused m h).1 (from_used p chosen among m (k.in_turn m n i (used_from p chosen n t)))) in
        goes n (spare_if n (equal_named p z n there) (equal_single p z n there).0 f) f;
  }

  left_if_used : (n : ℕ) → IsUsed chosen n → is_kept gone_by n ≡ true
  left_if_used n u = not_from_false _ (false_from_ne_true _ (λ g. both_ways (uses p chosen n) (unused n g).1 (from_used p chosen among n u)))

  used_if_left : (n : ℕ) → IsIn n (names_of (pieces_of p)) → is_needed p n ≡ true → is_kept gone_by n ≡ true → IsUsed chosen n
  used_if_left n i needed t =
      used_from p chosen n (true_from_ne_false _ (λ f. both_ways (has_name gone_by n) (not-true _ t) (goes n (spare_if n i needed f) f)))

  to_fixed : IsPacking (fixed_without gone_by p) chosen
  to_fixed = record {
    placed = λ c h. to_placed p z gone_by are_ends c (left_if_used c.name (c, h, refl)) (k.placed c h);
    once = λ c d s t one. k.once c d s t (sym (same_any p z gone_by are_ends c.name (left_if_used c.name (c, s, refl))) ∙ one);
    used = λ n i needed sure.
        let from = from_names p z gone_by are_ends n i in
        used_if_left n from.0 (sym (same_needed p z gone_by are_ends n from.1) ∙ needed) from.1;
    filled = k.filled;
    apart = k.apart;
    ordered = λ c d h g i. k.ordered c d h g (from_pairs p z gone_by are_ends c.name d.name i);
    in_turn = λ m n i u. k.in_turn m n (from_pairs p z gone_by are_ends m n i) u;
  }

-- ---- of one puzzle alone

-- what the one leaves out the other leaves out
leaves_too : (p : PuzzleValue) (z : IsPuzzle p) (gone more : List ℕ) (chosen : ChoiceValue → Bool) → AreSpareEnds p gone → AreSpareEnds p more → IsPacking (fixed_without gone p) chosen
    → IsPacking (fixed_without more p) chosen → (n : ℕ) → has_name gone n ≡ true → has_name more n ≡ true
leaves_too p z gone more chosen e f k l n h =
    true_from_ne_false _ (λ not_more.
    let among = in_from_name (all_of (equal_names p)) n (passes (has_name (all_of (equal_names p))) (spare_names p) (spare_equal p z) n (in_from_name (spare_names p) n (e.spare n h))) in
    let u = left_used p z more f chosen l n (equal_named p z n among) (equal_single p z n among).0 (not_from_false _ not_more) in
    both_ways (has_name gone n) (not-true _ (used_left p z gone e chosen k n u)) h)

pub are_sums : (p : PuzzleValue) → IsPuzzle p → SumOfFixed p
are_sums p z = record {
  forth = λ chosen k. (gone_by p z chosen k, are_ends p z chosen k, to_fixed p z chosen k);
  back = λ gone chosen e k. from_fixed p z gone e chosen k;
  one = λ gone more chosen e f k l n. same_tests (has_name gone n) (has_name more n) (leaves_too p z gone more chosen e f k l n) (leaves_too p z more gone chosen f e l k n);
}

-- ---- without spare copies

none_in : {X : Type 0} (xs : List X) → ((x : X) → IsIn x xs → ⊥) → xs ≡ []
none_in [] h = refl
none_in (x ∷ xs) h = absurd (h x (inl refl))

pub sure_puzzles_stay : SurePuzzlesStay
unfolding packing_problem
sure_puzzles_stay p none =
    let empty = none_in (leavings p) (λ parts i.
    let l = leaving_is p parts i in
    both_ways (is_spare p l.parted.first) (ap (λ (ns : List ℕ). has_name ns l.parted.first) none) (l.spare l.parted.first (first_left l.group parts l.parted))) in
    ap (λ (ls : List (List ℕ × List ℕ)). map (option_of p) (every_choice p) ++ map (leaving_option p) ls) empty ∙ append-nil (map (option_of p) (every_choice p))
