-- What a puzzle tells of its pieces; and equal pieces: they are needed, have one shape, and the last of a group may be spare.
use Rattle.std.proofs.Common.{cond, inl, inr, append-nil, ◌≡◌, ◌<◌, ℕ, ◌==◌, ◌-◌, List, [], ◌∷◌, ◌++◌, take, drop, flat_map, length, Bool, true, false, not, ◌&&◌, nat_lt, nat_le, refl, sym, ap, ap₂, ◌∙◌, subst, arith, eqb-true, ltb-true}
use Rattle.std.specs.List.{list_all}
use Rattle.std.proofs.lemmas.Bool.{not_from_false, not-true, and_parts, and_from, false_from_ne_true, both_ways}
use Rattle.std.proofs.lemmas.Grind.{flat_map-append}
use Rattle.std.proofs.lemmas.List.{take-append-drop}
use Rattle.std.proofs.Math.Seq.{drop-length}
use Rattle.poly_cells.specs.Coordinates.{Coordinates}
use Rattle.poly_cells.specs.Sets.{IsIn}
use Rattle.poly_cells.proofs.MemberLemmas.{in_flat_map, in_from_flat_map, all_pass}
use Rattle.poly_cells.proofs.SetLemmas.{in_append_left, in_append_right, in_map}
use Rattle.poly_texts.specs.declared.usage.Usage.{Usage}
use Rattle.poly_texts.specs.declared.usage.Usage.TheVariants as usages
use Rattle.poly_texts.specs.Usages.{is_maybe, is_repeatable, are_copies, may_spare}
use Rattle.poly_texts.specs.Kinds.{KindValue, given_if, named_shapes, kind_names, kind_pieces, kind_maybe, kind_any, kind_mirrored, kind_equal, kind_copies, kind_needed, kind_spare}
use Rattle.poly_texts.specs.Puzzle.{PuzzleValue, pieces_of, maybe_names, any_names, mirrored_names, equal_names, copy_symbols, spare_names, symbols_in, names_of, has_name, are_new, is_spare, is_needed, come_last, IsOneShape, shows_copies, IsPuzzle}
use Rattle.poly_texts.proofs.FreshLemmas.{has_in, in_has, new_apart}
use Rattle.poly_texts.proofs.KindLemmas.{in_if, if_in, IsOwn, names_own, given_own, spare_own, kind_new, one_kind, told_by, told_new, told_none, given_has, names_flat, piece_in}

-- *groups*

-- the symbols of equal pieces
abbrev copies_of : KindValue → List ℕ
copies_of k = given_if (are_copies k.usage) k.symbols

groups_flat : (ks : List KindValue) → flat_map (λ group. group) (flat_map kind_equal ks) ≡ flat_map copies_of ks
groups_flat [] = refl
groups_flat (k ∷ ks) = flat_map-append (λ group. group) (kind_equal k) (flat_map kind_equal ks) ∙ ap₂ (λ (ns ms : List ℕ). ns ++ ms) (one (are_copies k.usage)) (groups_flat ks)
  where
    one : (b : Bool) → flat_map (λ group. group) (given_if b (k.symbols ∷ [])) ≡ given_if b k.symbols
    one true = append-nil k.symbols
    one false = refl

copies_own : IsOwn copies_of
copies_own k n i = (in_if (are_copies k.usage) n k.symbols i).1

-- a group is the symbols of a kind
pub group_is : (k : KindValue) (group : List ℕ) → IsIn group (kind_equal k) → (are_copies k.usage ≡ true) × (group ≡ k.symbols)
group_is k group i = let g = in_if (are_copies k.usage) group (k.symbols ∷ []) i in (g.0, elim g.1 [ inl e ↦ e | inr r ↦ absurd r ])

copies_are : (usage : Usage) → are_copies usage ≡ true → usage ≡ usages.Copies
copies_are usages.Once h = absurd (cc)
copies_are usages.Maybe h = absurd (cc)
copies_are usages.Any h = absurd (cc)
copies_are usages.Copies h = refl

repeatable_is : (usage : Usage) → is_repeatable usage ≡ true → usage ≡ usages.Any
repeatable_is usages.Once h = absurd (cc)
repeatable_is usages.Maybe h = absurd (cc)
repeatable_is usages.Any h = refl
repeatable_is usages.Copies h = absurd (cc)

-- spare pieces are copies
spare_copies : (k : KindValue) (n : ℕ) → may_spare k.usage k.spare (length k.symbols) ≡ true → IsIn n (kind_spare k) → are_copies k.usage ≡ true
spare_copies k n h i = by_usage k.usage h
  where
    none : k.spare ≡ 0 → ⊥
    none e =
        let all : length k.symbols - k.spare ≡ length k.symbols = omega (arith, e) in
        subst (λ (ns : List ℕ). IsIn n ns) (ap (λ m. drop m k.symbols) all ∙ drop-length k.symbols) i

    by_usage : (usage : Usage) → may_spare usage k.spare (length k.symbols) ≡ true → are_copies usage ≡ true
    by_usage usages.Once e = absurd (none (eqb-true k.spare 0 e))
    by_usage usages.Maybe e = absurd (none (eqb-true k.spare 0 e))
    by_usage usages.Any e = absurd (none (eqb-true k.spare 0 e))
    by_usage usages.Copies e = refl

module _ (p : PuzzleValue) (z : IsPuzzle p) where
  -- no name stands in two groups, or twice in one
  pub equal_new : are_new (flat_map (λ group. group) (equal_names p)) ≡ true
  unfolding equal_names
  equal_new = rw (groups_flat p.kinds) (told_new copies_of copies_own (λ k h. keeps (are_copies k.usage) k.symbols h) p.kinds z.new)
    where
      keeps : (b : Bool) (ns : List ℕ) → are_new ns ≡ true → are_new (given_if b ns) ≡ true
      keeps true ns h = h
      keeps false ns h = refl

  -- the kind of one of equal pieces
  in_group : (n : ℕ) → IsIn n (flat_map copies_of p.kinds) → (k : KindValue) × IsIn k p.kinds × (are_copies k.usage ≡ true) × IsIn n k.symbols
  in_group n i =
      let k = in_from_flat_map copies_of n p.kinds i in
      let g = in_if (are_copies k.0.usage) n k.0.symbols k.2 in
      (k.0, k.1, g.0, g.1)

  -- equal pieces are needed
  pub equal_needed : list_all (λ n. has_name (names_of (pieces_of p)) n && is_needed p n) (flat_map (λ group. group) (equal_names p)) ≡ true
  unfolding equal_names pieces_of maybe_names any_names
  equal_needed = rw (groups_flat p.kinds, names_flat p.kinds) (all_pass (λ n. has_name (flat_map kind_names p.kinds) n && is_needed p n) (flat_map copies_of p.kinds) (λ n i. needed n (in_group n i)))
    where
      needed : (n : ℕ) → (k : KindValue) × IsIn k p.kinds × (are_copies k.usage ≡ true) × IsIn n k.symbols → (has_name (flat_map kind_names p.kinds) n && is_needed p n) ≡ true
      needed n (k, there, copies, i) =
          let is = copies_are k.usage copies in
          let told = told_by p.kinds z.new in
          and_from _ _ (told kind_names names_own k there n i ∙ rw is (has_in k.symbols n i))
          (and_from _ _ (not_from_false _ (told kind_maybe (given_own (λ j. is_maybe j.usage)) k there n i ∙ rw is refl))
          (not_from_false _ (told kind_any (given_own (λ j. is_repeatable j.usage)) k there n i ∙ rw is refl)))

  -- *one shape*

  module _ (k : KindValue) (there : IsIn k p.kinds) (copies : are_copies k.usage ≡ true) where
    shape_to : (m n : ℕ) → IsIn m k.symbols → IsIn n k.symbols → (vs : List Coordinates) → IsIn (m, vs) (flat_map kind_pieces p.kinds) → IsIn (n, vs) (flat_map kind_pieces p.kinds)
    shape_to m n a b vs i =
        let j = piece_in p.kinds m vs i in
        let same = one_kind p.kinds z.new j.0 k m j.1 there (names_own j.0 m j.2) a in
        let named : IsIn n (kind_names k) = rw (copies_are k.usage copies) b in
        in_flat_map kind_pieces (n, vs) k p.kinds there
        (subst (λ (ws : List Coordinates). IsIn (n, ws) (kind_pieces k)) (sym (j.3 ∙ ap (λ (x : KindValue). x.cells) same)) (in_map (λ q. (q, k.cells)) n (kind_names k) named))

    mirrored_is : (n : ℕ) → IsIn n k.symbols → has_name (flat_map kind_mirrored p.kinds) n ≡ k.mirrored
    mirrored_is n i =
        told_by p.kinds z.new kind_mirrored (given_own (λ j. j.mirrored)) k there n i
        ∙ rw (copies_are k.usage copies) (given_has k.mirrored k.symbols n i)

  pub equal_shapes : (group : List ℕ) (m n : ℕ) → IsIn group (equal_names p) → IsIn m group → IsIn n group → IsOneShape p m n
  unfolding equal_names pieces_of mirrored_names
  equal_shapes group m n i a b =
      let k = in_from_flat_map kind_equal group p.kinds i in
      let g = group_is k.0 group k.2 in
      let x : IsIn m k.0.symbols = subst (λ (ns : List ℕ). IsIn m ns) g.1 a in
      let y : IsIn n k.0.symbols = subst (λ (ns : List ℕ). IsIn n ns) g.1 b in (
        (λ vs. (shape_to k.0 k.1 g.0 m n x y vs, shape_to k.0 k.1 g.0 n m y x vs)),
        mirrored_is k.0 k.1 g.0 m x ∙ sym (mirrored_is k.0 k.1 g.0 n y),
      )

  -- *spare copies*

  pub spare_equal : list_all (has_name (flat_map (λ group. group) (equal_names p))) (spare_names p) ≡ true
  unfolding equal_names spare_names
  spare_equal =
      rw (groups_flat p.kinds)
      (all_pass (has_name (flat_map copies_of p.kinds)) (flat_map kind_spare p.kinds) (λ n i.
      let k = in_from_flat_map kind_spare n p.kinds i in
      has_in (flat_map copies_of p.kinds) n
      (in_flat_map copies_of n k.0 p.kinds k.1 (if_in (are_copies k.0.usage) n k.0.symbols (spare_copies k.0 n (z.kinds_are k.0 k.1).spares k.2) (spare_own k.0 n k.2)))))

  pub spare_last : list_all (come_last (is_spare p)) (equal_names p) ≡ true
  unfolding equal_names spare_names
  spare_last = all_pass (come_last (has_name (flat_map kind_spare p.kinds))) (flat_map kind_equal p.kinds) (λ group i. let k = in_from_flat_map kind_equal group p.kinds i in subst (λ ns. come_last (has_name (flat_map kind_spare p.kinds)) ns ≡ true) (sym (group_is k.0 group k.2).1) (last k.0 k.1))
    where
      all_last : (test : ℕ → Bool) (ns : List ℕ) → ((n : ℕ) → IsIn n ns → test n ≡ true) → come_last test ns ≡ true
      all_last test [] h = refl
      all_last test (n ∷ ns) h = ap (λ b. cond b (list_all test ns) (come_last test ns)) (h n (inl refl)) ∙ all_pass test ns (λ m i. h m (inr i))

      both_last : (test : ℕ → Bool) (ns ms : List ℕ) → ((n : ℕ) → IsIn n ns → test n ≡ false) → ((n : ℕ) → IsIn n ms → test n ≡ true) → come_last test (ns ++ ms) ≡ true
      both_last test [] ms f g = all_last test ms g
      both_last test (n ∷ ns) ms f g = ap (λ b. cond b (list_all test (ns ++ ms)) (come_last test (ns ++ ms))) (f n (inl refl)) ∙ both_last test ns ms (λ m i. f m (inr i)) g

      last : (k : KindValue) → IsIn k p.kinds → come_last (has_name (flat_map kind_spare p.kinds)) k.symbols ≡ true
      last k there =
          let whole = take-append-drop (length k.symbols - k.spare) k.symbols in
          let told = told_by p.kinds z.new kind_spare spare_own k there in
          let apart = new_apart (kind_needed k) (kind_spare k) (subst (λ ns. are_new ns ≡ true) (sym whole) (kind_new p.kinds z.new k there)) in
          let own : (n : ℕ) → IsIn n (kind_needed k) → IsIn n k.symbols = λ n i. subst (λ (ns : List ℕ). IsIn n ns) whole (in_append_left n (kind_needed k) (kind_spare k) i) in
          subst (λ ns. come_last (has_name (flat_map kind_spare p.kinds)) ns ≡ true) whole
          (both_last (has_name (flat_map kind_spare p.kinds)) (kind_needed k) (kind_spare k) (λ n i. told n (own n i) ∙ apart.1 n i) (λ n i. told n (spare_own k n i) ∙ has_in (kind_spare k) n i))

  -- *what is told of one piece*

  -- whether the pieces of a kind are so, all kinds tell
  pub given_of : (test : KindValue → Bool) (k : KindValue) → IsIn k p.kinds → (n : ℕ) → IsIn n (kind_names k) → has_name (flat_map (λ j. given_if (test j) (kind_names j)) p.kinds) n ≡ test k
  given_of test k there n i = told_by p.kinds z.new (λ j. given_if (test j) (kind_names j)) (given_own test) k there n (names_own k n i) ∙ given_has (test k) (kind_names k) n i

  pub given_none : (test : KindValue → Bool) (n : ℕ) → has_name (names_of (flat_map kind_pieces p.kinds)) n ≡ false → has_name (flat_map (λ j. given_if (test j) (kind_names j)) p.kinds) n ≡ false
  given_none test n none = told_none (λ j. given_if (test j) (kind_names j)) p.kinds n (λ k there i. (in_if (test k) n (kind_names k) i).1) (rw names_flat at none)

  pub spare_of : (k : KindValue) → IsIn k p.kinds → (n : ℕ) → IsIn n (kind_names k) → has_name (flat_map kind_spare p.kinds) n ≡ has_name (kind_spare k) n
  spare_of k there n i = told_by p.kinds z.new kind_spare spare_own k there n (names_own k n i)

  pub spare_none : (n : ℕ) → has_name (names_of (flat_map kind_pieces p.kinds)) n ≡ false → has_name (flat_map kind_spare p.kinds) n ≡ false
  spare_none n none = told_none kind_spare p.kinds n (λ k there i. rw (copies_are k.usage (spare_copies k n (z.kinds_are k there).spares i)) (spare_own k n i)) (rw names_flat at none)

  -- *pieces that may be used any number of times*

  -- the kind of one of them
  any_kind : (n : ℕ) → IsIn n (flat_map kind_any p.kinds) → (k : KindValue) × IsIn k p.kinds × (is_repeatable k.usage ≡ true) × IsIn n (kind_names k)
  any_kind n i =
      let k = in_from_flat_map kind_any n p.kinds i in
      let g = in_if (is_repeatable k.0.usage) n (kind_names k.0) k.2 in
      (k.0, k.1, g.0, g.1)

  pub any_named : list_all (has_name (names_of (pieces_of p))) (any_names p) ≡ true
  unfolding pieces_of any_names
  any_named =
      rw names_flat (all_pass (has_name (flat_map kind_names p.kinds)) (flat_map kind_any p.kinds) (λ n i.
      let k = any_kind n i in has_in (flat_map kind_names p.kinds) n (in_flat_map kind_names n k.0 p.kinds k.1 k.3)))

  pub any_not_maybe : list_all (λ n. not (has_name (maybe_names p) n)) (any_names p) ≡ true
  unfolding any_names maybe_names
  any_not_maybe = all_pass (λ n. not (has_name (flat_map kind_maybe p.kinds) n)) (flat_map kind_any p.kinds) (λ n i.
      let k = any_kind n i in not_from_false _ (given_of (λ j. is_maybe j.usage) k.0 k.1 n k.3 ∙ ap is_maybe (repeatable_is k.0.usage k.2)))

  pub symbols_show : list_all (shows_copies p) (copy_symbols p) ≡ true
  unfolding copy_symbols any_names pieces_of
  symbols_show = all_pass (shows_copies p) (flat_map kind_copies p.kinds) (λ word i.
      let k = in_from_flat_map kind_copies word p.kinds i in
      let g = in_if (is_repeatable k.0.usage && nat_lt 1 (length k.0.symbols)) word (k.0.symbols ∷ []) k.2 in
      let both = and_parts (is_repeatable k.0.usage) (nat_lt 1 (length k.0.symbols)) g.0 in
      subst (λ w. shows_copies p w ≡ true) (sym (elim g.1 [ inl e ↦ e | inr r ↦ absurd r ]))
      (shows k.0 k.1 (repeatable_is k.0.usage both.0) k.0.symbols refl (ltb-true 1 (length k.0.symbols) both.1)))
    where
      shows : (k : KindValue) → IsIn k p.kinds → k.usage ≡ usages.Any → (word : List ℕ) → k.symbols ≡ word → 1 < length word → shows_copies p word ≡ true
      shows k there any [] e h = absurd (omega arith)
      shows k there any (n ∷ ns) e h =
          let name : kind_names k ≡ n ∷ [] = rw (any, e) refl in
          let first : IsIn n (kind_names k) = rw name (inl refl) in
          let own = and_parts (not (has_name ns n)) (are_new ns) (subst (λ ms. are_new ms ≡ true) e (kind_new p.kinds z.new k there)) in
          let told : (m : ℕ) → IsIn m ns → has_name (names_of (flat_map kind_pieces p.kinds)) m ≡ has_name (n ∷ []) m =
          λ m i. ap (λ ms. has_name ms m) (names_flat p.kinds) ∙ told_by p.kinds z.new kind_names names_own k there m (rw e (inr i)) ∙ ap (λ ms. has_name ms m) name in
          and_from _ _ (given_of (λ j. is_repeatable j.usage) k there n first ∙ ap is_repeatable any)
          (all_pass (λ m. not (has_name (names_of (flat_map kind_pieces p.kinds)) m)) ns (λ m i.
          not_from_false _ (told m i ∙ false_from_ne_true _ (λ t. other m i (not-true _ own.0) (in_has (n ∷ []) m t)))))
        where
          other : (m : ℕ) → IsIn m ns → has_name ns n ≡ false → IsIn m (n ∷ []) → ⊥
          other m i none (inl q) = both_ways (has_name ns n) none (has_in ns n (subst (λ j. IsIn j ns) q i))
          other m i none (inr q) = absurd q
