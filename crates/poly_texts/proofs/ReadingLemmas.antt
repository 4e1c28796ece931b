-- How the reader's steps give what a text says.
use Rattle.std.proofs.Common.{◌+◌, ◌<◌, length, get_or, drop, take, flat_map, sym, ◌∙◌, append_assoc, ◌≡◌, ℕ, ◌==◌, List, [], ◌∷◌, ◌++◌, Bool, true, false, cond, ◌||◌, Some, None, refl, ap, subst}
use Rattle.std.proofs.lemmas.Bool.{or_parts, or_from, false_from_ne_true, both_ways}
use Rattle.std.proofs.lemmas.Grind.{flat_map-append}
use Rattle.std.proofs.lemmas.List.{drop_more, take_more, take-append-drop, map-append}
use Rattle.std.proofs.lemmas.List.Folds.{list_any-append}
use Rattle.indexmap.specs.IndexMap.{insert_entry}
use Rattle.text_lines.specs.Lines.{is_empty}
use Rattle.poly_cells.specs.Coordinates.{Coordinates}
use Rattle.poly_cells.specs.Sets.{IsIn}
use Rattle.poly_cells.proofs.SetLemmas.{in_append_left}
use Rattle.poly_texts.specs.Kinds.{KindValue, named_shapes, kind_names, kind_pieces}
use Rattle.poly_texts.specs.Puzzle.{symbols_in, names_of, has_name, has_piece, are_new}
use Rattle.poly_texts.specs.Reading.{three_words, some_repeated}
use Rattle.poly_texts.proofs.FreshLemmas.{has_in, in_has, named_in, named_keeps, new_apart, new_first, fresh_from}
use Rattle.poly_texts.proofs.KindLemmas.{names_own, own_among, names_flat}

-- *words*

after_third : (a b c : List ℕ) (more : List (List ℕ)) → is_empty more ≡ true → Some (a, b, c) ≡ three_words (a ∷ b ∷ c ∷ more)
after_third a b c [] h = refl
after_third a b c (w ∷ ws) h = absurd (cc)

after_fourth : (a b c : List ℕ) (more : List (List ℕ)) → is_empty more ≡ false → None ≡ three_words (a ∷ b ∷ c ∷ more)
after_fourth a b c [] h = absurd (cc)
after_fourth a b c (w ∷ ws) h = refl

module _ (all after_a after_b after_c : List (List ℕ)) (a b c : List ℕ) (first : all ≡ a ∷ after_a) (second : after_a ≡ b ∷ after_b) (third : after_b ≡ c ∷ after_c) where
  pub three_found : is_empty after_c ≡ true → Some (a, b, c) ≡ three_words all
  three_found h = rw (first, second, third) (after_third a b c after_c h)

  pub more_found : is_empty after_c ≡ false → None ≡ three_words all
  more_found h = rw (first, second, third) (after_fourth a b c after_c h)

-- *pieces by name*

pub entered : (pieces : List (ℕ × List Coordinates)) (name : ℕ) (shape : List Coordinates) → has_piece pieces name ≡ false → insert_entry (λ m n. m == n) pieces name shape ≡ pieces ++ (name, shape) ∷ []
entered [] name shape h = refl
entered (p ∷ ps) name shape h = by_test (name == p.0) h (entered ps name shape)
  where
    by_test : (b : Bool) → (b || has_piece ps name) ≡ false → (has_piece ps name ≡ false → insert_entry (λ m n. m == n) ps name shape ≡ ps ++ (name, shape) ∷ []) → cond b ((p.0, shape) ∷ ps) (p ∷ insert_entry (λ m n. m == n) ps name shape) ≡ p ∷ ps ++ (name, shape) ∷ []
    by_test true h later = absurd (cc)
    by_test false h later = ap (λ qs. p ∷ qs) (later h)

-- *names that are gone through*

module _ (pieces : List (ℕ × List Coordinates)) (names : List ℕ) (k n : ℕ) (within : k < length names) (is : n ≡ get_or names k n) where
  parted : drop k names ≡ n ∷ drop (k + 1) names
  parted = drop_more names k n within ∙ ap (λ m. m ∷ drop (k + 1) names) (sym is)

  whole_is : some_repeated (has_piece pieces) (drop k names) ≡ (has_piece pieces n || (has_name (drop (k + 1) names) n || some_repeated (has_piece pieces) (drop (k + 1) names)))
  whole_is = ap (some_repeated (has_piece pieces)) parted

  -- what is not repeated is not repeated later either, also with this one there
  pub fresh_later : (shape : List Coordinates) → some_repeated (has_piece pieces) (drop k names) ≡ false → some_repeated (has_piece (pieces ++ (n, shape) ∷ [])) (drop (k + 1) names) ≡ false
  fresh_later shape h =
      let p = or_parts (has_piece pieces n) (has_name (drop (k + 1) names) n || some_repeated (has_piece pieces) (drop (k + 1) names)) (sym whole_is ∙ h) in
      let q = or_parts (has_name (drop (k + 1) names) n) (some_repeated (has_piece pieces) (drop (k + 1) names)) p.1 in
      more_fresh pieces n shape (drop (k + 1) names) q.0 q.1
    where
      more_fresh : (pieces : List (ℕ × List Coordinates)) (n : ℕ) (shape : List Coordinates) (ns : List ℕ) → has_name ns n ≡ false → some_repeated (has_piece pieces) ns ≡ false → some_repeated (has_piece (pieces ++ (n, shape) ∷ [])) ns ≡ false
      more_fresh pieces n shape [] a b = refl
      more_fresh pieces n shape (m ∷ ms) a b =
          let p = or_parts (has_piece pieces m) (has_name ms m || some_repeated (has_piece pieces) ms) b in
          let q = or_parts (has_name ms m) (some_repeated (has_piece pieces) ms) p.1 in
          let r = or_parts (m == n) (has_name ms n) a in
          or_from _ _ (list_any-append (λ e. m == e.0) pieces ((n, shape) ∷ []) ∙ or_from _ _ p.0 (or_from _ _ r.0 refl)) (or_from _ _ q.0 (more_fresh pieces n shape ms r.1 q.1))

  pub shapes_more : (shape : List Coordinates) (before : List (ℕ × List Coordinates)) → pieces ≡ before ++ named_shapes (take k names) shape → pieces ++ (n, shape) ∷ [] ≡ before ++ named_shapes (take (k + 1) names) shape
  shapes_more shape before so =
      ap (λ ps. ps ++ (n, shape) ∷ []) so ∙ append_assoc before (named_shapes (take k names) shape) ((n, shape) ∷ [])
      ∙ ap (λ ps. before ++ ps) (sym (ap (λ ns. named_shapes ns shape) (take_more names k n within ∙ ap (λ m. take k names ++ m ∷ []) (sym is)) ∙ map-append (λ m. (m, shape)) (take k names) (n ∷ [])))

-- *kinds that are gone through*

module _ (kinds : List KindValue) (i : ℕ) (k : KindValue) (within : i < length kinds) (is : k ≡ get_or kinds i k) where
  -- none of the names of this kind is one of the pieces of those before it
  pub next_fresh : are_new (symbols_in kinds) ≡ true → some_repeated (has_piece (flat_map kind_pieces (take i kinds))) (kind_names k) ≡ false
  next_fresh new =
      fresh_from (has_piece (flat_map kind_pieces (take i kinds))) (kind_names k) (named_keeps k.usage k.symbols (new_first k.symbols (symbols_in (drop (i + 1) kinds)) (new_apart (symbols_in (take i kinds)) later here).0))
      (λ n j. false_from_ne_true _ (λ t. both_ways (has_name later n) ((new_apart (symbols_in (take i kinds)) later here).1 n (earlier n t)) (has_in later n (in_append_left n k.symbols (symbols_in (drop (i + 1) kinds)) (names_own k n j)))))
    where
      later : List ℕ
      later = k.symbols ++ symbols_in (drop (i + 1) kinds)

      parts : kinds ≡ take i kinds ++ k ∷ drop (i + 1) kinds
      parts = sym (take-append-drop i kinds) ∙ ap (λ ks. take i kinds ++ ks) (drop_more kinds i k within ∙ ap (λ j. j ∷ drop (i + 1) kinds) (sym is))

      here : are_new (symbols_in (take i kinds) ++ (k.symbols ++ symbols_in (drop (i + 1) kinds))) ≡ true
      here = subst (λ ns. are_new ns ≡ true) (ap symbols_in parts ∙ flat_map-append (λ j. j.symbols) (take i kinds) (k ∷ drop (i + 1) kinds)) new

      earlier : (n : ℕ) → has_piece (flat_map kind_pieces (take i kinds)) n ≡ true → IsIn n (symbols_in (take i kinds))
      earlier n t =
          own_among kind_names names_own (take i kinds) n
          (subst (λ (ns : List ℕ). IsIn n ns) (names_flat (take i kinds)) (in_has (names_of (flat_map kind_pieces (take i kinds))) n (sym (named_in (flat_map kind_pieces (take i kinds)) n) ∙ t)))
