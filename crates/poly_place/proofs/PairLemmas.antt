-- Equal pieces that follow one another: the two differ, and the one after a piece is one alone.
use Rattle.std.proofs.Common.{◌≡◌, ℕ, List, [], ◌∷◌, ◌++◌, flat_map, true, false, not, ◌&&◌, inl, inr, sym, ap, subst, ◌∙◌}
use Rattle.std.proofs.lemmas.Bool.{and_parts, not-true}
use Rattle.poly_cells.specs.Sets.{IsIn}
use Rattle.poly_cells.proofs.SetLemmas.{in_append_left, in_append_right, in_append_cases}
use Rattle.poly_cells.proofs.MemberLemmas.{in_flat_map, in_from_flat_map, passes}
use Rattle.poly_texts.specs.Puzzle.{PuzzleValue, IsPuzzle, names_of, has_name, is_needed, pieces_of, maybe_names, any_names, equal_names}
use Rattle.poly_texts.proofs.EqualLemmas.{equal_new, equal_needed}
use Rattle.poly_place.specs.Packings.{neighbours, pairs, is_any}
use Rattle.poly_place.proofs.DistinctLemmas.{IsDistinct, distinct_names, in_from_name}

-- ---- in one group

-- both are names of the group
pub in_group : (m n : ℕ) (ns : List ℕ) → IsIn (m, n) (neighbours ns) → IsIn m ns × IsIn n ns
in_group m n [] i = absurd i
in_group m n (a ∷ []) i = absurd i
in_group m n (a ∷ b ∷ ns) i =
    elim i [
      | inl e ↦ (inl (ap (λ (q : ℕ × ℕ). q.0) e), inr (inl (ap (λ (q : ℕ × ℕ). q.1) e)))
      | inr r ↦ let rest = in_group m n (b ∷ ns) r in (inr rest.0, inr rest.1)
    ]

differ_in : (m n : ℕ) (ns : List ℕ) → IsDistinct ns → IsIn (m, n) (neighbours ns) → m ≡ n → ⊥
differ_in m n [] d i e = absurd i
differ_in m n (a ∷ []) d i e = absurd i
differ_in m n (a ∷ b ∷ ns) d i e =
    elim i [
      | inl q ↦ d.0 (inl (sym (ap (λ (q : ℕ × ℕ). q.0) q) ∙ e ∙ ap (λ (q : ℕ × ℕ). q.1) q))
      | inr r ↦ differ_in m n (b ∷ ns) d.1 r e
    ]

next_in : (m n k : ℕ) (ns : List ℕ) → IsDistinct ns → IsIn (m, n) (neighbours ns) → IsIn (m, k) (neighbours ns) → n ≡ k
next_in m n k [] d i j = absurd i
next_in m n k (a ∷ []) d i j = absurd i
next_in m n k (a ∷ b ∷ ns) d i j =
    elim i [
      | inl p ↦ elim j [
        | inl q ↦ ap (λ (q : ℕ × ℕ). q.1) p ∙ sym (ap (λ (q : ℕ × ℕ). q.1) q)
        | inr q ↦ absurd (d.0 (subst (λ (x : ℕ). IsIn x (b ∷ ns)) (ap (λ (q : ℕ × ℕ). q.0) p) (in_group m k (b ∷ ns) q).0))
      ]
      | inr p ↦ elim j [
        | inl q ↦ absurd (d.0 (subst (λ (x : ℕ). IsIn x (b ∷ ns)) (ap (λ (q : ℕ × ℕ). q.0) q) (in_group m n (b ∷ ns) p).0))
        | inr q ↦ next_in m n k (b ∷ ns) d.1 p q
      ]
    ]

-- ---- in some group

abbrev pub all_of : List (List ℕ) → List ℕ
all_of groups = flat_map (λ group. group) groups

pub distinct_left : {X : Type 0} (xs ys : List X) → IsDistinct (xs ++ ys) → IsDistinct xs
distinct_left [] ys d = tt
distinct_left (x ∷ xs) ys d = ((λ i. d.0 (in_append_left x xs ys i)), distinct_left xs ys d.1)

pub distinct_right : {X : Type 0} (xs ys : List X) → IsDistinct (xs ++ ys) → IsDistinct ys
distinct_right [] ys d = d
distinct_right (x ∷ xs) ys d = distinct_right xs ys d.1

pub distinct_apart : {X : Type 0} (x : X) (xs ys : List X) → IsDistinct (xs ++ ys) → IsIn x xs → IsIn x ys → ⊥
distinct_apart x [] ys d i j = absurd i
distinct_apart {X} x (z ∷ zs) ys d i j =
    elim i [
      | inl e ↦ d.0 (in_append_right z zs ys (subst (λ (w : X). IsIn w ys) e j))
      | inr r ↦ distinct_apart x zs ys d.1 r j
    ]

pub among_groups : (m n : ℕ) (groups : List (List ℕ)) → IsIn (m, n) (flat_map neighbours groups) → IsIn m (all_of groups) × IsIn n (all_of groups)
among_groups m n groups i =
    let g = in_from_flat_map neighbours (m, n) groups i in
    let both = in_group m n g.0 g.2 in
    (in_flat_map (λ (group : List ℕ). group) m g.0 groups g.1 both.0, in_flat_map (λ (group : List ℕ). group) n g.0 groups g.1 both.1)

differ_among : (m n : ℕ) (groups : List (List ℕ)) → IsDistinct (all_of groups) → IsIn (m, n) (flat_map neighbours groups) → m ≡ n → ⊥
differ_among m n [] d i e = absurd i
differ_among m n (g ∷ gs) d i e =
    elim (in_append_cases (m, n) (neighbours g) (flat_map neighbours gs) i) [
      | inl l ↦ differ_in m n g (distinct_left g (all_of gs) d) l e
      | inr r ↦ differ_among m n gs (distinct_right g (all_of gs) d) r e
    ]

next_among : (m n k : ℕ) (groups : List (List ℕ)) → IsDistinct (all_of groups) → IsIn (m, n) (flat_map neighbours groups) → IsIn (m, k) (flat_map neighbours groups) → n ≡ k
next_among m n k [] d i j = absurd i
next_among m n k (g ∷ gs) d i j =
    elim (in_append_cases (m, n) (neighbours g) (flat_map neighbours gs) i) [
      | inl p ↦ elim (in_append_cases (m, k) (neighbours g) (flat_map neighbours gs) j) [
        | inl q ↦ next_in m n k g (distinct_left g (all_of gs) d) p q
        | inr q ↦ absurd (distinct_apart m g (all_of gs) d (in_group m n g p).0 (among_groups m k gs q).0)
      ]
      | inr p ↦ elim (in_append_cases (m, k) (neighbours g) (flat_map neighbours gs) j) [
        | inl q ↦ absurd (distinct_apart m g (all_of gs) d (in_group m k g q).0 (among_groups m n gs p).0)
        | inr q ↦ next_among m n k gs (distinct_right g (all_of gs) d) p q
      ]
    ]

-- ---- of a puzzle

pub pair_differs : (p : PuzzleValue) → IsPuzzle p → (m n : ℕ) → IsIn (m, n) (pairs p) → m ≡ n → ⊥
pair_differs p z m n i e = differ_among m n (equal_names p) (distinct_names (all_of (equal_names p)) (equal_new p z)) i e

pub pair_next : (p : PuzzleValue) → IsPuzzle p → (m n k : ℕ) → IsIn (m, n) (pairs p) → IsIn (m, k) (pairs p) → n ≡ k
pair_next p z m n k i j = next_among m n k (equal_names p) (distinct_names (all_of (equal_names p)) (equal_new p z)) i j

-- equal pieces are used once
pub equal_single : (p : PuzzleValue) → IsPuzzle p → (n : ℕ) → IsIn n (all_of (equal_names p)) → (is_needed p n ≡ true) × (is_any p n ≡ false)
equal_single p z n i =
    let known = passes (λ (k : ℕ). has_name (names_of (pieces_of p)) k && is_needed p k) (all_of (equal_names p)) (equal_needed p z) n i in
    let needed = (and_parts (has_name (names_of (pieces_of p)) n) (is_needed p n) known).1 in
    (needed, not-true (is_any p n) (and_parts (not (has_name (maybe_names p) n)) (not (has_name (any_names p) n)) needed).1)

-- and their names are those of pieces
pub equal_named : (p : PuzzleValue) → IsPuzzle p → (n : ℕ) → IsIn n (all_of (equal_names p)) → IsIn n (names_of (pieces_of p))
equal_named p z n i =
    let known = passes (λ (k : ℕ). has_name (names_of (pieces_of p)) k && is_needed p k) (all_of (equal_names p)) (equal_needed p z) n i in
    in_from_name (names_of (pieces_of p)) n (and_parts (has_name (names_of (pieces_of p)) n) (is_needed p n) known).0

pub pair_single : (p : PuzzleValue) → IsPuzzle p → (m n : ℕ) → IsIn (m, n) (pairs p) → (is_any p m ≡ false) × (is_any p n ≡ false)
pair_single p z m n i =
    let both = among_groups m n (equal_names p) i in
    ((equal_single p z m both.0).1, (equal_single p z n both.1).1)
