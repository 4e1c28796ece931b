-- Ways to leave out spare copies: how equal pieces are parted, and which options stand for it.
use Rattle.std.proofs.Common.{◌≡◌, ℕ, ◌-◌, ◌<◌, ◌≤◌, ◌==◌, List, [], ◌∷◌, ◌++◌, map, flat_map, length, get_or, Bool, true, false, ◌&&◌, ◌⊎◌, inl, inr, refl, sym, ap, ap₂, subst, ◌∙◌, arith, eqb-true, eq-eqb}
use Rattle.std.specs.List.{list_all, list_any}
use Rattle.std.proofs.lemmas.Bool.{cases_Bool, and_parts, and_from, both_ways, false_from_ne_true}
use Rattle.std.proofs.lemmas.List.{get_or-map, length-map, get_or_append_left, get_or-append_right}
use Rattle.poly_cells.specs.Sets.{IsIn}
use Rattle.poly_cells.proofs.SetLemmas.{in_append_right, in_map, in_from_map, in_at}
use Rattle.poly_cells.proofs.MemberLemmas.{in_flat_map, in_from_flat_map, in_from_filter, in_filter, all_pass, passes, some_passes, passes_some}
use Rattle.poly_texts.specs.Puzzle.{PuzzleValue, IsPuzzle, names_of, is_spare, pieces_of, equal_names}
use Rattle.poly_texts.proofs.EqualLemmas.{equal_new}
use Rattle.cover_problem.specs.Problem.{option_at}
use Rattle.poly_place.specs.Packings.{ChoiceValue, choice_with, neighbours, IsUsed, every_choice, partings, leavings_of, leavings, Thing, a_piece, things, things_of, option_of, leaving_option, packing_problem, laying_count, option_count, choice_at, leaving_at, LeavesOut}
use Rattle.poly_place.proofs.DistinctLemmas.{IsDistinct, distinct_append, distinct_filter, distinct_map, distinct_names}
use Rattle.poly_place.proofs.PairLemmas.{all_of, distinct_right, distinct_apart, in_group, equal_single, equal_named}
use Rattle.poly_place.proofs.PlacedLemmas.{layable}
use Rattle.poly_place.proofs.ThingLemmas.{piece_in}

-- ---- partings

-- the parts make up the group, and the second part has one at least
pub record IsParted (group : List ℕ) (parts : List ℕ × List ℕ) : Type 0 where
  pub whole : group ≡ parts.0 ++ parts.1
  pub first : ℕ
  pub rest : List ℕ
  pub some : parts.1 ≡ first ∷ rest

parted : (group : List ℕ) (parts : List ℕ × List ℕ) → IsIn parts (partings group) → IsParted group parts
parted [] parts i = absurd i
parted (n ∷ ns) parts i =
    elim i [
      | inl e ↦ record { whole = ap (λ (q : List ℕ × List ℕ). q.0 ++ q.1) (sym e); first = n; rest = ns; some = ap (λ (q : List ℕ × List ℕ). q.1) e }
      | inr r ↦
          let from = in_from_map (λ (q : List ℕ × List ℕ). (n ∷ q.0, q.1)) parts (partings ns) r in
          let p = parted ns from.0 from.1 in
          record {
            whole = ap (λ (ms : List ℕ). n ∷ ms) p.whole ∙ ap (λ (q : List ℕ × List ℕ). q.0 ++ q.1) (sym from.2);
            first = p.first;
            rest = p.rest;
            some = ap (λ (q : List ℕ × List ℕ). q.1) from.2 ∙ p.some;
          }
    ]

to_parting : (xs : List ℕ) (y : ℕ) (ys : List ℕ) → IsIn (xs, y ∷ ys) (partings (xs ++ y ∷ ys))
to_parting [] y ys = inl refl
to_parting (x ∷ xs) y ys = inr (in_map (λ (q : List ℕ × List ℕ). (x ∷ q.0, q.1)) (xs, y ∷ ys) (partings (xs ++ y ∷ ys)) (to_parting xs y ys))

partings_distinct : (group : List ℕ) → IsDistinct (partings group)
partings_distinct [] = tt
partings_distinct (n ∷ ns) = (
  (λ i.
      let from = in_from_map (λ (q : List ℕ × List ℕ). (n ∷ q.0, q.1)) ([], n ∷ ns) (partings ns) i in
      none n from.0.0 (ap (λ (q : List ℕ × List ℕ). q.0) from.2)),
  distinct_map (λ (q : List ℕ × List ℕ). (n ∷ q.0, q.1)) (partings ns) (λ a b e. same_rest n a.0 b.0 a.1 b.1 (ap (λ (q : List ℕ × List ℕ). q.0) e) (ap (λ (q : List ℕ × List ℕ). q.1) e)) (partings_distinct ns),
)
  where
    none : (n : ℕ) (ms : List ℕ) → [] ≡ n ∷ ms → ⊥
    none n ms e = cc

    same_rest : (n : ℕ) (xs ys us vs : List ℕ) → n ∷ xs ≡ n ∷ ys → us ≡ vs → ◌≡◌ {A = List ℕ × List ℕ} (xs, us) (ys, vs)
    same_rest n xs ys us vs e f = let t : xs ≡ ys = cc in ap₂ (λ (a b : List ℕ). (a, b)) t f

-- ---- one list in two parts, in two ways

-- where a fact holds of the first parts and not of the second, the parts are the same
pub one_split : (P : ℕ → Type 0) (xs ys us vs : List ℕ) → xs ++ ys ≡ us ++ vs → ((n : ℕ) → IsIn n xs → P n) → ((n : ℕ) → IsIn n ys → P n → ⊥)
    → ((n : ℕ) → IsIn n us → P n) → ((n : ℕ) → IsIn n vs → P n → ⊥) → (xs ≡ us) × (ys ≡ vs)
one_split P [] ys [] vs e a b c d = (refl, e)
one_split P [] ys (u ∷ us) vs e a b c d = absurd (b u (subst (λ (l : List ℕ). IsIn u l) (sym e) (inl refl)) (c u (inl refl)))
one_split P (x ∷ xs) ys [] vs e a b c d = absurd (d x (subst (λ (l : List ℕ). IsIn x l) e (inl refl)) (a x (inl refl)))
one_split P (x ∷ xs) ys (u ∷ us) vs e a b c d =
    let h : x ≡ u = cc in
    let t : xs ++ ys ≡ us ++ vs = cc in
    let r = one_split P xs ys us vs t (λ n i. a n (inr i)) b (λ n i. c n (inr i)) d in
    (ap₂ (λ (z : ℕ) (zs : List ℕ). z ∷ zs) h r.0, r.1)

-- what comes after a member of the second part is in it too
pub later_left : (xs ys us vs : List ℕ) (n : ℕ) → xs ++ ys ≡ us ++ vs → IsDistinct (us ++ vs) → IsIn n xs → IsIn n vs → (m : ℕ) → IsIn m ys → IsIn m vs
later_left xs ys [] vs n e d i j m k = subst (λ (l : List ℕ). IsIn m l) e (in_append_right m xs ys k)
later_left [] ys (u ∷ us) vs n e d i j m k = absurd i
later_left (x ∷ xs) ys (u ∷ us) vs n e d i j m k =
    let h : x ≡ u = cc in
    let t : xs ++ ys ≡ us ++ vs = cc in
    elim i [
      | inl q ↦ absurd (d.0 (in_append_right u us vs (subst (λ (a : ℕ). IsIn a vs) (q ∙ h) j)))
      | inr r ↦ later_left xs ys us vs n t d.1 r j m k
    ]

neighbours_tail : (m n x : ℕ) (zs : List ℕ) → IsIn (m, n) (neighbours (x ∷ zs)) → (m ≡ x) ⊎ IsIn (m, n) (neighbours zs)
neighbours_tail m n x [] i = absurd i
neighbours_tail m n x (z ∷ zs) i = elim i [ inl e ↦ inl (ap (λ (q : ℕ × ℕ). q.0) e) | inr r ↦ inr r ]

pub neighbours_more : (m n x : ℕ) (zs : List ℕ) → IsIn (m, n) (neighbours zs) → IsIn (m, n) (neighbours (x ∷ zs))
neighbours_more m n x [] i = absurd i
neighbours_more m n x (z ∷ zs) i = inr i

-- the one after a member of the second part is in it too
pub next_left : (m n : ℕ) (xs ys : List ℕ) → IsDistinct (xs ++ ys) → IsIn (m, n) (neighbours (xs ++ ys)) → IsIn m ys → IsIn n ys
next_left m n [] ys d i j = (in_group m n ys i).1
next_left m n (x ∷ xs) ys d i j =
    elim (neighbours_tail m n x (xs ++ ys) i) [
      | inl e ↦ absurd (d.0 (in_append_right x xs ys (subst (λ (a : ℕ). IsIn a ys) e j)))
      | inr r ↦ next_left m n xs ys d.1 r j
    ]

-- ---- where a test holds of what comes before, the first ones pass and the others don't

pub record IsSplit (test : ℕ → Bool) (group : List ℕ) : Type 0 where
  pub yes : List ℕ
  pub no : List ℕ
  pub whole : group ≡ yes ++ no
  pub pass : (n : ℕ) → IsIn n yes → test n ≡ true
  pub fail : (n : ℕ) → IsIn n no → test n ≡ false

none_after : (test : ℕ → Bool) (n : ℕ) (ns : List ℕ) → ((a b : ℕ) → IsIn (a, b) (neighbours (n ∷ ns)) → test b ≡ true → test a ≡ true) → test n ≡ false → (m : ℕ) → IsIn m (n ∷ ns) → test m ≡ false
none_after test n [] h f m i = elim i [ inl e ↦ ap test e ∙ f | inr r ↦ absurd r ]
none_after test n (k ∷ ks) h f m i =
    elim i [
      | inl e ↦ ap test e ∙ f
      | inr r ↦ none_after test k ks (λ a b j. h a b (inr j)) (false_from_ne_true (test k) (λ t. both_ways (test n) f (h n k (inl refl) t))) m r
    ]

pub split_by : (test : ℕ → Bool) (group : List ℕ) → ((a b : ℕ) → IsIn (a, b) (neighbours group) → test b ≡ true → test a ≡ true) → IsSplit test group
split_by test [] h = record { yes = []; no = []; whole = refl; pass = λ n i. absurd i; fail = λ n i. absurd i }
split_by test (n ∷ ns) h =
    elim (cases_Bool (test n)) [
      | inl t ↦
          let rest = split_by test ns (λ a b i. h a b (neighbours_more a b n ns i)) in
          record {
            yes = n ∷ rest.yes;
            no = rest.no;
            whole = ap (λ (ms : List ℕ). n ∷ ms) rest.whole;
            pass = λ m i. elim i [ inl e ↦ ap test e ∙ t | inr r ↦ rest.pass m r ];
            fail = rest.fail;
          }
      | inr f ↦ record { yes = []; no = n ∷ ns; whole = refl; pass = λ m i. absurd i; fail = none_after test n ns h f }
    ]

-- ---- a piece that is used, tested

pub uses : PuzzleValue → (ChoiceValue → Bool) → ℕ → Bool
uses p chosen n = list_any (λ c. chosen c && (c.name == n)) (layable p)

pub used_from : (p : PuzzleValue) (chosen : ChoiceValue → Bool) (n : ℕ) → uses p chosen n ≡ true → IsUsed chosen n
unfolding uses
used_from p chosen n h =
    let c = some_passes (λ (d : ChoiceValue). chosen d && (d.name == n)) (layable p) h in
    let parts = and_parts (chosen c.0) (c.0.name == n) c.2 in
    (c.0, parts.0, eqb-true c.0.name n parts.1)

pub from_used : (p : PuzzleValue) (chosen : ChoiceValue → Bool) → ((c : ChoiceValue) → chosen c ≡ true → IsIn c (layable p)) → (n : ℕ) → IsUsed chosen n → uses p chosen n ≡ true
unfolding uses
from_used p chosen among n u =
    passes_some (λ (d : ChoiceValue). chosen d && (d.name == n)) u.0 (layable p) (among u.0 u.1) (and_from (chosen u.0) (u.0.name == n) u.1 (eq-eqb u.0.name n u.2))

-- ---- what is left out

pub record IsLeaving (p : PuzzleValue) (parts : List ℕ × List ℕ) : Type 0 where
  pub group : List ℕ
  pub there : IsIn group (equal_names p)
  pub parted : IsParted group parts
  pub spare : (n : ℕ) → IsIn n (parts.1) → is_spare p n ≡ true

abbrev spare_alone : PuzzleValue → List ℕ × List ℕ → Bool
spare_alone p parts = list_all (is_spare p) (parts.1)

pub leaving_is : (p : PuzzleValue) (parts : List ℕ × List ℕ) → IsIn parts (leavings p) → IsLeaving p parts
unfolding leavings
leaving_is p parts i =
    let g = in_from_flat_map (leavings_of p) parts (equal_names p) i in
    let kept = in_from_filter (spare_alone p) parts (partings g.0) g.2 in
    record { group = g.0; there = g.1; parted = parted g.0 parts kept.0; spare = passes (is_spare p) (parts.1) kept.1 }

pub leaving_in : (p : PuzzleValue) (xs : List ℕ) (y : ℕ) (ys : List ℕ) → IsIn (xs ++ y ∷ ys) (equal_names p) → ((n : ℕ) → IsIn n (y ∷ ys) → is_spare p n ≡ true) → IsIn (xs, y ∷ ys) (leavings p)
unfolding leavings
leaving_in p xs y ys i spare =
    in_flat_map (leavings_of p) (xs, y ∷ ys) (xs ++ y ∷ ys) (equal_names p) i
    (in_filter (spare_alone p) (xs, y ∷ ys) (partings (xs ++ y ∷ ys)) (to_parting xs y ys) (all_pass (is_spare p) (y ∷ ys) spare))

in_whole : (group : List ℕ) (parts : List ℕ × List ℕ) → IsParted group parts → (n : ℕ) → IsIn n (parts.1) → IsIn n group
in_whole group parts h n i = subst (λ (l : List ℕ). IsIn n l) (sym h.whole) (in_append_right n (parts.0) (parts.1) i)

pub first_left : (group : List ℕ) (parts : List ℕ × List ℕ) → (h : IsParted group parts) → IsIn h.first (parts.1)
first_left group parts h = subst (λ (l : List ℕ). IsIn h.first l) (sym h.some) (inl refl)

distinct_leavings : (p : PuzzleValue) (gs : List (List ℕ)) → IsDistinct (all_of gs) → IsDistinct (flat_map (leavings_of p) gs)
distinct_leavings p [] d = tt
distinct_leavings p (g ∷ gs) d =
    distinct_append (leavings_of p g) (flat_map (leavings_of p) gs) (distinct_filter (spare_alone p) (partings g) (partings_distinct g)) (distinct_leavings p gs (distinct_right g (all_of gs) d))
    (λ parts i j.
    let a = parted g parts (in_from_filter (spare_alone p) parts (partings g) i).0 in
    let h = in_from_flat_map (leavings_of p) parts gs j in
    let b = parted h.0 parts (in_from_filter (spare_alone p) parts (partings h.0) h.2).0 in
    let first = first_left g parts a in
    distinct_apart a.first g (all_of gs) d (in_whole g parts a a.first first) (in_flat_map (λ (group : List ℕ). group) a.first h.0 gs h.1 (in_whole h.0 parts b a.first first)))

pub leavings_distinct : (p : PuzzleValue) → IsPuzzle p → IsDistinct (leavings p)
unfolding leavings
leavings_distinct p z = distinct_leavings p (equal_names p) (distinct_names (all_of (equal_names p)) (equal_new p z))

-- a copy that is left out is a piece of the puzzle, which is used once at most
pub record IsCopy (p : PuzzleValue) (n : ℕ) : Type 0 where
  pub named : IsIn n (names_of (pieces_of p))
  pub needed : Rattle.poly_texts.specs.Puzzle.is_needed p n ≡ true
  pub single : Rattle.poly_place.specs.Packings.is_any p n ≡ false
  pub thing : IsIn (a_piece n) (things p)

pub equal_copy : (p : PuzzleValue) → IsPuzzle p → (group : List ℕ) (n : ℕ) → IsIn group (equal_names p) → IsIn n group → IsCopy p n
equal_copy p z group n i j =
    let among = in_flat_map (λ (g : List ℕ). g) n group (equal_names p) i j in
    let single = equal_single p z n among in
    let named = equal_named p z n among in
    record { named = named; needed = single.0; single = single.1; thing = piece_in p n named single.1 }

pub left_copy : (p : PuzzleValue) → IsPuzzle p → (parts : List ℕ × List ℕ) → IsLeaving p parts → (n : ℕ) → IsIn n (parts.1) → IsCopy p n
left_copy p z parts l n i = equal_copy p z l.group n l.there (in_whole l.group parts l.parted n i)

-- ---- the options

abbrev leaving_place : PuzzleValue → ℕ → ℕ
leaving_place p o = o - length (every_choice p) - 1

pub laying_is : (p : PuzzleValue) (o : ℕ) → 0 < o → o ≤ laying_count p → option_at (packing_problem p) o ≡ option_of p (choice_at p o)
unfolding packing_problem
laying_is p o some within =
    let long = length-map (every_choice p) (option_of p) in
    get_or_append_left (map (option_of p) (every_choice p)) (map (leaving_option p) (leavings p)) [] (o - 1) (omega (arith, long, some, within))
    ∙ get_or-map (option_of p) (every_choice p) (o - 1) (choice_with 0 []) [] (omega (arith, some, within))

pub leaving_within : (p : PuzzleValue) (o : ℕ) → laying_count p < o → o ≤ option_count p → leaving_place p o < length (leavings p)
leaving_within p o past within = omega (arith, past, within)

pub leaving_option_is : (p : PuzzleValue) (o : ℕ) → laying_count p < o → o ≤ option_count p → option_at (packing_problem p) o ≡ leaving_option p (leaving_at p o)
unfolding packing_problem
leaving_option_is p o past within =
    let long = length-map (every_choice p) (option_of p) in
    let at : o - 1 - length (every_choice p) ≡ leaving_place p o = omega (arith, past) in
    get_or-append_right (map (option_of p) (every_choice p)) (map (leaving_option p) (leavings p)) (length (every_choice p)) (o - 1) [] long (omega (arith, past))
    ∙ ap (λ (k : ℕ). get_or (map (leaving_option p) (leavings p)) k []) at
    ∙ get_or-map (leaving_option p) (leavings p) (leaving_place p o) ([], []) [] (leaving_within p o past within)

pub leaving_at_in : (p : PuzzleValue) (o : ℕ) → laying_count p < o → o ≤ option_count p → IsIn (leaving_at p o) (leavings p)
leaving_at_in p o past within = in_at (leavings p) (leaving_place p o) ([], []) (leaving_within p o past within)
