-- Names that are new, alone and after others.
use Rattle.std.proofs.Common.{◌≡◌, ◌||◌, inl, inr, eq-eqb, eqb-true, ℕ, ◌==◌, List, [], ◌∷◌, ◌++◌, Bool, true, false, not, refl, sym, ap, ◌∙◌, subst, append-nil}
use Rattle.std.specs.List.{list_any}
use Rattle.std.specs.Cmp.{nat_eq_equiv}
use Rattle.std.proofs.lemmas.Bool.{and_parts, and_from, or_parts, or_from, not-true, not_from_false, both_ways, false_from_ne_true}
use Rattle.std.proofs.lemmas.List.Folds.{list_any-append}
use Rattle.std.proofs.lemmas.Grind.{flat_map-append}
use Rattle.poly_cells.specs.Coordinates.{Coordinates}
use Rattle.poly_cells.specs.Sets.{IsIn}
use Rattle.poly_cells.proofs.MemberLemmas.{some_passes, passes_some}
use Rattle.poly_cells.proofs.SetLemmas.{in_append_left, in_append_right, in_append_cases}
use Rattle.poly_texts.specs.Puzzle.{symbols_in, names_of, has_name, has_piece, are_new}
use Rattle.poly_texts.specs.declared.usage.Usage.{Usage}
use Rattle.poly_texts.specs.declared.usage.Usage.TheVariants as usages
use Rattle.poly_texts.specs.Usages.{pieces_named}
use Rattle.poly_texts.specs.Kinds.{KindValue, named_shapes}
use Rattle.poly_texts.specs.Reading.{DraftValue, taken_in, some_repeated, with_kind}

-- *members*

pub has_in : (ns : List ℕ) (n : ℕ) → IsIn n ns → has_name ns n ≡ true
has_in ns n i = passes_some (λ m. m == n) n ns i (eq-eqb n n refl)

pub in_has : (ns : List ℕ) (n : ℕ) → has_name ns n ≡ true → IsIn n ns
in_has ns n h = let m = some_passes (λ k. k == n) ns h in subst (λ k. IsIn k ns) (eqb-true m.0 n m.2) m.1

pub named_in : (pieces : List (ℕ × List Coordinates)) (n : ℕ) → has_piece pieces n ≡ has_name (names_of pieces) n
named_in [] n = refl
named_in (p ∷ ps) n = rw (nat_eq_equiv.symm n p.0, named_in ps n) refl

pub shapes_named : (names : List ℕ) (shape : List Coordinates) → names_of (named_shapes names shape) ≡ names
shapes_named [] shape = refl
shapes_named (n ∷ ns) shape = ap (λ ms. n ∷ ms) (shapes_named ns shape)

-- *names that are new together*

-- names that are new together are so apart, and have none in common
pub new_apart : (ns ms : List ℕ) → are_new (ns ++ ms) ≡ true → (are_new ms ≡ true) × ((n : ℕ) → IsIn n ns → has_name ms n ≡ false)
new_apart [] ms h = (h, λ n i. absurd i)
new_apart (m ∷ ns) ms h =
    let p = and_parts (not (has_name (ns ++ ms) m)) (are_new (ns ++ ms)) h in
    let q = or_parts (has_name ns m) (has_name ms m) (sym (list_any-append (λ k. k == m) ns ms) ∙ not-true _ p.0) in
    let rest = new_apart ns ms p.1 in
    (rest.0, λ n i. elim i [ inl e ↦ ap (has_name ms) e ∙ q.1 | inr r ↦ rest.1 n r ])

pub new_first : (ns ms : List ℕ) → are_new (ns ++ ms) ≡ true → are_new ns ≡ true
new_first [] ms h = refl
new_first (m ∷ ns) ms h =
    let p = and_parts (not (has_name (ns ++ ms) m)) (are_new (ns ++ ms)) h in
    let q = or_parts (has_name ns m) (has_name ms m) (sym (list_any-append (λ k. k == m) ns ms) ∙ not-true _ p.0) in
    and_from _ _ (not_from_false _ q.0) (new_first ns ms p.1)

pub new_joined : (ns ms : List ℕ) → are_new ns ≡ true → are_new ms ≡ true → ((n : ℕ) → IsIn n ns → has_name ms n ≡ false) → are_new (ns ++ ms) ≡ true
new_joined [] ms a b h = b
new_joined (m ∷ ns) ms a b h =
    let p = and_parts (not (has_name ns m)) (are_new ns) a in
    and_from _ _ (not_from_false _ (list_any-append (λ k. k == m) ns ms ∙ or_from _ _ (not-true _ p.0) (h m (inl refl)))) (new_joined ns ms p.1 b (λ n i. h n (inr i)))

-- *names that are not taken*

pub fresh_new : (taken : ℕ → Bool) (names : List ℕ) → some_repeated taken names ≡ false → are_new names ≡ true
fresh_new taken [] h = refl
fresh_new taken (n ∷ ns) h =
    let p = or_parts (taken n) (has_name ns n || some_repeated taken ns) h in
    let q = or_parts (has_name ns n) (some_repeated taken ns) p.1 in
    and_from _ _ (not_from_false _ q.0) (fresh_new taken ns q.1)

fresh_each : (taken : ℕ → Bool) (names : List ℕ) → some_repeated taken names ≡ false → (n : ℕ) → IsIn n names → taken n ≡ false
fresh_each taken [] h n i = absurd i
fresh_each taken (m ∷ ms) h n i =
    let p = or_parts (taken m) (has_name ms m || some_repeated taken ms) h in
    let q = or_parts (has_name ms m) (some_repeated taken ms) p.1 in
    elim i [ inl e ↦ ap taken e ∙ p.0 | inr r ↦ fresh_each taken ms q.1 n r ]

pub fresh_from : (taken : ℕ → Bool) (names : List ℕ) → are_new names ≡ true → ((n : ℕ) → IsIn n names → taken n ≡ false) → some_repeated taken names ≡ false
fresh_from taken [] a h = refl
fresh_from taken (m ∷ ms) a h =
    let p = and_parts (not (has_name ms m)) (are_new ms) a in
    or_from _ _ (h m (inl refl)) (or_from _ _ (not-true _ p.0) (fresh_from taken ms p.1 (λ n i. h n (inr i))))

-- names, and then others, where the names are taken too
module _ (taken later : ℕ → Bool) (ns ms : List ℕ) (so : (n : ℕ) → later n ≡ (taken n || has_name ns n)) where
  pub fresh_joined : some_repeated taken ns ≡ false → some_repeated later ms ≡ false → some_repeated taken (ns ++ ms) ≡ false
  fresh_joined a b =
      fresh_from taken (ns ++ ms)
      (new_joined ns ms (fresh_new taken ns a) (fresh_new later ms b) (λ n i. false_from_ne_true _ (λ t. both_ways (has_name ns n) (after n (in_has ms n t)).1 (has_in ns n i))))
      (λ n i. elim (in_append_cases n ns ms i) [ inl l ↦ fresh_each taken ns a n l | inr r ↦ (after n r).0 ])
    where
      after : (n : ℕ) → IsIn n ms → (taken n ≡ false) × (has_name ns n ≡ false)
      after n i = or_parts (taken n) (has_name ns n) (sym (so n) ∙ fresh_each later ms b n i)

  pub fresh_parted : some_repeated taken (ns ++ ms) ≡ false → (some_repeated taken ns ≡ false) × (some_repeated later ms ≡ false)
  fresh_parted h =
      let new = fresh_new taken (ns ++ ms) h in
      let apart = new_apart ns ms new in (
        fresh_from taken ns (new_first ns ms new) (λ n i. fresh_each taken (ns ++ ms) h n (in_append_left n ns ms i)),
        fresh_from later ms apart.0 (λ n i.
            so n ∙ or_from _ _ (fresh_each taken (ns ++ ms) h n (in_append_right n ns ms i))
            (false_from_ne_true _ (λ t. both_ways (has_name ms n) (apart.1 n (in_has ns n t)) (has_in ms n i)))),
      )

-- *what a kind takes*

-- the names of the pieces of a line are symbols of the line
pub named_own : (usage : Usage) (symbols : List ℕ) (n : ℕ) → IsIn n (pieces_named usage symbols) → IsIn n symbols
named_own usages.Once symbols n i = i
named_own usages.Maybe symbols n i = i
named_own usages.Any [] n i = absurd i
named_own usages.Any (m ∷ ms) n i = elim i [ inl e ↦ inl e | inr r ↦ absurd r ]
named_own usages.Copies symbols n i = i

pub named_keeps : (usage : Usage) (symbols : List ℕ) → are_new symbols ≡ true → are_new (pieces_named usage symbols) ≡ true
named_keeps usages.Once symbols h = h
named_keeps usages.Maybe symbols h = h
named_keeps usages.Any [] h = refl
named_keeps usages.Any (n ∷ ns) h = refl
named_keeps usages.Copies symbols h = h

-- with one kind more its symbols are taken too
pub taken_more : (s : DraftValue) (k : KindValue) (n : ℕ) → taken_in (with_kind s k) n ≡ (taken_in s n || has_name k.symbols n)
taken_more s k n =
    ap (λ ns. has_name ns n) (flat_map-append (λ j. j.symbols) s.kinds (k ∷ []) ∙ ap (λ ns. symbols_in s.kinds ++ ns) (append-nil k.symbols))
    ∙ list_any-append (λ m. m == n) (symbols_in s.kinds) k.symbols
