-- Names of pieces: how many there can be, and in which order those are that may be left out.
use Rattle.std.proofs.Common.{cond, ap₂, inl, inr, ◌≡◌, ◌<◌, ◌≤◌, ℕ, ◌+◌, ◌==◌, List, [], ◌∷◌, ◌++◌, filter, flat_map, length, Bool, true, false, not, ◌&&◌, ◌||◌, nat_eq, nat_le, refl, sym, ap, ◌∙◌, subst, arith, eq-eqb, eqb-true}
use Rattle.std.specs.List.{list_all, list_any, range_with_len, IsDistinct, AllByRecursion}
use Rattle.std.specs.Cmp.{nat_eq_equiv}
use Rattle.std.proofs.lemmas.Bool.{or_left, and_parts, or_right, not-true, false_from_ne_true, both_ways}
use Rattle.std.proofs.lemmas.Bool.Decides.{nat_tests}
use Rattle.std.proofs.lemmas.List.Folds.{list_any-append}
use Rattle.std.proofs.lemmas.List.{length-map}
use Rattle.std.proofs.lemmas.Map.Made.{length-le_from_is_member}
use Rattle.poly_cells.specs.Coordinates.{Coordinates}
use Rattle.poly_texts.specs.Limits.{most_pieces}
use Rattle.poly_texts.specs.Words.{is_name}
use Rattle.poly_texts.specs.Usages.{is_maybe}
use Rattle.poly_texts.specs.Kinds.{KindValue, given_if, kind_names, kind_maybe, IsPiece}
use Rattle.poly_texts.specs.Puzzle.{PuzzleValue, pieces_of, maybe_names, symbols_in, names_of, has_name, are_new, ArePieces, IsPuzzle}
use Rattle.poly_texts.proofs.FreshLemmas.{has_in, in_has}
use Rattle.poly_texts.proofs.KindLemmas.{in_if, given_own, names_own, own_among, new_rest, not_later, names_flat, names_are, names_new, piece_in}
use Rattle.poly_cells.specs.Sets.{IsIn}
use Rattle.poly_cells.proofs.MemberLemmas.{passes, some_passes, passes_some, all_pass, in_flat_map, in_from_flat_map, in_to_range}
use Rattle.poly_cells.proofs.SetLemmas.{all_from_in}

-- *how many there can be*

-- all names
abbrev all_names : List ℕ
all_names = range_with_len 48 10 ++ range_with_len 65 26 ++ range_with_len 97 26

in_range : (n a q : ℕ) → a ≤ q → q < a + n → list_any (nat_eq q) (range_with_len a n) ≡ true
in_range n a q low high = passes_some (nat_eq q) q (range_with_len a n) (in_to_range q a n low high) (eq-eqb q q refl)

name_listed : (q : ℕ) → is_name q ≡ true → list_any (nat_eq q) all_names ≡ true
name_listed q h =
    list_any-append (nat_eq q) (range_with_len 48 10) (range_with_len 65 26 ++ range_with_len 97 26)
    ∙ by_tests (nat_le 48 q && nat_le q 57) refl (nat_le 65 q && nat_le q 90) refl (nat_le 97 q && nat_le q 122) refl h
  where
    within : (a b n : ℕ) → (nat_le a q && nat_le q b) ≡ true → b + 1 ≡ a + n → list_any (nat_eq q) (range_with_len a n) ≡ true
    within a b n e size =
        let p = and_parts (nat_le a q) (nat_le q b) e in
        in_range n a q (grind (arith, nat_tests)) (grind (arith, nat_tests))

    by_tests : (d : Bool) → (nat_le 48 q && nat_le q 57) ≡ d → (c : Bool) → (nat_le 65 q && nat_le q 90) ≡ c → (l : Bool) → (nat_le 97 q && nat_le q 122) ≡ l → (d || c || l) ≡ true →
        (list_any (nat_eq q) (range_with_len 48 10) || list_any (nat_eq q) (range_with_len 65 26 ++ range_with_len 97 26)) ≡ true
    by_tests true d c e l f h = rw (within 48 57 10 d refl) refl
    by_tests false d true e l f h = or_right (list_any (nat_eq q) (range_with_len 48 10)) _ (list_any-append (nat_eq q) (range_with_len 65 26) (range_with_len 97 26) ∙ rw (within 65 90 26 e refl) refl)
    by_tests false d false e true f h = or_right (list_any (nat_eq q) (range_with_len 48 10)) _ (list_any-append (nat_eq q) (range_with_len 65 26) (range_with_len 97 26) ∙ or_right (list_any (nat_eq q) (range_with_len 65 26)) _ (within 97 122 26 f refl))
    by_tests false d false e false f h = absurd (cc)

member_is_name : (q : ℕ) (ns : List ℕ) → list_all is_name ns ≡ true → list_any (nat_eq q) ns ≡ true → is_name q ≡ true
member_is_name q ns all h = let n = some_passes (nat_eq q) ns h in ap is_name (eqb-true q n.0 n.2) ∙ passes is_name ns all n.0 n.1

apart_from : (n : ℕ) (ns : List ℕ) → not (has_name ns n) ≡ true → AllByRecursion (λ m. nat_eq n m ≡ false) ns
apart_from n ns h =
    all_from_in (λ m. nat_eq n m ≡ false) ns
    (λ m i. false_from_ne_true _ (λ t. both_ways (has_name ns n) (not-true _ h) (passes_some (λ k. k == n) m ns i (nat_eq_equiv.symm m n ∙ t))))

are_distinct : (ns : List ℕ) → are_new ns ≡ true → IsDistinct nat_eq ns
unfolding IsDistinct
are_distinct [] h = tt
are_distinct (n ∷ ns) h = let p = and_parts (not (has_name ns n)) (are_new ns) h in (apart_from n ns p.0, are_distinct ns p.1)

-- different names are at most as many as there are names
pub pieces_few : (pieces : List (ℕ × List Coordinates)) → list_all is_name (names_of pieces) ≡ true → are_new (names_of pieces) ≡ true → length pieces ≤ most_pieces
pieces_few pieces named new =
    let few = length-le_from_is_member nat_eq_equiv (names_of pieces) all_names (are_distinct (names_of pieces) new) (λ q h. name_listed q (member_is_name q (names_of pieces) named h)) in
    rw length-map at few

-- *the order of those that may be left out*

filter_append : (test : ℕ → Bool) (xs ys : List ℕ) → filter test (xs ++ ys) ≡ filter test xs ++ filter test ys
filter_append test [] ys = refl
filter_append test (x ∷ xs) ys = by_test (test x) (filter_append test xs ys)
  where
    by_test : (b : Bool) → filter test (xs ++ ys) ≡ filter test xs ++ filter test ys → cond b (x ∷ filter test (xs ++ ys)) (filter test (xs ++ ys)) ≡ cond b (x ∷ filter test xs) (filter test xs) ++ filter test ys
    by_test true h = ap (λ zs. x ∷ zs) h
    by_test false h = h

filter_same : (f g : ℕ → Bool) (xs : List ℕ) → ((n : ℕ) → IsIn n xs → f n ≡ g n) → filter f xs ≡ filter g xs
filter_same f g [] h = refl
filter_same f g (x ∷ xs) h = ap₂ (λ (b : Bool) (zs : List ℕ). cond b (x ∷ zs) zs) (h x (inl refl)) (filter_same f g xs (λ n i. h n (inr i)))

filter_all : (test : ℕ → Bool) (xs : List ℕ) → ((n : ℕ) → IsIn n xs → test n ≡ true) → filter test xs ≡ xs
filter_all test [] h = refl
filter_all test (x ∷ xs) h = ap₂ (λ (b : Bool) (zs : List ℕ). cond b (x ∷ zs) zs) (h x (inl refl)) (filter_all test xs (λ n i. h n (inr i)))

filter_none : (test : ℕ → Bool) (xs : List ℕ) → ((n : ℕ) → IsIn n xs → test n ≡ false) → filter test xs ≡ []
filter_none test [] h = refl
filter_none test (x ∷ xs) h = ap₂ (λ (b : Bool) (zs : List ℕ). cond b (x ∷ zs) zs) (h x (inl refl)) (filter_none test xs (λ n i. h n (inr i)))

has_joined : (xs ys : List ℕ) (n : ℕ) → has_name (xs ++ ys) n ≡ (has_name xs n || has_name ys n)
has_joined xs ys n = list_any-append (λ m. m == n) xs ys

-- of the names of a kind, those that may be left out, where none of them may be later
kept_by : (later : List ℕ) (b : Bool) (names : List ℕ) → ((n : ℕ) → IsIn n names → has_name later n ≡ true → ⊥) → filter (has_name (given_if b names ++ later)) names ≡ given_if b names
kept_by later true names out = filter_all _ names (λ n i. has_joined names later n ∙ or_left _ _ (has_in names n i))
kept_by later false names out = filter_none _ names (λ n i. false_from_ne_true _ (out n i))

left_order : (ks : List KindValue) → are_new (symbols_in ks) ≡ true → flat_map kind_maybe ks ≡ filter (has_name (flat_map kind_maybe ks)) (flat_map kind_names ks)
left_order [] h = refl
left_order (k ∷ ks) h =
    let kept = kind_maybe k in
    let later = flat_map kind_maybe ks in
    let own = given_own (λ j. is_maybe j.usage) in
    let rest : filter (has_name (kept ++ later)) (flat_map kind_names ks) ≡ later =
    filter_same (has_name (kept ++ later)) (has_name later) (flat_map kind_names ks)
    (λ n i. has_joined kept later n ∙ ap (λ b. b || has_name later n) (false_from_ne_true _ (λ t. not_later k ks h n (own k n (in_has kept n t)) (own_among kind_names names_own ks n i))))
    ∙ sym (left_order ks (new_rest k ks h)) in
    let first : filter (has_name (kept ++ later)) (kind_names k) ≡ kept =
    kept_by later (is_maybe k.usage) (kind_names k) (λ n i t. not_later k ks h n (names_own k n i) (own_among kind_maybe own ks n (in_has later n t))) in
    sym (filter_append (has_name (kept ++ later)) (kind_names k) (flat_map kind_names ks) ∙ ap₂ (λ (xs ys : List ℕ). xs ++ ys) first rest)

-- *the names of a puzzle*

module _ (p : PuzzleValue) (z : IsPuzzle p) where
  pub pieces_named : list_all is_name (names_of (pieces_of p)) ≡ true
  unfolding pieces_of
  pieces_named = names_are p.kinds z.kinds_are

  pub pieces_new : are_new (names_of (pieces_of p)) ≡ true
  unfolding pieces_of
  pieces_new = names_new p.kinds z.new

  pub pieces_shaped : ArePieces (pieces_of p)
  unfolding pieces_of
  pieces_shaped q i = let k = piece_in p.kinds q.0 q.1 i in subst IsPiece (sym k.3) (z.kinds_are k.0 k.1).piece

  -- the names that may be left out are those of pieces, in their order
  pub maybe_named : list_all (has_name (names_of (pieces_of p))) (maybe_names p) ≡ true
  unfolding pieces_of maybe_names
  maybe_named =
      rw names_flat (all_pass (has_name (flat_map kind_names p.kinds)) (flat_map kind_maybe p.kinds) (λ n i.
      let k = in_from_flat_map kind_maybe n p.kinds i in
      has_in (flat_map kind_names p.kinds) n (in_flat_map kind_names n k.0 p.kinds k.1 (in_if (is_maybe k.0.usage) n (kind_names k.0) k.2).1)))

  pub maybe_in_order : maybe_names p ≡ filter (has_name (maybe_names p)) (names_of (pieces_of p))
  unfolding pieces_of maybe_names
  maybe_in_order = rw names_flat (left_order p.kinds z.new)
