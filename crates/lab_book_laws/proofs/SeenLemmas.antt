-- The elements of a list that pass a test, each as it is seen: where one of them stands.
use Rattle.std.proofs.Common.{◌≡◌, ℕ, zero, suc, ◌<◌, Bool, true, false, List, [], ◌∷◌, ◌++◌, length, map, filter, take, drop, get_or}
use Rattle.std.proofs.Common.{refl, sym, ap, ap₂, ◌∙◌, subst, arith}
use Rattle.std.specs.Prelude.{All}
use Rattle.std.proofs.lemmas.Bool.{false≢true}
use Rattle.std.proofs.lemmas.List.{map-append}
use Rattle.std.proofs.lemmas.List.Elements.{filter-append, All-nil, All-cons, All-head, All-tail}
use Rattle.lab_book_laws.proofs.FilterLemmas.{kept, left_out}

-- ---- the first that passes

-- no element passes
abbrev pub NonePass : {Y : Type 0} → (Y → Bool) → List Y → Type 0
NonePass test ys = All (λ y. test y ≡ false) ys

-- two lists that are the same have the first that passes at the same place
pub parts_same : {Y : Type 0} (test : Y → Bool) (us bs cs ds : List Y) (a c : Y) → NonePass test us → NonePass test cs → test a ≡ true
    → test c ≡ true → us ++ a ∷ bs ≡ cs ++ c ∷ ds → (us ≡ cs) × (a ≡ c) × (bs ≡ ds)
parts_same test [] bs [] ds a c n m h k e = (refl, cc, cc)
parts_same {Y} test [] bs (x ∷ cs) ds a c n m h k e =
    let f : a ≡ x = cc in absurd (false≢true (sym (All-head (λ (y : Y). test y ≡ false) x cs m) ∙ ap test (sym f) ∙ h))
parts_same {Y} test (x ∷ us) bs [] ds a c n m h k e =
    let f : x ≡ c = cc in absurd (false≢true (sym (All-head (λ (y : Y). test y ≡ false) x us n) ∙ ap test f ∙ k))
parts_same {Y} test (x ∷ us) bs (y ∷ cs) ds a c n m h k e =
    let f : x ≡ y = cc in
    let g : us ++ a ∷ bs ≡ cs ++ c ∷ ds = cc in
    let r =
    parts_same test us bs cs ds a c (All-tail (λ (z : Y). test z ≡ false) x us n) (All-tail (λ (z : Y). test z ≡ false) y cs m) h k g in
    (ap₂ (λ (z : Y) (zs : List Y). z ∷ zs) f r.0, r.1, r.2)

module _ {X Y : Type 0} (open_at : X → Bool) (see : X → Y) where
  -- the elements that pass, as they are seen
  abbrev pub seen : List X → List Y
  seen xs = map see (filter open_at xs)

  pub seen_append : (xs ys : List X) → seen (xs ++ ys) ≡ seen xs ++ seen ys
  seen_append xs ys = ap (map see) (filter-append open_at xs ys) ∙ map-append see (filter open_at xs) (filter open_at ys)

  pub seen_more : (x : X) (xs : List X) → open_at x ≡ true → seen (x ∷ xs) ≡ see x ∷ seen xs
  seen_more x xs e = ap (map see) (kept open_at x xs e)

  pub seen_less : (x : X) (xs : List X) → open_at x ≡ false → seen (x ∷ xs) ≡ seen xs
  seen_less x xs e = ap (map see) (left_out open_at x xs e)

  -- before it, itself, and behind it
  pub seen_at : (xs : List X) (i : ℕ) (d : X) → i < length xs → open_at (get_or xs i d) ≡ true
      → seen xs ≡ seen (take i xs) ++ see (get_or xs i d) ∷ seen (drop (suc i) xs)
  seen_at [] i d l h = absurd (omega arith)
  seen_at (x ∷ xs) zero d l h = seen_more x xs h
  seen_at (x ∷ xs) (suc i) d l h = by (open_at x) refl (seen_at xs i d (omega arith) h)
    where
      by : (b : Bool) → open_at x ≡ b → seen xs ≡ seen (take i xs) ++ see (get_or xs i d) ∷ seen (drop (suc i) xs)
          → seen (x ∷ xs) ≡ seen (x ∷ take i xs) ++ see (get_or xs i d) ∷ seen (drop (suc i) xs)
      by true e r = seen_more x xs e ∙ ap (λ (ys : List Y). see x ∷ ys) r
          ∙ ap (λ (ys : List Y). ys ++ see (get_or xs i d) ∷ seen (drop (suc i) xs)) (sym (seen_more x (take i xs) e))
      by false e r = seen_less x xs e ∙ r
          ∙ ap (λ (ys : List Y). ys ++ see (get_or xs i d) ∷ seen (drop (suc i) xs)) (sym (seen_less x (take i xs) e))

  -- others come into its place
  pub seen_with : (xs ys : List X) (i : ℕ)
      → seen (take i xs ++ ys ++ drop (suc i) xs) ≡ seen (take i xs) ++ seen ys ++ seen (drop (suc i) xs)
  seen_with xs ys i =
      seen_append (take i xs ++ ys) (drop (suc i) xs)
      ∙ ap (λ (zs : List Y). zs ++ seen (drop (suc i) xs)) (seen_append (take i xs) ys)

  -- ---- a test of what is seen that none passes before a place

  pub none_before : (test : Y → Bool) (xs : List X) (i : ℕ) (d : X)
      → ((k : ℕ) → k < i → k < length xs → open_at (get_or xs k d) ≡ true → test (see (get_or xs k d)) ≡ false)
      → NonePass test (seen (take i xs))
  none_before test [] zero d h = All-nil (λ (y : Y). test y ≡ false)
  none_before test [] (suc i) d h = All-nil (λ (y : Y). test y ≡ false)
  none_before test (x ∷ xs) zero d h = All-nil (λ (y : Y). test y ≡ false)
  none_before test (x ∷ xs) (suc i) d h = by (open_at x) refl (none_before test xs i d (λ k l m o. h (suc k) (omega arith) (omega arith) o))
    where
      by : (b : Bool) → open_at x ≡ b → NonePass test (seen (take i xs)) → NonePass test (seen (x ∷ take i xs))
      by true e rest = subst (NonePass test) (sym (seen_more x (take i xs) e))
          (All-cons (λ (y : Y). test y ≡ false) (see x) (seen (take i xs)) (h 0 (omega arith) (omega arith) e) rest)
      by false e rest = subst (NonePass test) (sym (seen_less x (take i xs) e)) rest

  -- ---- an element that is seen, and how many are seen before it

  pub seen_found : (xs : List X) (d : X) (us vs : List Y) (y : Y) → seen xs ≡ us ++ y ∷ vs
      → (j : ℕ) × (j < length xs) × (open_at (get_or xs j d) ≡ true) × (see (get_or xs j d) ≡ y) × (seen (take j xs) ≡ us)
      × (seen (drop (suc j) xs) ≡ vs)
  seen_found [] d [] vs y e = absurd (cc)
  seen_found [] d (u ∷ us) vs y e = absurd (cc)
  seen_found (x ∷ xs) d us vs y e = by (open_at x) refl us e (λ ws h. seen_found xs d ws vs y h)
    where
      by : (b : Bool) → open_at x ≡ b → (us : List Y) → seen (x ∷ xs) ≡ us ++ y ∷ vs
          → ((ws : List Y) → seen xs ≡ ws ++ y ∷ vs → (j : ℕ) × (j < length xs) × (open_at (get_or xs j d) ≡ true)
          × (see (get_or xs j d) ≡ y) × (seen (take j xs) ≡ ws) × (seen (drop (suc j) xs) ≡ vs))
          → (j : ℕ) × (j < length (x ∷ xs)) × (open_at (get_or (x ∷ xs) j d) ≡ true) × (see (get_or (x ∷ xs) j d) ≡ y)
          × (seen (take j (x ∷ xs)) ≡ us) × (seen (drop (suc j) (x ∷ xs)) ≡ vs)
      by true o [] e r =
          let f : see x ∷ seen xs ≡ y ∷ vs = sym (seen_more x xs o) ∙ e in
          let g : see x ≡ y = cc in
          let h : seen xs ≡ vs = cc in (0, omega arith, o, g, refl, h)
      by true o (u ∷ us) e r =
          let f : see x ∷ seen xs ≡ u ∷ (us ++ y ∷ vs) = sym (seen_more x xs o) ∙ e in
          let g : see x ≡ u = cc in
          let h : seen xs ≡ us ++ y ∷ vs = cc in
          let p = r us h in
          (suc p.0, omega (arith, p.1), p.2, p.3, seen_more x (take p.0 xs) o ∙ (λ k. g k ∷ p.4 k), p.5)
      by false o us e r =
          let p = r us (sym (seen_less x xs o) ∙ e) in
          (suc p.0, omega (arith, p.1), p.2, p.3, seen_less x (take p.0 xs) o ∙ p.4, p.5)

  pub seen_rises : (xs : List X) (i j : ℕ) (d : X) → i < j → j < length xs → open_at (get_or xs i d) ≡ true
      → length (seen (take i xs)) < length (seen (take j xs))
  seen_rises [] i j d l m o = absurd (omega arith)
  seen_rises (x ∷ xs) i zero d l m o = absurd (omega arith)
  seen_rises (x ∷ xs) zero (suc j) d l m o = let e = ap length (seen_more x (take j xs) o) in omega arith
  seen_rises (x ∷ xs) (suc i) (suc j) d l m o = by (open_at x) refl (seen_rises xs i j d (omega arith) (omega arith) o)
    where
      by : (b : Bool) → open_at x ≡ b → length (seen (take i xs)) < length (seen (take j xs))
          → length (seen (x ∷ take i xs)) < length (seen (x ∷ take j xs))
      by true e r =
          let f = ap length (seen_more x (take i xs) e) in
          let g = ap length (seen_more x (take j xs) e) in omega arith
      by false e r =
          let f = ap length (seen_less x (take i xs) e) in
          let g = ap length (seen_less x (take j xs) e) in omega arith
