-- Steps of loops that keep and count what passes a test.
use Rattle.std.proofs.Common.{◌≡◌, ℕ, suc, ◌+◌, ◌-◌, ◌<◌, ◌≤◌, Bool, true, false, not, ◌&&◌, cond, List, [], ◌∷◌, ◌++◌, map, filter, length, get_or, take, refl, sym, ap, ap₂, subst, ◌∙◌, arith}
use Rattle.std.specs.List.{list_all, range_with_len}
use Rattle.std.proofs.lemmas.List.{map-append, append_assoc, length-append, length-take-le, take_all, get_or_default, append-nil}
use Rattle.std.proofs.lemmas.List.Elements.{filter-append}
use Rattle.poly_cells.proofs.SetLemmas.{take_next}
use Rattle.std.proofs.lemmas.List.FromFn.{length-range_with_len, get_or-range_with_len}
use Rattle.shared_words.specs.Lists.{numbers}
use Rattle.poly_cells.specs.Coordinates.{Coordinates}
use Rattle.poly_cells.specs.Sets.{IsIn}
use Rattle.poly_cells.specs.CellTests.{has_cell}
use Rattle.poly_cells.proofs.CellTestLemmas.{has_from_in}
use Rattle.poly_texts.specs.Puzzle.{PuzzleValue}
use Rattle.poly_place.specs.Packings.{must_fill}
use Rattle.poly_place.proofs.WalkLemmas.{item_in}
use mir.Val.{bool_byte}
use Rattle.poly_place.proofs.CountLemmas.{one_kept, one_left, filter_short}

-- ---- what passes a test

-- one more that passes the test is added, by what it has
pub kept_more : {X Y : Type 0} (f : X → Y) (test : X → Bool) (xs : List X) (i : ℕ) (x : X) (start old new : List Y) → i < length xs → x ≡ get_or xs i x → test x ≡ true → new ≡ old ++ f x ∷ []
    → old ≡ start ++ map f (filter test (take i xs)) → new ≡ start ++ map f (filter test (take (i + 1) xs))
kept_more {X} {Y} f test xs i x start old new lt is t push so =
    push ∙ ap (λ (ys : List Y). ys ++ f x ∷ []) so ∙ append_assoc start (map f (filter test (take i xs))) (f x ∷ [])
    ∙ ap (λ (ys : List Y). start ++ ys) (sym (map-append f (filter test (take i xs)) (x ∷ [])) ∙ ap (map f) (one_kept test xs i x (filter test (take i xs)) (filter test (take i xs) ++ x ∷ []) lt is t refl refl))

-- and one that fails isn't
pub kept_same : {X Y : Type 0} (f : X → Y) (test : X → Bool) (xs : List X) (i : ℕ) (x : X) (start old : List Y) → i < length xs → x ≡ get_or xs i x → test x ≡ false
    → old ≡ start ++ map f (filter test (take i xs)) → old ≡ start ++ map f (filter test (take (i + 1) xs))
kept_same {X} {Y} f test xs i x start old lt is t so =
    so ∙ ap (λ (ys : List X). start ++ map f ys) (one_left test xs i x (filter test (take i xs)) lt is t refl)

-- one more that passes is counted
pub count_more : {X : Type 0} (test : X → Bool) (xs : List X) (i : ℕ) (x : X) (n : ℕ) → i < length xs → x ≡ get_or xs i x → test x ≡ true → n ≡ length (filter test (take i xs))
    → n + 1 ≡ length (filter test (take (i + 1) xs))
count_more test xs i x n lt is t so =
    ap (λ k. k + 1) so ∙ sym (length-append (filter test (take i xs)) (x ∷ []))
    ∙ ap length (one_kept test xs i x (filter test (take i xs)) (filter test (take i xs) ++ x ∷ []) lt is t refl refl)

pub count_same : {X : Type 0} (test : X → Bool) (xs : List X) (i : ℕ) (x : X) (n : ℕ) → i < length xs → x ≡ get_or xs i x → test x ≡ false → n ≡ length (filter test (take i xs))
    → n ≡ length (filter test (take (i + 1) xs))
count_same test xs i x n lt is t so = so ∙ ap length (one_left test xs i x (filter test (take i xs)) lt is t refl)

-- what is made of one more, if it passes a test
made_step : {X Y : Type 0} (f : X → Y) (test : Y → Bool) (xs : List X) (i : ℕ) (x : X) → i < length xs → x ≡ get_or xs i x
    → filter test (map f (take (i + 1) xs)) ≡ filter test (map f (take i xs)) ++ cond (test (f x)) (f x ∷ []) []
made_step {X} {Y} f test xs i x lt is =
    ap (λ (ys : List X). filter test (map f ys)) (take_next xs i x lt is) ∙ ap (filter test) (map-append f (take i xs) (x ∷ [])) ∙ filter-append test (map f (take i xs)) (f x ∷ [])

pub made_more : {X Y : Type 0} (f : X → Y) (test : Y → Bool) (xs : List X) (i : ℕ) (x : X) (start old new : List Y) → i < length xs → x ≡ get_or xs i x → test (f x) ≡ true → new ≡ old ++ f x ∷ []
    → old ≡ start ++ filter test (map f (take i xs)) → new ≡ start ++ filter test (map f (take (i + 1) xs))
made_more {X} {Y} f test xs i x start old new lt is t push so =
    push ∙ ap (λ (ys : List Y). ys ++ f x ∷ []) so ∙ append_assoc start (filter test (map f (take i xs))) (f x ∷ [])
    ∙ ap (λ (ys : List Y). start ++ ys) (sym (made_step f test xs i x lt is ∙ ap (λ b. filter test (map f (take i xs)) ++ cond b (f x ∷ []) []) t))

pub made_same : {X Y : Type 0} (f : X → Y) (test : Y → Bool) (xs : List X) (i : ℕ) (x : X) (start old : List Y) → i < length xs → x ≡ get_or xs i x → test (f x) ≡ false
    → old ≡ start ++ filter test (map f (take i xs)) → old ≡ start ++ filter test (map f (take (i + 1) xs))
made_same {X} {Y} f test xs i x start old lt is t so =
    so ∙ ap (λ (ys : List Y). start ++ ys)
    (sym (made_step f test xs i x lt is ∙ ap (λ b. filter test (map f (take i xs)) ++ cond b (f x ∷ []) []) t ∙ append-nil (filter test (map f (take i xs)))))

-- no more are counted than there are
pub count_fits : {X : Type 0} (test : X → Bool) (xs : List X) (i n : ℕ) → i < length xs → n ≡ length (filter test (take (i + 1) xs)) → n ≤ length xs
count_fits test xs i n lt so =
    let short = filter_short test (take (i + 1) xs) in
    let part = length-take-le (i + 1) xs (omega arith) in
    omega (arith, so, short, part)

-- ---- numbers in turn

pub symmetry_lt : (n : ℕ) → n < 48 → n < length (range_with_len 0 48)
symmetry_lt n lt = subst (λ (m : ℕ). n < m) (sym (length-range_with_len 0 48)) lt

pub symmetry_is : (n : ℕ) → n < 48 → n ≡ get_or (range_with_len 0 48) n n
symmetry_is n lt = sym (get_or-range_with_len 0 48 n n lt ∙ (let e : 0 + n ≡ n = omega arith in e))

pub all_symmetries : (n : ℕ) → 48 ≤ n → take n (range_with_len 0 48) ≡ range_with_len 0 48
all_symmetries n le = take_all n (range_with_len 0 48) (subst (λ (m : ℕ). m ≤ n) (sym (length-range_with_len 0 48)) le)

pub numbers_next : (f : ℕ → Bool) (n i : ℕ) → i < n → list_all f (numbers (n - i) (i + 1)) ≡ (f (i + 1) && list_all f (numbers (n - (i + 1)) (i + 1 + 1)))
numbers_next f n i lt =
    ap (λ k. list_all f (numbers k (i + 1))) (let e : n - i ≡ suc (n - (i + 1)) = omega arith in e)
    ∙ ap (λ k. f (i + 1) && list_all f (numbers (n - (i + 1)) k)) (let e : suc (i + 1) ≡ i + 1 + 1 = omega arith in e)

-- ---- counts of what is so

pub as_number : (a b : Bool) (n : ℕ) → n ≡ bool_byte a → a ≡ b → n ≡ cond b 1 0
as_number true b n e h = e ∙ ap (λ v. cond v 1 0) h
as_number false b n e h = e ∙ ap (λ v. cond v 1 0) h

pub count_step : {X : Type 0} (test : X → Bool) (xs : List X) (i : ℕ) (x : X) (n one : ℕ) (b : Bool) → i < length xs → x ≡ get_or xs i x → one ≡ cond b 1 0 → test x ≡ b → n ≡ length (filter test (take i xs))
    → n + one ≡ length (filter test (take (i + 1) xs))
count_step test xs i x n one true lt is e h so = ap (λ k. n + k) e ∙ count_more test xs i x n lt is h so
count_step test xs i x n one false lt is e h so = let same = count_same test xs i x n lt is h so in omega (arith, e, same)

-- what is read with another default
pub read_at : {X : Type 0} (xs : List X) (i : ℕ) (x d : X) → i < length xs → x ≡ get_or xs i d → x ≡ get_or xs i x
read_at xs i x d lt is = is ∙ get_or_default xs i d x lt

-- ---- cells that have to be filled

pub must_is : (p : PuzzleValue) (cells : List Coordinates) (i : ℕ) (v : Coordinates) (b : Bool) → cells ≡ p.region → i < length cells → v ≡ get_or cells i v → b ≡ has_cell p.maybe_cells v → must_fill p v ≡ not b
must_is p cells i v b e lt is h =
    ap₂ (λ (x y : Bool). x && not y) (has_from_in p.region v (subst (λ (vs : List Coordinates). IsIn v vs) e (item_in cells i v lt is))) (sym h)
