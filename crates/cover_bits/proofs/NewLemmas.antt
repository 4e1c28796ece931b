-- The rows and the first set of a table with nothing covered.
use Rattle.std.proofs.Common.{◌≡◌, ℕ, zero, suc, ◌+◌, ◌-◌, ◌*◌, ◌/◌, ◌%◌, ◌^◌, min, ◌<◌, ◌≤◌, ◌⊎◌, ◌==◌, nat_lt, Bool, true, false, not, ◌&&◌, ◌||◌, List, [], ◌∷◌, ◌++◌, length, map, get_or, take, drop, set, refl, sym, ap, ap₂, subst, ◌∙◌, inl, inr, arith, le_refl, All, replicate, length-set}
use Rattle.std.proofs.Math.Seq.{take-suc-set}
use Rattle.std.proofs.Math.Pow.{pow_mono}
use Rattle.std.proofs.lemmas.List.{map-append}
use Rattle.cover_problem.proofs.NumberLemmas.{numbers_push}
use Rattle.std.specs.List.{list_any}
use Rattle.std.proofs.Math.Bool.{or-true}
use Rattle.std.proofs.lemmas.Bool.{cases_lt, cases_eq, cases_order, false_from_ne_true, lt-ltb, le-ltb, eq-eqb, ne_eqb, and_left, and_right}
use Rattle.std.proofs.lemmas.List.{get_or_past}
use Rattle.std.proofs.lemmas.Nat.{same_from_place, mul-add-lt}
use Rattle.std.proofs.lemmas.Nat.Bits.{bit_at_ones, bit_at_ones_above}
use Rattle.shared_words.specs.Lists.{has, numbers}
use Rattle.cover_problem.specs.Problem.{ProblemValue, IsProblem, option_at}
use Rattle.cover_problem.proofs.ActiveLemmas.{option_items_in}
use Rattle.cover_problem.proofs.MemberLemmas.{has_at}
use Rattle.cover_bits.specs.declared.sets.Part.{Part}
use Rattle.cover_bits.specs.Parts.{words_for, in_word, in_row, in_parts, ArePlaced}
use Rattle.cover_bits.specs.Bits.{is_left, AreLeft, AreColumns, IsBits, full_word, full_set, set_at}
use Rattle.cover_bits.proofs.PartLemmas.{placed_in}
use Rattle.cover_bits.proofs.TurnLemmas.{lent}
use Rattle.cover_problem.proofs.CoveredLemmas.{covered_none}
use Rattle.std.proofs.lemmas.List.{get_or-set_same, get_or-set_other, get_or-replicate, length-replicate}

-- which row of an option's is meant
pub any_at : (row i k place : ℕ) (option : List ℕ) → k < row → place < row → ((x : ℕ) → has option x ≡ true → 0 < x)
    → list_any (λ x. i * row + k == (x - 1) * row + place) option ≡ ((k == place) && has option (i + 1))
any_at row i k place [] a b some = sym (and_right (k == place) false refl)
any_at row i k place (x ∷ xs) a b some =
    ap₂ (λ u v. u || v) (here (some x (first x xs))) (any_at row i k place xs a b (λ y m. some y (later x xs y m))) ∙ by (k == place) (x == i + 1) (has xs (i + 1))
  where
    first : (x : ℕ) (xs : List ℕ) → has (x ∷ xs) x ≡ true
    first x xs = ap (λ b. b || has xs x) (eq-eqb x x refl)

    later : (x : ℕ) (xs : List ℕ) (y : ℕ) → has xs y ≡ true → has (x ∷ xs) y ≡ true
    later x xs y m = ap (λ b. (x == y) || b) m ∙ or-true (x == y)

    here : 0 < x → (i * row + k == (x - 1) * row + place) ≡ ((k == place) && (x == i + 1))
    here some = go (cases_eq k place) (cases_eq x (i + 1))
      where
        apart : ((i ≡ x - 1) × (k ≡ place) → ⊥) → (i * row + k == (x - 1) * row + place) ≡ false
        apart f = ne_eqb (i * row + k) ((x - 1) * row + place) (λ e. f (same_from_place i k (x - 1) place row a b e))

        go : (k ≡ place) ⊎ (k ≡ place → ⊥) → (x ≡ i + 1) ⊎ (x ≡ i + 1 → ⊥) → (i * row + k == (x - 1) * row + place) ≡ ((k == place) && (x == i + 1))
        go (inl e) (inl f) =
            let g : i ≡ x - 1 = omega arith in
            eq-eqb (i * row + k) ((x - 1) * row + place) (ap₂ (λ u v. u * row + v) g e) ∙ sym (rw (eq-eqb k place e, eq-eqb x (i + 1) f) refl)
        go (inl e) (inr d) = apart (λ q. d (let g = q.0 in omega arith)) ∙ sym (and_right (k == place) (x == i + 1) (ne_eqb x (i + 1) d))
        go (inr d) f = apart (λ q. d q.1) ∙ sym (and_left (k == place) (x == i + 1) (ne_eqb k place d))

    by : (a b c : Bool) → ((a && b) || (a && c)) ≡ (a && (b || c))
    by true b c = refl
    by false b c = refl

-- all options before one are noted, and then that one
pub columns_more : (p : ProblemValue) (words : ℕ) (place : ℕ) → IsProblem p → place < length p.options → length p.options ≤ 64 * words → (old new : List ℕ)
    → ((i k : ℕ) → i < length p.names → k < 64 * words → in_row old (i * (64 * words) + k) ≡ (nat_lt k place && has (option_at p (k + 1)) (i + 1)))
    → ((k : ℕ) → in_row new k ≡ (in_row old k || list_any (λ i. k == (i - 1) * (64 * words) + place) (option_at p (place + 1))))
    → (i k : ℕ) → i < length p.names → k < 64 * words → in_row new (i * (64 * words) + k) ≡ (nat_lt k (place + 1) && has (option_at p (k + 1)) (i + 1))
columns_more p words place sound l fits old new before each i k a b =
    each (i * (64 * words) + k)
    ∙ ap₂ (λ x y. x || y) (before i k a b) (any_at (64 * words) i k place (option_at p (place + 1)) b (omega arith) (λ x m. (option_items_in p (place + 1) x sound (omega arith) (omega arith) m).0))
    ∙ by (cases_order k place)
  where
    by : (k ≡ place) ⊎ ((k < place) ⊎ (place < k)) → ((nat_lt k place && has (option_at p (k + 1)) (i + 1)) || ((k == place) && has (option_at p (place + 1)) (i + 1))) ≡ (nat_lt k (place + 1) && has (option_at p (k + 1)) (i + 1))
    by (inl e) = rw (le-ltb k place (omega arith), eq-eqb k place e, lt-ltb k (place + 1) (omega arith)) (ap (λ n. has (option_at p (n + 1)) (i + 1)) (sym e))
    by (inr (inl m)) = rw (lt-ltb k place m, ne_eqb k place (λ e. omega arith), lt-ltb k (place + 1) (omega arith)) (or-none (has (option_at p (k + 1)) (i + 1)))
      where
        or-none : (b : Bool) → (b || false) ≡ b
        or-none true = refl
        or-none false = refl
    by (inr (inr m)) = rw (le-ltb k place (omega arith), ne_eqb k place (λ e. omega arith), le-ltb k (place + 1) (omega arith)) refl

pub columns_done : (p : ProblemValue) (words place : ℕ) (columns : List ℕ) → length p.options ≤ place
    → ((i k : ℕ) → i < length p.names → k < 64 * words → in_row columns (i * (64 * words) + k) ≡ (nat_lt k place && has (option_at p (k + 1)) (i + 1))) → AreColumns p words columns
columns_done p words place columns l each i k a b = each i k a b ∙ by (cases_lt k place)
  where
    by : (k < place) ⊎ (place ≤ k) → (nat_lt k place && has (option_at p (k + 1)) (i + 1)) ≡ has (option_at p (k + 1)) (i + 1)
    by (inl m) = rw (lt-ltb k place m) refl
    by (inr m) =
        let none : option_at p (k + 1) ≡ [] = get_or_past p.options (k + 1 - 1) [] (omega arith) in
        rw (le-ltb k place m) (sym (ap (λ xs. has xs (i + 1)) none))

-- each item of an option has its place
pub items_have_places : (p : ProblemValue) (words place len : ℕ) → IsProblem p → place < length p.options → length p.options ≤ 64 * words → len ≡ length p.names * words
    → All (λ i. (0 < i) × ((i - 1) * (64 * words) + place < 64 * len)) (option_at p (place + 1))
items_have_places p words place len sound l fits e m d n =
    let r = option_items_in p (place + 1) (get_or (option_at p (place + 1)) m d) sound (omega arith) (omega arith) (has_at (option_at p (place + 1)) m d n) in
    let a = r.0 in let b = r.1 in
    let q = mul-add-lt (get_or (option_at p (place + 1)) m d - 1) (64 * words) place (length p.names) (omega arith) (omega arith) in
    let f : 64 * words * length p.names ≡ 64 * len = grind (arith, e) in
    (a, omega arith)

-- *the first set*

pub filled_more : (n place : ℕ) (parts : List Part) (part : Part) → place < length parts → take place parts ≡ full_set n place → part ≡ record { word = full_word n place; place = place } → take (suc place) (set parts place part) ≡ full_set n (suc place)
filled_more n place parts part l e f =
    take-suc-set parts place part l ∙ ap₂ (λ xs y. xs ++ y ∷ []) e f
    ∙ sym (ap (map (λ v. record { word = full_word n v; place = v })) (numbers_push place 0) ∙ map-append (λ v. record { word = full_word n v; place = v }) (numbers place 0) ((0 + place) ∷ [])
    ∙ ap (λ v. full_set n place ++ record { word = full_word n v; place = v } ∷ []) (let z : 0 + place ≡ place = omega arith in z))

full_small : (n v : ℕ) → full_word n v < 2 ^ 64
full_small n v = let p = pow_mono {i = min (n - 64 * v) 64} {j = 64} (omega arith) in omega arith

full_placed : (n w k b : ℕ) → b ≡ k + w → ArePlaced k b (map (λ v. record { word = full_word n v; place = v }) (numbers w k))
full_placed n zero k b e = tt
full_placed n (suc w) k b e = (le_refl k, omega arith, full_small n k, full_placed n w (suc k) b (omega arith))

full_has : (n v i : ℕ) → i < 64 → in_word (full_word n v) i ≡ nat_lt (64 * v + i) n
full_has n v i l = by (cases_lt (64 * v + i) n)
  where
    by : (64 * v + i < n) ⊎ (n ≤ 64 * v + i) → in_word (full_word n v) i ≡ nat_lt (64 * v + i) n
    by (inl m) = rw (bit_at_ones (min (n - 64 * v) 64) i (omega arith)) (sym (lt-ltb (64 * v + i) n m))
    by (inr m) = rw (bit_at_ones_above (min (n - 64 * v) 64) i (omega arith)) (sym (le-ltb (64 * v + i) n m))

full_are : (n w k j : ℕ) → k ≤ j / 64 → j / 64 < k + w → in_parts (map (λ v. record { word = full_word n v; place = v }) (numbers w k)) j ≡ nat_lt j n
full_are n zero k j a b = absurd (omega arith)
full_are n (suc w) k j a b = by (full_are n w (suc k) j) (cases_eq k (j / 64))
  where
    rest : List Part
    rest = map (λ v. record { word = full_word n v; place = v }) (numbers w (suc k))

    or-none : (b : Bool) → (b || false) ≡ b
    or-none true = refl
    or-none false = refl

    by : (suc k ≤ j / 64 → j / 64 < suc k + w → in_parts (map (λ v. record { word = full_word n v; place = v }) (numbers w (suc k))) j ≡ nat_lt j n) → (k ≡ j / 64) ⊎ (k ≡ j / 64 → ⊥)
        → (((k == j / 64) && in_word (full_word n k) (j % 64)) || in_parts (map (λ v. record { word = full_word n v; place = v }) (numbers w (suc k))) j) ≡ nat_lt j n
    by ih (inl e) =
        let whole : 64 * k + j % 64 ≡ j = omega arith in
        let none : in_parts (map (λ v. record { word = full_word n v; place = v }) (numbers w (suc k))) j ≡ false =
        false_from_ne_true _ (λ t. let r = placed_in (suc k) (suc k + w) (map (λ v. record { word = full_word n v; place = v }) (numbers w (suc k))) (full_placed n w (suc k) (suc k + w) refl) j t in let q = r.0 in omega arith) in
        ap₂ (λ x y. x || y) (ap (λ b. b && in_word (full_word n k) (j % 64)) (eq-eqb k (j / 64) e) ∙ full_has n k (j % 64) (omega arith) ∙ ap (λ m. nat_lt m n) whole) none
        ∙ or-none (nat_lt j n)
    by ih (inr d) = ap (λ x. x || in_parts (map (λ v. record { word = full_word n v; place = v }) (numbers w (suc k))) j) (and_left (k == j / 64) (in_word (full_word n k) (j % 64)) (ne_eqb k (j / 64) d)) ∙ ih (omega arith) (omega arith)

-- with nothing covered all options are left
pub full_left : (p : ProblemValue) (words : ℕ) (set : List Part) → words ≡ words_for (length p.options) → set ≡ full_set (length p.options) words → AreLeft p [] words set
full_left p words set w e = subst (λ x. AreLeft p [] words x) (sym e) (record {
  placed = full_placed (length p.options) words 0 words (omega arith);
  are = λ k. by k (cases_lt k (64 * words));
})
  where
    none : (xs : List ℕ) → list_any (has []) xs ≡ false
    none [] = refl
    none (x ∷ xs) = none xs

    left : (k : ℕ) → is_left p [] k ≡ nat_lt k (length p.options)
    left k = ap (λ b. nat_lt k (length p.options) && not b) (none (option_at p (k + 1))) ∙ yes (nat_lt k (length p.options))
      where
        yes : (b : Bool) → (b && true) ≡ b
        yes true = refl
        yes false = refl

    by : (k : ℕ) → (k < 64 * words) ⊎ (64 * words ≤ k) → in_parts (full_set (length p.options) words) k ≡ is_left p [] k
    by k (inl l) = full_are (length p.options) words 0 k (omega arith) (omega arith) ∙ sym (left k)
    by k (inr l) =
        false_from_ne_true _ (λ t. let r = placed_in 0 words (full_set (length p.options) words) (full_placed (length p.options) words 0 words (omega arith)) k t in let q = r.1 in omega arith)
        ∙ sym (left k ∙ le-ltb k (length p.options) (omega arith))

-- *a table with nothing covered*

abbrev pub zeros : ℕ → List ℕ
zeros n = replicate n 0

zeros_long : (n : ℕ) → length (zeros n) ≡ n
zeros_long n = length-replicate n 0

zeros_at : (n d : ℕ) → get_or (zeros n) d 0 ≡ 0
zeros_at n d = by (cases_lt d n)
  where
    by : (d < n) ⊎ (n ≤ d) → get_or (zeros n) d 0 ≡ 0
    by (inl l) = get_or-replicate n d 0 0 l
    by (inr l) = get_or_past (zeros n) d 0 (let e = zeros_long n in omega arith)

pub bits_new : (p value : ProblemValue) (options primary words n : ℕ) (cols cols2 : List ℕ) (clen : ℕ) (ps ps2 : List Part) (plen : ℕ) (ns bs act act2 : List ℕ) (alen : ℕ) (c : List ℕ) (room : ℕ)
    → IsProblem p → value ≡ p → options ≡ length p.options → primary ≡ p.primary → words ≡ words_for options → n ≡ length p.names
    → length cols ≡ n * words → length cols2 ≡ length cols → AreColumns p words cols2 → clen ≡ length cols
    → length ps ≡ (n + 1) * words → length ps2 ≡ length ps → take words ps2 ≡ full_set options words → plen ≡ length ps
    → ns ≡ zeros (n + 1) → bs ≡ zeros (n + 1)
    → length act ≡ words_for n → length act2 ≡ length act → ((k : ℕ) → in_row act2 k ≡ nat_lt k primary) → alen ≡ length act
    → c ≡ [] → n ≤ room
    → IsBits value options primary words (take clen (cols2 ++ drop (length cols2) cols)) (take plen (ps2 ++ drop (length ps2) ps)) (set ns 0 words) bs (take alen (act2 ++ drop (length act2) act)) c room
bits_new p value options primary words n cols cols2 clen ps ps2 plen ns bs act act2 alen c room sound v o q w e l1 l2 columns cl p1 p2 full pl z zb a1 a2 each al none fits =
    rw (lent clen cols2 cols l2 cl, lent plen ps2 ps p2 pl, lent alen act2 act a2 al, v, none)
    (record {
      sound = sound;
      options_are = o;
      primary_is = q;
      words_are = w ∙ ap words_for o;
      columns_long = l2 ∙ l1 ∙ ap (λ m. m * words) e;
      columns_are = columns;
      parts_long = p2 ∙ p1 ∙ ap (λ m. (m + 1) * words) e;
      counts_long = length-set ns 0 words ∙ ap (λ xs. length xs) z ∙ zeros_long (n + 1) ∙ ap (λ m. m + 1) e;
      bases_long = ap (λ xs. length xs) zb ∙ zeros_long (n + 1) ∙ ap (λ m. m + 1) e;
      few = few_at;
      below = λ d m. let b = base_none d in omega arith;
      rise = λ d f le m. let a = base_none d in let b = base_none f in omega arith;
      sets_are = λ d m. set_is (get_or bs d 0) (base_none d);
      active_long = a2 ∙ a1 ∙ ap words_for e;
      active_are = λ k. each k ∙ ap (nat_lt k) q ∙ sym (yes (nat_lt k p.primary));
      distinct = covered_none p;
      fits = let f = fits in omega arith;
    })
  where
    yes : (b : Bool) → (b && true) ≡ b
    yes true = refl
    yes false = refl

    base_none : (d : ℕ) → get_or bs d 0 ≡ 0
    base_none d = ap (λ xs. get_or xs d 0) zb ∙ zeros_at (n + 1) d

    some : 0 < length ns
    some = let s = ap (λ xs. length xs) z in let t = zeros_long (n + 1) in omega arith

    first : get_or (set ns 0 words) 0 0 ≡ words
    first = get_or-set_same ns 0 words 0 some

    few_at : (d : ℕ) → get_or (set ns 0 words) d 0 ≤ words
    few_at d = by (cases_eq d 0)
      where
        by : (d ≡ 0) ⊎ (d ≡ 0 → ⊥) → get_or (set ns 0 words) d 0 ≤ words
        by (inl s) = rw (s, first) (le_refl words)
        by (inr s) = let t : get_or (set ns 0 words) d 0 ≡ 0 = get_or-set_other ns 0 d words 0 s ∙ ap (λ xs. get_or xs d 0) z ∙ zeros_at (n + 1) d in omega arith

    set_is : (d : ℕ) → d ≡ 0 → AreLeft p (take d []) words (set_at words ps2 (set ns 0 words) d)
    set_is d s =
        let t : 0 * words ≡ 0 = omega arith in
        let same : set_at words ps2 (set ns 0 words) 0 ≡ full_set (length p.options) words = ap₂ (λ x y. take x (drop y ps2)) first t ∙ full ∙ ap (λ m. full_set m words) o in
        subst (λ k. AreLeft p (take k []) words (set_at words ps2 (set ns 0 words) k)) (sym s) (full_left p words (set_at words ps2 (set ns 0 words) 0) (w ∙ ap words_for o) same)
