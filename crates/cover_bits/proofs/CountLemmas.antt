-- How many numbers parts and a row have together: the ones of the words that they share.
use Rattle.std.proofs.Common.{◌≡◌, ℕ, zero, suc, ◌+◌, ◌-◌, ◌*◌, ◌/◌, ◌%◌, ◌^◌, ◌<◌, ◌≤◌, ◌==◌, Bool, true, false, cond, ◌&&◌, ◌||◌, List, [], ◌∷◌, length, filter, get_or, refl, sym, ap, ap₂, ◌∙◌, arith}
use Rattle.std.specs.Prelude.{count_ones}
use Rattle.std.specs.Int.Count.{ones}
use Rattle.std.proofs.lemmas.Bool.{eq-eqb, ne_eqb, and_left, or_from, false_from_ne_true}
use Rattle.std.proofs.lemmas.List.Sums.{sum_by-cons}
use Rattle.std.proofs.lemmas.Nat.{ones_cat, and_le_l}
use Rattle.std.proofs.lemmas.Nat.Bits.{bit_at-suc, bit_at_lowest}
use Rattle.shared_words.specs.Lists.{numbers}
use Rattle.cover_bits.specs.declared.sets.Part.{Part}
use Rattle.cover_bits.specs.Parts.{in_word, in_row, in_part, in_parts, in_both, ArePlaced, shared, ones_of_both}
use Rattle.cover_bits.proofs.PartLemmas.{in_word_and, placed_in}

abbrev weight : Bool → ℕ
weight true = 1
weight false = 0

-- how many of n numbers from k on pass
abbrev pub count_of : (ℕ → Bool) → ℕ → ℕ → ℕ
count_of test n k = length (filter test (numbers n k))

one_more : (test : ℕ → Bool) (k : ℕ) (xs : List ℕ) → length (filter test (k ∷ xs)) ≡ weight (test k) + length (filter test xs)
one_more test k xs = by (test k)
  where
    by : (b : Bool) → length (cond b (k ∷ filter test xs) (filter test xs)) ≡ weight b + length (filter test xs)
    by true = omega arith
    by false = omega arith

pub count_split : (test : ℕ → Bool) (n a b k : ℕ) → n ≡ a + b → count_of test n k ≡ count_of test a k + count_of test b (k + a)
count_split test n zero b k e = let f : n ≡ b = omega arith in let g : k ≡ k + 0 = omega arith in let h : count_of test n k ≡ count_of test b (k + 0) = ap₂ (λ m i. count_of test m i) f g in omega arith
count_split test zero (suc a) b k e = absurd (omega arith)
count_split test (suc n) (suc a) b k e =
    let s = count_split test n a b (suc k) (omega arith) in
    let g : suc k + a ≡ k + suc a = omega arith in
    let t : count_of test b (suc k + a) ≡ count_of test b (k + suc a) = ap (λ i. count_of test b i) g in
    let m = one_more test k (numbers n (suc k)) in
    let l = one_more test k (numbers a (suc k)) in
    omega arith

pub count_none : (test : ℕ → Bool) (n k : ℕ) → ((x : ℕ) → k ≤ x → x < k + n → test x ≡ false) → count_of test n k ≡ 0
count_none test zero k none = refl
count_none test (suc n) k none =
    let more = one_more test k (numbers n (suc k)) in
    let here : weight (test k) ≡ 0 = ap weight (none k (omega arith) (omega arith)) in
    let rest = count_none test n (suc k) (λ x a b. none x (omega arith) (omega arith)) in
    omega arith

pub count_moved : (p q : ℕ → Bool) (n k m : ℕ) → ((i : ℕ) → i < n → p (k + i) ≡ q (m + i)) → count_of p n k ≡ count_of q n m
count_moved p q zero k m same = refl
count_moved p q (suc n) k m same =
    let here : p k ≡ q m = let a : k + 0 ≡ k = omega arith in let b : m + 0 ≡ m = omega arith in sym (ap p a) ∙ same 0 (omega arith) ∙ ap q b in
    let rest = count_moved p q n (suc k) (suc m) (λ i l. let a : suc k + i ≡ k + suc i = omega arith in let b : suc m + i ≡ m + suc i = omega arith in ap p a ∙ same (suc i) (omega arith) ∙ sym (ap q b)) in
    one_more p k (numbers n (suc k)) ∙ ap₂ (λ b c. weight b + c) here rest ∙ sym (one_more q m (numbers n (suc m)))

first_bit : (r : ℕ) → r < 2 → weight (r == 1) ≡ count_ones r
unfolding ones
first_bit zero l = refl
first_bit (suc zero) l = refl
first_bit (suc (suc r)) l = absurd (omega arith)

-- how many bits a word has
ones_none : count_ones 0 ≡ 0
unfolding ones
ones_none = refl

pub count_bits : (n word : ℕ) → word < 2 ^ n → count_of (in_word word) n 0 ≡ count_ones word
count_bits zero word l = let e : word ≡ 0 = omega arith in rw e (sym ones_none)
count_bits (suc n) word l =
    let half : word / 2 < 2 ^ n = let p : 2 ^ suc n ≡ 2 * 2 ^ n = omega arith in omega arith in
    let rest : count_of (in_word word) n 1 ≡ count_of (in_word (word / 2)) n 0 =
    count_moved (in_word word) (in_word (word / 2)) n 1 0 (λ i m. let a : 1 + i ≡ suc i = omega arith in let b : 0 + i ≡ i = omega arith in rw (a, b) (ap (λ x. x == 1) (bit_at-suc word i))) in
    let ih = count_bits n (word / 2) half in
    let cat = ones_cat 1 (word / 2) (word % 2) (omega arith) in
    let whole : word / 2 * 2 ^ 1 + word % 2 ≡ word = omega arith in
    let low : weight (in_word word 0) ≡ count_ones (word % 2) = ap (λ b. weight (b == 1)) (bit_at_lowest word) ∙ first_bit (word % 2) (omega arith) in
    let more = one_more (in_word word) 0 (numbers n 1) in
    let all : count_ones word ≡ count_ones (word / 2) + count_ones (word % 2) = sym (ap (λ x. count_ones x) whole) ∙ cat in
    omega arith

pub count_is : (n w : ℕ) (parts : List Part) (row : List ℕ) → ArePlaced n w parts → n ≤ w → count_of (in_both parts row) (64 * (w - n)) (64 * n) ≡ ones_of_both parts row
count_is n w [] row placed le = count_none (in_both [] row) (64 * (w - n)) (64 * n) (λ x a b. refl)
count_is n w (part ∷ parts) row placed le =
    let a = placed.0 in let b = placed.1 in
    let m : ℕ = 64 * (part.place - n) in
    let rest : ℕ = 64 * (w - suc part.place) in
    let one = count_split (in_both (part ∷ parts) row) (64 * (w - n)) m (64 + rest) (64 * n) (omega arith) in
    let two = count_split (in_both (part ∷ parts) row) (64 + rest) 64 rest (64 * n + m) (omega arith) in
    let before : count_of (in_both (part ∷ parts) row) m (64 * n) ≡ 0 =
    count_none (in_both (part ∷ parts) row) m (64 * n) (λ x l u. and_left _ _ (or_from _ _ (apart x (omega arith)) (none_low x (omega arith)))) in
    let here : count_of (in_both (part ∷ parts) row) 64 (64 * n + m) ≡ count_ones (shared row part) =
    count_moved (in_both (part ∷ parts) row) (in_word (shared row part)) 64 (64 * n + m) 0
    (λ i l. let e : 64 * n + m + i ≡ 64 * part.place + i = omega arith in ap (in_both (part ∷ parts) row) e ∙ in_place i l)
    ∙ count_bits 64 (shared row part) (small (placed.2)) in
    let after : count_of (in_both (part ∷ parts) row) rest (64 * n + m + 64) ≡ count_of (in_both parts row) (64 * (w - suc part.place)) (64 * suc part.place) =
    count_moved (in_both (part ∷ parts) row) (in_both parts row) rest (64 * n + m + 64) (64 * suc part.place)
    (λ i l. let e : 64 * n + m + 64 + i ≡ 64 * suc part.place + i = omega arith in
    ap (in_both (part ∷ parts) row) e ∙ ap (λ b. (b || in_parts parts (64 * suc part.place + i)) && in_row row (64 * suc part.place + i)) (apart (64 * suc part.place + i) (omega arith))) in
    let ih = count_is (suc part.place) w parts row placed.3 (omega arith) in
    let sum = sum_by-cons (λ x. count_ones (shared row x)) part parts in
    omega arith
  where
    apart : (x : ℕ) → (part.place ≡ x / 64 → ⊥) → in_part x part ≡ false
    apart x d = and_left (part.place == x / 64) (in_word part.word (x % 64)) (ne_eqb part.place (x / 64) d)

    none_low : (x : ℕ) → x < 64 * suc part.place → in_parts parts x ≡ false
    none_low x l = false_from_ne_true (in_parts parts x) (λ t. let r = placed_in (suc part.place) w parts placed.3 x t in let s = r.0 in omega arith)

    small : part.word < 2 ^ 64 → shared row part < 2 ^ 64
    small l = omega (arith, and_le_l part.word (get_or row part.place 0))

    in_place : (i : ℕ) → i < 64 → in_both (part ∷ parts) row (64 * part.place + i) ≡ in_word (shared row part) (0 + i)
    in_place i l =
        let q : (64 * part.place + i) / 64 ≡ part.place = omega arith in
        let r : (64 * part.place + i) % 64 ≡ i = omega arith in
        let z : 0 + i ≡ i = omega arith in
        let mine : in_part (64 * part.place + i) part ≡ in_word part.word i = rw (q, r) (ap (λ b. b && in_word part.word i) (eq-eqb part.place part.place refl)) in
        let others : in_parts parts (64 * part.place + i) ≡ false = none_low (64 * part.place + i) (omega arith) in
        ap₂ (λ b c. (b || c) && in_row row (64 * part.place + i)) mine others
        ∙ rw (q, r, z) (or-none (in_word part.word i) ∙ sym (in_word_and part.word (get_or row part.place 0) i))
      where
        or-none : (b : Bool) → ((b || false) && in_word (get_or row part.place 0) i) ≡ (b && in_word (get_or row part.place 0) i)
        or-none true = refl
        or-none false = refl
