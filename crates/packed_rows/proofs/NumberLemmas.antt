-- Numbers are read back from their bytes.
use Rattle.std.proofs.Common.{◌≡◌, ℕ, zero, suc, ◌+◌, ◌-◌, ◌*◌, ◌/◌, ◌%◌, ◌^◌, ◌<◌, ◌≤◌, List, [], ◌∷◌, ◌++◌, length, refl, sym, ap, ◌∙◌, arith, length-append, append_assoc, pow-suc, inl, inr}
use Rattle.std.proofs.lemmas.Bool.{cases_lt}
use Rattle.std.proofs.lemmas.List.{append-nil}
use Rattle.std.proofs.lemmas.Bool.Decides.{nat_tests}
use Rattle.std.proofs.lemmas.Grind.{flat_map-append}
use Rattle.std.specs.List.{flat_map}
use Rattle.packed_rows.specs.Numbers.{front, bytes_of, most_before, numbers_at, numbers_of, IsWhole, IsSpelled, after_first, IsRow}

-- the three ways in which a byte is read
pub at_last : (high b : ℕ) (bs : List ℕ) → high < most_before → b < 128 → numbers_at high (b ∷ bs) ≡ (high * 128 + b) ∷ numbers_at 0 bs
unfolding numbers_at
at_last high b bs h l = grind (arith, nat_tests)

pub at_more : (high b : ℕ) (bs : List ℕ) → high < most_before → 128 ≤ b → numbers_at high (b ∷ bs) ≡ numbers_at (high * 128 + (b - 128)) bs
unfolding numbers_at
at_more high b bs h l = grind (arith, nat_tests)

pub at_full : (high b : ℕ) (bs : List ℕ) → most_before ≤ high → numbers_at high (b ∷ bs) ≡ []
unfolding numbers_at
at_full high b bs h = grind (arith, nat_tests)

pub at_none : (high : ℕ) → numbers_at high [] ≡ []
unfolding numbers_at
at_none high = refl

-- the bytes before a number's last one
pub front_none : (k : ℕ) → front k 0 ≡ []
unfolding front
front_none zero = refl
front_none (suc k) = refl

pub front_more : (k n : ℕ) → 0 < n → front (suc k) n ≡ front k (n / 128) ++ (n % 128 + 128) ∷ []
unfolding front
front_more k n h = grind (arith, nat_tests)

front_long : (k n : ℕ) → length (front k n) ≤ k
unfolding front
front_long zero n = omega arith
front_long (suc k) n =
    elim (cases_lt 0 n) [
      | inl l ↦ let e = ap length (front_more k n l) in let m = length-append (front k (n / 128)) ((n % 128 + 128) ∷ []) in
          omega (arith, front_long k (n / 128), e, m)
      | inr l ↦ let z : n ≡ 0 = omega arith in rw z (omega arith)
    ]

reads_front : (k n : ℕ) (bs : List ℕ) → n < 128 ^ k → n < most_before → numbers_at 0 (front k n ++ bs) ≡ numbers_at n bs
reads_front zero n bs h m = let z : n ≡ 0 = omega arith in rw (z, front_none) refl
reads_front (suc k) n bs h m =
    elim (cases_lt 0 n) [
      | inl l ↦ let q : n / 128 < 128 ^ k = omega (arith, pow-suc 128 k) in
          let e : n / 128 * 128 + (n % 128 + 128 - 128) ≡ n = omega arith in
          rw (front_more k n l, append_assoc)
          (reads_front k (n / 128) ((n % 128 + 128) ∷ bs) q (omega arith) ∙ at_more (n / 128) (n % 128 + 128) bs (omega arith) (omega arith)
          ∙ ap (λ x. numbers_at x bs) e)
      | inr l ↦ let z : n ≡ 0 = omega arith in rw (z, front_none) refl
    ]

-- what is read of a number and what comes after it
pub reads_number : (n : ℕ) (bs : List ℕ) → n < 2 ^ 64 → numbers_of (bytes_of n ++ bs) ≡ n ∷ numbers_of bs
unfolding bytes_of numbers_of
reads_number n bs h =
    let e : n / 128 * 128 + n % 128 ≡ n = omega arith in
    rw append_assoc (reads_front 9 (n / 128) (n % 128 ∷ bs) (omega arith) (omega arith)
    ∙ at_last (n / 128) (n % 128) bs (omega arith) (omega arith) ∙ ap (λ x. x ∷ numbers_at 0 bs) e)

pub none : numbers_of [] ≡ []
unfolding numbers_of
none = at_none 0

pub whole_none : IsRow []
unfolding numbers_of
whole_none = record { whole = λ cs. rw at_none refl; short = omega arith; spelled = rw at_none refl }

pub reads_alone : (n : ℕ) → n < 2 ^ 64 → numbers_of (bytes_of n) ≡ n ∷ []
reads_alone n h = ap numbers_of (sym (append-nil (bytes_of n))) ∙ reads_number n [] h ∙ ap (λ ns. n ∷ ns) none

pub reads_put : (bs : List ℕ) (n : ℕ) → IsWhole bs → n < 2 ^ 64 → numbers_of (bs ++ bytes_of n) ≡ numbers_of bs ++ n ∷ []
reads_put bs n w h = w (bytes_of n) ∙ ap (λ ns. numbers_of bs ++ ns) (reads_alone n h)

-- a number more is spelled as it was put
spelled_put : (bs : List ℕ) (n : ℕ) → IsSpelled bs → numbers_of (bs ++ bytes_of n) ≡ numbers_of bs ++ n ∷ [] → IsSpelled (bs ++ bytes_of n)
spelled_put bs n s more =
    ap (λ cs. cs ++ bytes_of n) s ∙ ap (λ cs. flat_map bytes_of (numbers_of bs) ++ cs) (sym (append-nil (bytes_of n)))
    ∙ sym (flat_map-append bytes_of (numbers_of bs) (n ∷ [])) ∙ ap (flat_map bytes_of) (sym more)

bytes_long : (n : ℕ) → length (bytes_of n) ≤ 10
unfolding bytes_of
bytes_long n = omega (arith, length-append (front 9 (n / 128)) (n % 128 ∷ []), front_long 9 (n / 128))

pub whole_put : (bs : List ℕ) (n : ℕ) → IsRow bs → n < 2 ^ 64 → IsRow (bs ++ bytes_of n)
whole_put bs n w h =
    let more = reads_put bs n w.whole h in let e = ap length more in
    let m = length-append (numbers_of bs) (n ∷ []) in let l = length-append bs (bytes_of n) in let s = bytes_long n in
    record {
      whole = λ cs. ap numbers_of (append_assoc bs (bytes_of n) cs) ∙ w.whole (bytes_of n ++ cs)
          ∙ ap (λ ns. numbers_of bs ++ ns) (reads_number n cs h) ∙ sym (append_assoc (numbers_of bs) (n ∷ []) (numbers_of cs))
          ∙ ap (λ ns. ns ++ numbers_of cs) (sym more);
      short = let q = w.short in omega (arith, e, m, l, s);
      spelled = spelled_put bs n w.spelled more;
    }

-- ---- the first number

pub begins : (bs : List ℕ) → numbers_at 0 bs ≡ numbers_of bs
unfolding numbers_of
begins bs = refl

-- ---- the bytes behind the first number

pub after_last : (b : ℕ) (bs : List ℕ) → b < 128 → after_first (b ∷ bs) ≡ bs
unfolding after_first
after_last b bs l = grind (arith, nat_tests)

pub after_more : (b : ℕ) (bs : List ℕ) → 128 ≤ b → after_first (b ∷ bs) ≡ after_first bs
unfolding after_first
after_more b bs l = grind (arith, nat_tests)

-- a number of one byte, and one of two
pub small_first : (b : ℕ) (bs rest : List ℕ) → b < 128 → bs ≡ b ∷ rest → (numbers_of bs ≡ b ∷ numbers_of rest) × (rest ≡ after_first bs)
unfolding numbers_of
small_first b bs rest l e =
    let n : 0 * 128 + b ≡ b = omega arith in (
      ap numbers_of e ∙ at_last 0 b rest (omega arith) l ∙ ap (λ m. m ∷ numbers_at 0 rest) n,
      sym (ap after_first e ∙ after_last b rest l),
    )

pub pair_first : (a b : ℕ) (bs rest : List ℕ) → 128 ≤ a → a < 256 → b < 128 → bs ≡ a ∷ b ∷ rest
    → (numbers_of bs ≡ ((a - 128) * 128 + b) ∷ numbers_of rest) × (rest ≡ after_first bs)
unfolding numbers_of
pair_first a b bs rest h k l e =
    let n : 0 * 128 + (a - 128) ≡ a - 128 = omega arith in (
      ap numbers_of e ∙ at_more 0 a (b ∷ rest) (omega arith) h ∙ ap (λ m. numbers_at m (b ∷ rest)) n ∙ at_last (a - 128) b rest (omega arith) l,
      sym (ap after_first e ∙ after_more a (b ∷ rest) h ∙ after_last b rest l),
    )

after_front : (k n : ℕ) (bs : List ℕ) → after_first (front k n ++ bs) ≡ after_first bs
unfolding front
after_front zero n bs = refl
after_front (suc k) n bs =
    elim (cases_lt 0 n) [
      | inl l ↦ rw (front_more k n l, append_assoc)
          (after_front k (n / 128) ((n % 128 + 128) ∷ bs) ∙ after_more (n % 128 + 128) bs (omega arith))
      | inr l ↦ let z : n ≡ 0 = omega arith in rw z refl
    ]

after_bytes : (n : ℕ) (bs : List ℕ) → after_first (bytes_of n ++ bs) ≡ bs
unfolding bytes_of
after_bytes n bs = rw append_assoc (after_front 9 (n / 128) (n % 128 ∷ bs) ∙ after_last (n % 128) bs (omega arith))

-- what a reader leaves is spelled as what it had
pub spelled_rest : (bs rest : List ℕ) (n : ℕ) → IsSpelled bs → numbers_of bs ≡ n ∷ numbers_of rest → rest ≡ after_first bs → IsSpelled rest
spelled_rest bs rest n s e a =
    let m = s ∙ ap (flat_map bytes_of) e in
    a ∙ ap after_first m ∙ after_bytes n (flat_map bytes_of (numbers_of rest))

-- ---- a number is put

pub more_left : (most n : ℕ) → n < 128 ^ most → 0 < n → (0 < most) × (n / 128 < 128 ^ (most - 1))
more_left zero n h p = absurd (omega arith)
more_left (suc k) n h p = let e : suc k - 1 ≡ k = omega arith in (omega arith, rw e (omega (arith, pow-suc 128 k)))

pub put_more : (j most n : ℕ) (old mid new : List ℕ) → suc j ≡ most → 0 < n → mid ≡ old ++ front j (n / 128)
    → new ≡ mid ++ (n % 128 + 128) ∷ [] → new ≡ old ++ front most n
put_more j most n old mid new m p e f =
    f ∙ ap (λ xs. xs ++ (n % 128 + 128) ∷ []) e ∙ append_assoc old (front j (n / 128)) ((n % 128 + 128) ∷ [])
    ∙ ap (λ xs. old ++ xs) (sym (front_more j n p)) ∙ ap (λ k. old ++ front k n) m

pub put_last : (n : ℕ) (old mid new : List ℕ) → mid ≡ old ++ front 9 (n / 128) → new ≡ mid ++ n % 128 ∷ [] → new ≡ old ++ bytes_of n
unfolding bytes_of
put_last n old mid new e f =
    f ∙ ap (λ xs. xs ++ n % 128 ∷ []) e ∙ append_assoc old (front 9 (n / 128)) (n % 128 ∷ [])

-- fewer groups are enough for a smaller number
front_enough : (k n : ℕ) → n < 128 ^ k → front (suc k) n ≡ front k n
front_enough zero n h = let z : n ≡ 0 = omega arith in ap (front 1) z ∙ front_none 1 ∙ sym (front_none 0) ∙ ap (front 0) (sym z)
front_enough (suc k) n h =
    elim (cases_lt 0 n) [
      | inl l ↦ let q : n / 128 < 128 ^ k = omega (arith, pow-suc 128 k) in
          front_more (suc k) n l ∙ ap (λ fs. fs ++ (n % 128 + 128) ∷ []) (front_enough k (n / 128) q) ∙ sym (front_more k n l)
      | inr l ↦ let z : n ≡ 0 = omega arith in
          ap (front (suc (suc k))) z ∙ front_none (suc (suc k)) ∙ sym (front_none (suc k)) ∙ ap (front (suc k)) (sym z)
    ]

-- a number of 32 bits has four bytes at most before its last
pub put_word : (n : ℕ) (old mid new : List ℕ) → n < 4294967296 → mid ≡ old ++ front 4 (n / 128) → new ≡ mid ++ n % 128 ∷ [] → new ≡ old ++ bytes_of n
put_word n old mid new h e f =
    let fewer : front 9 (n / 128) ≡ front 4 (n / 128) =
    front_enough 8 (n / 128) (omega arith) ∙ front_enough 7 (n / 128) (omega arith) ∙ front_enough 6 (n / 128) (omega arith)
    ∙ front_enough 5 (n / 128) (omega arith) ∙ front_enough 4 (n / 128) (omega arith) in
    put_last n old mid new (e ∙ ap (λ fs. old ++ fs) (sym fewer)) f

-- a small one has none
pub put_small : (n : ℕ) (old new : List ℕ) → n < 128 → new ≡ old ++ n ∷ [] → new ≡ old ++ bytes_of n
unfolding bytes_of
put_small n old new h e =
    let z : n / 128 ≡ 0 = omega arith in let m : n % 128 ≡ n = omega arith in
    e ∙ ap (λ fs. old ++ fs) (sym ((λ j. front 9 (z j) ++ m j ∷ []) ∙ ap (λ fs. fs ++ n ∷ []) (front_none 9)))

-- a number below 128 times 128 has one
pub put_two : (n : ℕ) (old mid new : List ℕ) → 128 ≤ n → n < 16384 → mid ≡ old ++ (n / 128 + 128) ∷ [] → new ≡ mid ++ n % 128 ∷ [] → new ≡ old ++ bytes_of n
put_two n old mid new l h e f =
    let q : 0 < n / 128 = omega arith in let z : n / 128 / 128 ≡ 0 = omega arith in let m : n / 128 % 128 ≡ n / 128 = omega arith in
    let one : front 9 (n / 128) ≡ (n / 128 + 128) ∷ [] =
    front_more 8 (n / 128) q ∙ (λ j. front 8 (z j) ++ (m j + 128) ∷ []) ∙ ap (λ fs. fs ++ (n / 128 + 128) ∷ []) (front_none 8) in
    put_last n old mid new (e ∙ ap (λ fs. old ++ fs) (sym one)) f

-- ---- a row has no more numbers than bytes

few_at : (high : ℕ) (bs : List ℕ) → length (numbers_at high bs) ≤ length bs
few_at high [] = let e = at_none high in omega (arith, ap length e)
few_at high (b ∷ bs) =
    elim (cases_lt high most_before) [
      | inl h ↦ elim (cases_lt b 128) [
        | inl l ↦ omega (arith, few_at 0 bs, ap length (at_last high b bs h l))
        | inr l ↦ omega (arith, few_at (high * 128 + (b - 128)) bs, ap length (at_more high b bs h l))
      ]
      | inr h ↦ omega (arith, ap length (at_full high b bs h))
    ]

pub few : (bs : List ℕ) → length (numbers_of bs) ≤ length bs
unfolding numbers_of
few bs = few_at 0 bs
