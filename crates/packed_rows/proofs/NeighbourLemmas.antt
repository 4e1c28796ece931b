-- Lists that are told after the ones before them.
use Rattle.std.proofs.Common.{inl, inr, ◌≡◌, ◌≢◌, ℕ, zero, suc, Option, Some, None, ◌+◌, ◌-◌, ◌^◌, ◌<◌, All, List, [], ◌∷◌, ◌++◌, length, take, drop, get_or, refl, sym, ap, ◌∙◌, subst, arith, append_assoc, eq-eqb}
use Rattle.std.proofs.lemmas.Bool.{cases_eq, cases_lt, ne_eqb}
use Rattle.std.proofs.lemmas.Bool.Decides.{nat_tests}
use Rattle.std.proofs.lemmas.List.{append-nil}
use Rattle.std.proofs.lemmas.List.Elements.{All-push}
use Rattle.std.proofs.Math.Seq.{take-suc}
use Rattle.std.specs.List.{flat_map}
use Rattle.packed_rows.specs.Neighbours.{raised, small_step, list_step, told_by, told_after, told_from, told_lists}
use Rattle.packed_rows.specs.Numbers.{bytes_of, numbers_of, IsRow}
use Rattle.packed_rows.proofs.RowLemmas.{reads_all, whole_all}

-- ---- the step from a list to another

-- lists of other lengths have none
pub no_step_lengths : (before list : List ℕ) → length before ≢ length list → list_step before list ≡ None
unfolding list_step
no_step_lengths [] list h = refl
no_step_lengths (n ∷ []) [] h = refl
no_step_lengths (n ∷ []) (m ∷ []) h = absurd (h refl)
no_step_lengths (n ∷ []) (m ∷ b ∷ ms) h = refl
no_step_lengths (n ∷ a ∷ ns) [] h = refl
no_step_lengths (n ∷ a ∷ ns) (m ∷ []) h = refl
no_step_lengths (n ∷ a ∷ ns) (m ∷ b ∷ ms) h =
    elim (cases_eq n m) [
      | inl e ↦ rw (eq-eqb n m e) (no_step_lengths (a ∷ ns) (b ∷ ms) (λ l. h (ap suc l)))
      | inr d ↦ rw (ne_eqb n m d) refl
    ]

-- nor do lists without numbers
pub no_step_none : (before list : List ℕ) → length list ≡ 0 → list_step before list ≡ None
unfolding list_step
no_step_none [] list h = refl
no_step_none (n ∷ []) [] h = refl
no_step_none (n ∷ a ∷ ns) [] h = refl
no_step_none (n ∷ ns) (m ∷ ms) h = absurd (omega arith)

-- nor lists that differ before their last numbers
pub no_step_front : (before list : List ℕ) (last : ℕ) → suc last ≡ length list → length before ≡ length list → take last before ≢ take last list
    → list_step before list ≡ None
unfolding list_step
no_step_front [] list last l e h = refl
no_step_front (n ∷ ns) [] last l e h = absurd (omega arith)
no_step_front (n ∷ []) (m ∷ []) zero l e h = absurd (h refl)
no_step_front (n ∷ []) (m ∷ []) (suc k) l e h = absurd (omega arith)
no_step_front (n ∷ []) (m ∷ b ∷ ms) last l e h = refl
no_step_front (n ∷ a ∷ ns) (m ∷ []) last l e h = refl
no_step_front (n ∷ a ∷ ns) (m ∷ b ∷ ms) zero l e h = absurd (h refl)
no_step_front (n ∷ a ∷ ns) (m ∷ b ∷ ms) (suc k) l e h =
    elim (cases_eq n m) [
      | inl s ↦ rw (eq-eqb n m s) (no_step_front (a ∷ ns) (b ∷ ms) k (omega arith) (omega arith) (λ t. h (λ j. s j ∷ t j)))
      | inr d ↦ rw (ne_eqb n m d) refl
    ]

-- lists that are the same before have that of the last
pub step_last : (before list : List ℕ) (last : ℕ) → suc last ≡ length list → length before ≡ length list → take last before ≡ take last list
    → list_step before list ≡ small_step (get_or before last 0) (get_or list last 0)
unfolding list_step
step_last [] list last l e h = absurd (omega arith)
step_last (n ∷ ns) [] last l e h = absurd (omega arith)
step_last (n ∷ []) (m ∷ []) zero l e h = refl
step_last (n ∷ []) (m ∷ []) (suc k) l e h = absurd (omega arith)
step_last (n ∷ []) (m ∷ b ∷ ms) last l e h = absurd (omega arith)
step_last (n ∷ a ∷ ns) (m ∷ []) last l e h = absurd (omega arith)
step_last (n ∷ a ∷ ns) (m ∷ b ∷ ms) zero l e h = absurd (omega arith)
step_last (n ∷ a ∷ ns) (m ∷ b ∷ ms) (suc k) l e h =
    rw (eq-eqb n m (ap (λ (xs : List ℕ). get_or xs 0 0) h)) (step_last (a ∷ ns) (b ∷ ms) k (omega arith) (omega arith) (ap (drop 1) h))

-- and none where the last number has none
pub no_step_last : (before list : List ℕ) (last : ℕ) → suc last ≡ length list → length before ≡ length list
    → small_step (get_or before last 0) (get_or list last 0) ≡ None → list_step before list ≡ None
unfolding list_step
no_step_last [] list last l e h = refl
no_step_last (n ∷ ns) [] last l e h = absurd (omega arith)
no_step_last (n ∷ []) (m ∷ []) zero l e h = h
no_step_last (n ∷ []) (m ∷ []) (suc k) l e h = absurd (omega arith)
no_step_last (n ∷ []) (m ∷ b ∷ ms) last l e h = refl
no_step_last (n ∷ a ∷ ns) (m ∷ []) last l e h = refl
no_step_last (n ∷ a ∷ ns) (m ∷ b ∷ ms) zero l e h = absurd (omega arith)
no_step_last (n ∷ a ∷ ns) (m ∷ b ∷ ms) (suc k) l e h =
    elim (cases_eq n m) [
      | inl s ↦ rw (eq-eqb n m s) (no_step_last (a ∷ ns) (b ∷ ms) k (omega arith) (omega arith) h)
      | inr d ↦ rw (ne_eqb n m d) refl
    ]

-- by such a step the last number is raised
pub record IsRaised (before list : List ℕ) (step : ℕ) : Type 0 where
  pub raised_is : raised step before ≡ list
  pub small : step < 64

last_raised : (n m step : ℕ) → small_step n m ≡ Some step → IsRaised (n ∷ []) (m ∷ []) step
unfolding raised
last_raised n m step e =
    elim (cases_lt m n) [
      | inl l ↦ let none : small_step n m ≡ None = grind (arith, nat_tests) in cc
      | inr l ↦ elim (cases_lt (m - n) 64) [
        | inl s ↦ let some : small_step n m ≡ Some (m - n) = grind (arith, nat_tests) in
            let is : step ≡ m - n = cc in
            let sum : n + step ≡ m = omega arith in
            record { raised_is = ap (λ x. x ∷ []) sum; small = omega arith }
        | inr s ↦ let none : small_step n m ≡ None = grind (arith, nat_tests) in cc
      ]
    ]

pub step_raises : (before list : List ℕ) (step : ℕ) → list_step before list ≡ Some step → IsRaised before list step
unfolding list_step raised
step_raises [] list step e = cc
step_raises (n ∷ []) [] step e = cc
step_raises (n ∷ []) (m ∷ []) step e = last_raised n m step e
step_raises (n ∷ []) (m ∷ b ∷ ms) step e = cc
step_raises (n ∷ a ∷ ns) [] step e = cc
step_raises (n ∷ a ∷ ns) (m ∷ []) step e = cc
step_raises (n ∷ a ∷ ns) (m ∷ b ∷ ms) step e =
    elim (cases_eq n m) [
      | inl s ↦ let rest = step_raises (a ∷ ns) (b ∷ ms) step ((rw (eq-eqb n m s) at e)) in
          record { raised_is = (λ j. s j ∷ rest.raised_is j); small = rest.small }
      | inr d ↦ let none = (rw (ne_eqb n m d) at e) in cc
    ]

-- ---- what tells a list

told_fits : (before list : List ℕ) → length list < 2 ^ 63 → All (λ n. n < 2 ^ 32) list → All (λ n. n < 2 ^ 64) (told_after before list)
told_fits before list h w = by_step (list_step before list) refl
  where
    by_step : (step : Option ℕ) → list_step before list ≡ step → All (λ n. n < 2 ^ 64) (told_by step list)
    by_step (Some step) e zero d l = let s = (step_raises before list step e).small in omega arith
    by_step (Some step) e (suc k) d l = absurd (omega arith)
    by_step None e zero d l = omega arith
    by_step None e (suc k) d l = let a = w k d (omega arith) in omega (arith, a)

-- the numbers of lists have 32 bits
abbrev pub AreWords : List (List ℕ) → Type 0
AreWords lists = All (All (λ n. n < 2 ^ 32)) lists

pub more_words : (lists : List (List ℕ)) (k : ℕ) (list : List ℕ) → k < length lists → list ≡ get_or lists k [] → All (λ n. n < 2 ^ 32) list
    → AreWords (take k lists) → AreWords (take (k + 1) lists)
more_words lists k list l e w a =
    let one : k + 1 ≡ suc k = omega arith in
    subst AreWords (sym (ap (λ n. take n lists) one ∙ take-suc lists k [] l ∙ (λ j. take k lists ++ sym e j ∷ [])))
    (All-push (All (λ n. n < 2 ^ 32)) (take k lists) list a w)

-- the list behind which the one at a place stands
pub list_after : (lists : List (List ℕ)) (k next : ℕ) (list : List ℕ) → next ≡ k + 1 → list ≡ get_or lists k [] → list ≡ get_or ([] ∷ lists) next []
list_after lists k next list h e = let n : next ≡ suc k = omega arith in e ∙ ap (λ i. get_or ([] ∷ lists) i []) (sym n)

-- one list more is told after the one before it
told_one_more : (before : List ℕ) (lists : List (List ℕ)) (k : ℕ) → k < length lists
    → told_from before (take (suc k) lists) ≡ told_from before (take k lists) ++ told_after (get_or (before ∷ lists) k []) (get_or lists k [])
unfolding told_from
told_one_more before [] k l = absurd (omega arith)
told_one_more before (list ∷ lists) zero l = append-nil (told_after before list)
told_one_more before (list ∷ lists) (suc k) l =
    ap (λ ns. told_after before list ++ ns) (told_one_more list lists k (omega arith))
    ∙ sym (append_assoc (told_after before list) (told_from list (take k lists)) (told_after (get_or (list ∷ lists) k []) (get_or lists k [])))

pub adds_list : (lists : List (List ℕ)) (k : ℕ) (before list ns was new : List ℕ) → k < length lists → before ≡ get_or ([] ∷ lists) k []
    → list ≡ get_or lists k [] → was ≡ ns ++ told_lists (take k lists) → new ≡ was ++ told_after before list
    → new ≡ ns ++ told_lists (take (k + 1) lists)
adds_list lists k before list ns was new l b e w n =
    let one : k + 1 ≡ suc k = omega arith in
    n ∙ (λ j. w j ++ told_after (b j) (e j))
    ∙ append_assoc ns (told_lists (take k lists)) (told_after (get_or ([] ∷ lists) k []) (get_or lists k []))
    ∙ ap (λ ms. ns ++ ms) (sym (told_one_more [] lists k l)) ∙ ap (λ i. ns ++ told_lists (take i lists)) (sym one)

-- one list more in a row of so many
pub record HasOneMore (lists : List (List ℕ)) (k : ℕ) (bs new : List ℕ) : Type 0 where
  pub row : IsRow new
  pub added : (ns : List ℕ) → numbers_of bs ≡ ns ++ told_lists (take k lists) → numbers_of new ≡ ns ++ told_lists (take (k + 1) lists)
  pub words : AreWords (take k lists) → AreWords (take (k + 1) lists)

pub one_list_more : (lists : List (List ℕ)) (k : ℕ) (before list bs new : List ℕ) → IsRow bs → k < length lists → before ≡ get_or ([] ∷ lists) k []
    → list ≡ get_or lists k [] → length list < 2 ^ 63 → All (λ n. n < 2 ^ 32) list → new ≡ bs ++ flat_map bytes_of (told_after before list)
    → HasOneMore lists k bs new
one_list_more lists k before list bs new r l b e h w n =
    let f = told_fits before list h w in
    record {
      row = subst IsRow (sym n) (whole_all bs (told_after before list) r f);
      added = λ ns was. adds_list lists k before list ns (numbers_of bs) (numbers_of new) l b e was
          (ap numbers_of n ∙ reads_all bs (told_after before list) r.whole f);
      words = more_words lists k list l e w;
    }
