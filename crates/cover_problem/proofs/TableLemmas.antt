-- What a table that scans keeps is what the definitions ask.
use Rattle.std.proofs.Common.{◌≡◌, sym, ap, ◌∙◌, ap₂, subst, ℕ, ◌+◌, ◌-◌, ◌<◌, ◌≤◌, true, false, not, cond, List, [], ◌∷◌, ◌++◌, filter, find, replicate, length, get_or, take, drop, set, All, nat_lt, ◌==◌, arith, length-append}
use Rattle.std.specs.List.{list_any, list_all, prefix_len, before_first}
use Rattle.std.proofs.lemmas.Bool.{and_parts}
use Rattle.std.proofs.lemmas.List.{length-map}
use Rattle.std.proofs.lemmas.List.Sums.{AllPass-from_list_all}
use Rattle.std.proofs.lemmas.List.Elements.{All-filter}
use Rattle.shared_words.specs.Lists.{has, numbers, RisesFrom, above, below, last_of}
use Rattle.cover_problem.specs.Problem.{ProblemValue, IsProblem, is_option}
use Rattle.cover_problem.specs.Covering.{active, is_remaining, remaining, list_of}
use Rattle.cover_problem.specs.Table.{IsCoveredList, TableValue}
use Rattle.cover_problem.specs.Plain.{holding, holders_of, time_of, times_of, is_in, was_in, IsPlain}
use Rattle.std.proofs.Math.Seq.{take-append_seam}
use Rattle.cover_problem.proofs.ActiveLemmas.{option_items_in}
use Rattle.cover_problem.proofs.CoveredLemmas.{covered_none, covered_push, covered_last, covered_pop, covered_most}
use Rattle.cover_problem.proofs.BoundLemmas.{few}
use Rattle.cover_problem.proofs.MemberLemmas.{has_filter_in}
use Rattle.cover_problem.proofs.NumberLemmas.{has_numbers_in, length-numbers, rises_filter, set_number, item_at, numbers_all, find_on}
use Rattle.cover_problem.proofs.WalkLemmas.{first_above, next_in, prev_in, walk}
use Rattle.cover_problem.proofs.HolderLemmas.{item_range}
use Rattle.cover_problem.proofs.TimeLemmas.{place, is_never, list_is, new_time, old_time, times_none}

pub covered_short : (p : ProblemValue) (c : List ℕ) → IsProblem p → IsCoveredList p c → (length c ≤ length p.names) × (length p.names ≤ 65535) × (length p.options ≤ 262143)
covered_short p c sound cov = let f = few p sound in (covered_most p c cov, f.0, f.1)

pub plain_at : {pr : ℕ} {os hs : List (List ℕ)} {ts : List ℕ} {never room : ℕ} {s t : TableValue} → s ≡ t → IsPlain s.problem pr os hs s.covered ts never room → IsPlain t.problem pr os hs t.covered ts never room
plain_at {pr} {os} {hs} {ts} {never} {room} e h = subst (λ u. IsPlain u.problem pr os hs u.covered ts never room) e h

module _ {p : ProblemValue} {pr : ℕ} {os hs : List (List ℕ)} {c ts : List ℕ} {never room : ℕ} (h : IsPlain p pr os hs c ts never room) where
  pub holders_long : length hs ≡ length p.names
  holders_long = ap length h.holders_are ∙ length-map (numbers (length p.names) 1) (holding p.options) ∙ length-numbers (length p.names) 1

  pub times_long : length ts ≡ length p.names
  times_long = ap length h.times_are ∙ length-map (numbers (length p.names) 1) (time_of never c) ∙ length-numbers (length p.names) 1

  pub row_is : (i : ℕ) → 0 < i → i ≤ length p.names → get_or hs (i - 1) [] ≡ holding p.options i
  row_is i a b = ap (λ xs. get_or xs (i - 1) []) h.holders_are ∙ item_at (holding p.options) (length p.names) i [] a b

  pub time_is : (i e : ℕ) → 0 < i → i ≤ length p.names → get_or ts (i - 1) e ≡ time_of never c i
  time_is i e a b = ap (λ xs. get_or xs (i - 1) e) h.times_are ∙ item_at (time_of never c) (length p.names) i e a b

same_test : (never : ℕ) (t : TableValue) (os : List (List ℕ)) (ts : List ℕ) (time : ℕ) → os ≡ t.problem.options → ts ≡ times_of never (length t.problem.names) t.covered → is_in os ts time ≡ was_in never t time
unfolding was_in
same_test never t os ts time a b = ap₂ (λ (o : List (List ℕ)) (x : List ℕ). is_in o x time) a b

-- the test of a table, by its fields
pub was_is : {pr : ℕ} {os hs : List (List ℕ)} {ts : List ℕ} {never room : ℕ} {s t : TableValue} → s ≡ t → IsPlain s.problem pr os hs s.covered ts never room → (time : ℕ) → is_in os ts time ≡ was_in never t time
was_is {pr} {os} {hs} {ts} {never} {room} {s} {t} e h time = let i = plain_at e h in same_test never t os ts time i.options_are i.times_are

pub items_fit : {p : ProblemValue} {pr : ℕ} {os hs : List (List ℕ)} {c ts : List ℕ} {never room : ℕ} → IsPlain p pr os hs c ts never room → All (λ o. All (λ i. (0 < i) × (i ≤ length ts)) o) os
items_fit {p} {pr} {os} {hs} {c} {ts} h k d l m e n =
    let long : length ts ≡ length p.names = times_long h in
    let all : list_all (is_option (length p.names)) os ≡ true = rw h.options_are h.sound.options_are in
    let o : is_option (length p.names) (get_or os k d) ≡ true = AllPass-from_list_all (is_option (length p.names)) os all k d l in
    let r = item_range (length p.names) (get_or os k d) o m e n in
    (r.0, let b = r.1 in omega arith)

-- the options that have an item, and those of them that are left
module _ (t : TableValue) (j : ℕ) (holders : List ℕ) (are : holders ≡ holding t.problem.options j) where
  pub holders_within : All (λ k. (0 < k) × (k ≤ length t.problem.options)) holders
  holders_within = subst (λ xs. All (λ k. (0 < k) × (k ≤ length t.problem.options)) xs) (sym are)
      (All-filter (λ k. has (get_or t.problem.options (k - 1) []) j) (λ k. (0 < k) × (k ≤ length t.problem.options)) (numbers (length t.problem.options) 1)
      (numbers_all (λ k. (0 < k) × (k ≤ length t.problem.options)) (length t.problem.options) 1 (λ x a b. (omega arith, omega arith))))

  pub holders_rise : RisesFrom 1 holders
  holders_rise = subst (λ xs. RisesFrom 1 xs) (sym are) (rises_filter (λ k. has (get_or t.problem.options (k - 1) []) j) (length t.problem.options) 1)

  module _ (never time : ℕ) (sound : IsProblem t.problem) (cov : IsCoveredList t.problem t.covered) (late : 65535 < never) (at : time ≡ time_of never t.covered j) where
    pub list_from : filter (was_in never t time) holders ≡ list_of t.problem t.covered j
    unfolding was_in
    list_from =
        let s = covered_short t.problem t.covered sound cov in
        let short : length t.covered < never = let a = s.0 in let b = s.1 in omega arith in
        rw (are, at) (sym (list_is never t.problem t.covered sound short j))

    pub count_from : length (filter (was_in never t time) holders) ≡ length (list_of t.problem t.covered j)
    count_from = ap (λ xs. length xs) list_from

    pub first_from : find (was_in never t time) holders ≡ above 0 (list_of t.problem t.covered j)
    first_from = first_above (was_in never t time) 0 1 holders holders_rise (omega arith) ∙ ap (λ xs. above 0 xs) list_from

    pub last_from : last_of (filter (was_in never t time) holders) ≡ last_of (list_of t.problem t.covered j)
    last_from = ap (λ xs. last_of xs) list_from

    pub next_from : (o : ℕ) → find (was_in never t time) (drop (prefix_len (λ k. nat_lt k (o + 1)) holders) holders) ≡ above o (list_of t.problem t.covered j)
    next_from o = next_in (was_in never t time) o 1 holders holders_rise ∙ ap (λ xs. above o xs) list_from

    pub prev_from : (o : ℕ) → last_of (filter (was_in never t time) (take (prefix_len (λ k. nat_lt k o) holders) holders)) ≡ below o (list_of t.problem t.covered j)
    prev_from o = prev_in (was_in never t time) o 1 holders holders_rise ∙ ap (λ xs. below o xs) list_from

-- an option in an item's list has the item
pub in_list : (p : ProblemValue) (c : List ℕ) (j o : ℕ) → IsProblem p → has (list_of p c j) o ≡ true → (0 < j) × (j ≤ length p.names) × (0 < o) × (o ≤ length p.options)
unfolding list_of remaining
in_list p c j o sound h =
    let d = before_first (λ x. x == j) c in
    let r = has_filter_in (λ k. is_remaining d j (get_or p.options (k - 1) [])) (numbers (length p.options) 1) o h in
    let n = has_numbers_in (length p.options) 1 o r.1 in
    let a = n.0 in let b = n.1 in
    let l = and_parts (has (get_or p.options (o - 1) []) j) (not (list_any (has d) (get_or p.options (o - 1) []))) r.0 in
    let i = option_items_in p o j sound (omega arith) (omega arith) l.0 in
    (i.0, i.1, omega arith, omega arith)

module _ {p : ProblemValue} {pr : ℕ} {os hs : List (List ℕ)} {c ts : List ℕ} {never room : ℕ} (h : IsPlain p pr os hs c ts never room) (late : 65535 < never) where
  short_of : length c < never
  short_of = let s = covered_short p c h.sound h.distinct in let a = s.0 in let b = s.1 in omega arith

  pub primary_within : pr ≤ length p.names
  primary_within = let a = h.primary_is in let b = h.sound.within in omega arith

  pub walks : (a : ℕ) → a ≤ pr → find (λ i. get_or ts (i - 1) 0 == never) (numbers (pr - a) (a + 1)) ≡ above a (active p c)
  unfolding active
  walks a l =
      let w = primary_within in
      let e : a + 1 ≡ 1 + a = omega arith in
      find_on (λ i. get_or ts (i - 1) 0 == never) (λ i. not (has c i)) (pr - a) (a + 1)
      (λ i m n. ap (λ t. t == never) (time_is h i 0 (omega arith) (omega arith)) ∙ is_never never c short_of i)
      ∙ ap (λ k. find (λ i. not (has c i)) (numbers (pr - a) k)) e
      ∙ walk (λ i. not (has c i)) a a pr 1 e l ∙ ap (λ n. above a (filter (λ i. not (has c i)) (numbers n 1))) h.primary_is

pub plain_covered : {p : ProblemValue} {pr : ℕ} {os hs : List (List ℕ)} {c ts : List ℕ} {never room : ℕ} → IsPlain p pr os hs c ts never room → (i time more : ℕ) (now : List ℕ) → 0 < i → i ≤ length p.names → has c i ≡ false → time ≡ length c → now ≡ c ++ i ∷ [] → room ≤ more → IsPlain p pr os hs now (set ts (i - 1) time) never more
plain_covered {p} {pr} {os} {hs} {c} {ts} {never} {room} h i time more now a b u e n m = record {
  sound = h.sound;
  primary_is = h.primary_is;
  options_are = h.options_are;
  holders_are = h.holders_are;
  distinct = rw n (covered_push p c i h.distinct (record { some = a; within = b; uncovered = u }));
  times_are = rw n (ap₂ (λ xs t. set xs (i - 1) t) h.times_are (e ∙ sym (new_time never c i u)) ∙ set_number (time_of never c) (time_of never (c ++ i ∷ [])) (length p.names) i a b (old_time never c i));
  fits = let f = h.fits in omega arith;
}

pub plain_uncovered : {p : ProblemValue} {pr : ℕ} {os hs : List (List ℕ)} {c ts : List ℕ} {never room : ℕ} → IsPlain p pr os hs c ts never room → (i more : ℕ) (now : List ℕ) → c ≡ now ++ i ∷ [] → room ≤ more → IsPlain p pr os hs now (set ts (i - 1) never) never more
plain_uncovered {p} {pr} {os} {hs} {c} {ts} {never} {room} h i more now n m =
    let both : IsCoveredList p (now ++ i ∷ []) = rw n at h.distinct in
    let q = covered_last p now i both in
    let free : never ≡ time_of never now i = sym (ap (λ b. cond b (place now i) never) q.uncovered) in
    record {
      sound = h.sound;
      primary_is = h.primary_is;
      options_are = h.options_are;
      holders_are = h.holders_are;
      distinct = covered_pop p now i both;
      times_are = ap₂ (λ xs t. set xs (i - 1) t) (h.times_are ∙ ap (λ d. times_of never (length p.names) d) n) free
          ∙ set_number (time_of never (now ++ i ∷ [])) (time_of never now) (length p.names) i q.some q.within (λ x d. sym (old_time never now i x d));
      fits = let f = h.fits in omega arith;
    }

-- what a pop leaves
pub popped : (c f now : List ℕ) (i len : ℕ) → c ≡ f ++ i ∷ [] → len ≡ length c → now ≡ take (len - 1) c → c ≡ now ++ i ∷ []
popped c f now i len e l n =
    let a = ap (λ xs. length xs) e in let b = length-append f (i ∷ []) in
    let m : len - 1 ≡ length f = omega arith in
    let same : now ≡ f = n ∙ ap₂ (λ k xs. take k xs) m e ∙ take-append_seam f (i ∷ []) in
    e ∙ ap (λ xs. xs ++ i ∷ []) (sym same)

-- a table with nothing covered
pub plain_new : (p value : ProblemValue) (pr n never room : ℕ) (os hs : List (List ℕ)) (c ts : List ℕ) → IsProblem p → value ≡ p → pr ≡ p.primary → n ≡ length p.names → os ≡ p.options → hs ≡ holders_of n os → c ≡ [] → ts ≡ replicate n never → n ≤ room → IsPlain value pr os hs c ts never room
plain_new p value pr n never room os hs c ts sound v q e o h z t f = subst (λ x. IsPlain x pr os hs c ts never room) (sym v) (record {
  sound = sound;
  primary_is = q;
  options_are = o;
  holders_are = h ∙ ap₂ (λ m xs. holders_of m xs) e o;
  distinct = rw z (covered_none p);
  times_are = t ∙ times_none never n ∙ ap₂ (λ m xs. times_of never m xs) e (sym z);
  fits = rw (sym e) f;
})
