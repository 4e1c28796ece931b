-- For each item the options that have it, as they are noted.
use Rattle.std.proofs.Common.{◌≡◌, refl, sym, ap, ◌∙◌, ℕ, suc, zero, ◌+◌, ◌-◌, ◌<◌, ◌≤◌, Bool, true, false, ◌&&◌, cond, List, [], ◌∷◌, ◌++◌, map, filter, replicate, length, get_or, take, set, nat_lt, arith, inl, inr, ◌⊎◌, append-nil, add-one, length-append, length-set, take-suc, ext_get_or, get_or-set_same, get_or-set_other}
use Rattle.std.specs.List.{list_all}
use Rattle.std.proofs.lemmas.Bool.{and_parts, cases_eq}
use Rattle.std.proofs.lemmas.List.{length-map, get_or-map, map-set}
use Rattle.std.proofs.lemmas.List.Sums.{AllPass-from_list_all, length-filter, count_by-le-length}
use Rattle.shared_words.specs.Lists.{has, are_distinct, numbers}
use Rattle.cover_problem.specs.Problem.{ProblemValue, IsProblem, is_item, is_option}
use Rattle.cover_problem.specs.Table.{TableValue}
use Rattle.cover_problem.specs.Plain.{holding, holders_of, IsNoted}
use Rattle.std.proofs.Math.Seq.{get_or-append_seam}
use Rattle.std.proofs.Math.ListN.{get_or-append}
use Rattle.std.proofs.lemmas.List.Elements.{filter-append}
use Rattle.cover_problem.proofs.BoundLemmas.{item_bounds, few}
use Rattle.cover_problem.proofs.MemberLemmas.{has_push_same, has_push_other}
use Rattle.cover_problem.proofs.NumberLemmas.{length-numbers, filter_on, number_at, numbers_push}
use Rattle.cover_problem.proofs.PartLemmas.{fresh_at}

pub item_range : (n : ℕ) (option : List ℕ) → is_option n option ≡ true → (i d : ℕ) → i < length option → (0 < get_or option i d) × (get_or option i d ≤ n)
item_range n option h i d l =
    let a = and_parts (nat_lt 0 (length option) && are_distinct option) (list_all (is_item n) option) h in
    item_bounds n (get_or option i d) (AllPass-from_list_all (is_item n) option a.1 i d l)

option_distinct : (n : ℕ) (option : List ℕ) → is_option n option ≡ true → are_distinct option ≡ true
option_distinct n option h =
    let a = and_parts (nat_lt 0 (length option) && are_distinct option) (list_all (is_item n) option) h in
    (and_parts (nat_lt 0 (length option)) (are_distinct option) a.0).1

module _ {X : Type 0} (items : X → List ℕ) (k : ℕ) (option : List ℕ) (old : List (List ℕ)) (hs : List X) (place : ℕ) (v d : X) (l : place < length option) (o : is_option (length old) option ≡ true) (pushed : items v ≡ items (get_or hs (get_or option place 0 - 1) d) ++ k ∷ []) (noted : IsNoted k (take place option) old (map items hs)) where
  noted_at : (j : ℕ) → j < length old → (j ≡ get_or option place 0 - 1) ⊎ (j ≡ get_or option place 0 - 1 → ⊥) → get_or (set (map items hs) (get_or option place 0 - 1) (items v)) j [] ≡ get_or old j [] ++ cond (has (take place option ++ get_or option place 0 ∷ []) (j + 1)) (k ∷ []) []
  noted_at j m (inl e) =
      let r = item_range (length old) option o place 0 l in
      let w : get_or option place 0 - 1 < length (map items hs) = let a = r.0 in let b = r.1 in let g = noted.long in omega arith in
      let w' : get_or option place 0 - 1 < length hs = rw (sym (length-map hs items)) w in
      let x : get_or option place 0 ≡ j + 1 = let a = r.0 in omega arith in
      let q : j + 1 ≡ get_or option place 0 = sym x in
      let new : has (take place option) (j + 1) ≡ false = ap (has (take place option)) q ∙ fresh_at option place l (option_distinct (length old) option o) in
      let here : get_or (map items hs) j [] ≡ get_or old j [] = noted.at j m ∙ ap (λ b. get_or old j [] ++ cond b (k ∷ []) []) new ∙ append-nil (get_or old j []) in
      let was : items (get_or hs (get_or option place 0 - 1) d) ≡ get_or old j [] = sym (get_or-map items hs (get_or option place 0 - 1) d [] w') ∙ ap (λ i. get_or (map items hs) i []) (sym e) ∙ here in
      ap (λ i. get_or (set (map items hs) (get_or option place 0 - 1) (items v)) i []) e
      ∙ get_or-set_same (map items hs) (get_or option place 0 - 1) (items v) [] w ∙ pushed ∙ ap (λ xs. xs ++ k ∷ []) was
      ∙ ap (λ b. get_or old j [] ++ cond b (k ∷ []) []) (sym (has_push_same (take place option) (get_or option place 0) (j + 1) x))
  noted_at j m (inr n) =
      let r = item_range (length old) option o place 0 l in
      let x : get_or option place 0 ≡ j + 1 → ⊥ = λ e. n (let a = r.0 in omega arith) in
      get_or-set_other (map items hs) (get_or option place 0 - 1) j (items v) [] n ∙ noted.at j m
      ∙ ap (λ b. get_or old j [] ++ cond b (k ∷ []) []) (sym (has_push_other (take place option) (get_or option place 0) (j + 1) x))

  pub noted_more : IsNoted k (take (place + 1) option) old (map items (set hs (get_or option place 0 - 1) v))
  noted_more = rw (add-one place, take-suc option place 0 l, map-set items hs (get_or option place 0 - 1) v) (record {
    long = simp length-set noted.long;
    at = λ j m. noted_at j m (cases_eq j (get_or option place 0 - 1));
  })

holding_push : (options : List (List ℕ)) (option : List ℕ) (j : ℕ) → holding (options ++ option ∷ []) j ≡ holding options j ++ cond (has option j) ((length options + 1) ∷ []) []
holding_push options option j =
    let n : length (options ++ option ∷ []) ≡ suc (length options) = length-append options (option ∷ []) ∙ (let e : length options + 1 ≡ suc (length options) = omega arith in e) in
    let test : ℕ → Bool = λ k. has (get_or (options ++ option ∷ []) (k - 1) []) j in
    let a : filter test (numbers (length (options ++ option ∷ [])) 1) ≡ filter test (numbers (length options) 1 ++ (1 + length options) ∷ []) = ap (λ m. filter test (numbers m 1)) n ∙ ap (filter test) (numbers_push (length options) 1) in
    let here : test (1 + length options) ≡ has option j = ap (λ i. has (get_or (options ++ option ∷ []) i []) j) (let e : 1 + length options - 1 ≡ length options = omega arith in e) ∙ ap (λ o. has o j) (get_or-append_seam options option [] []) in
    let before : filter test (numbers (length options) 1) ≡ holding options j = filter_on test (λ k. has (get_or options (k - 1) []) j) (length options) 1 (λ x l m. ap (λ o. has o j) (get_or-append options (option ∷ []) [] (x - 1) (omega arith))) in
    a ∙ filter-append test (numbers (length options) 1) ((1 + length options) ∷ [])
    ∙ ap (λ xs. xs ++ cond (test (1 + length options)) ((1 + length options) ∷ []) []) before
    ∙ ap (λ b. holding options j ++ cond b ((1 + length options) ∷ []) []) here
    ∙ ap (λ x. holding options j ++ cond (has option j) (x ∷ []) []) (let e : 1 + length options ≡ length options + 1 = omega arith in e)

pub holders_none : (n : ℕ) → replicate n [] ≡ holders_of n []
holders_none n = from n 1
  where
    from : (n k : ℕ) → replicate n [] ≡ map (holding []) (numbers n k)
    from zero k = refl
    from (suc n) k = ap (λ xs. [] ∷ xs) (from n (suc k))

pub holders_push : (n : ℕ) (options : List (List ℕ)) (option : List ℕ) (k : ℕ) (old new : List (List ℕ)) → k ≡ length options + 1 → old ≡ holders_of n options → IsNoted k option old new → new ≡ holders_of n (options ++ option ∷ [])
holders_push n options option k old new e h noted =
    let was : length old ≡ n = ap length h ∙ length-map (numbers n 1) (holding options) ∙ length-numbers n 1 in
    let long : length (holders_of n (options ++ option ∷ [])) ≡ n = length-map (numbers n 1) (holding (options ++ option ∷ [])) ∙ length-numbers n 1 in
    ext_get_or [] new (holders_of n (options ++ option ∷ [])) (noted.long ∙ was ∙ sym long) (λ j l.
    let m : j < n = let a = noted.long in omega arith in
    let m' : j < length old = let a = noted.long in omega arith in
    let x : 1 + j ≡ j + 1 = omega arith in
    noted.at j m' ∙ ap (λ xs. xs ++ cond (has option (j + 1)) (k ∷ []) []) (ap (λ hs. get_or hs j []) h ∙ number_at (holding options) n 1 j [] m ∙ ap (holding options) x)
    ∙ ap (λ i. holding options (j + 1) ++ cond (has option (j + 1)) (i ∷ []) []) e
    ∙ sym (number_at (holding (options ++ option ∷ [])) n 1 j [] m ∙ ap (holding (options ++ option ∷ [])) x ∙ holding_push options option (j + 1)))

pub option_here : (p : ProblemValue) → IsProblem p → (k : ℕ) → 1 ≤ k → k < 1 + length p.options → is_option (length p.names) (get_or p.options (k - 1) []) ≡ true
option_here p sound k a b = AllPass-from_list_all (is_option (length p.names)) p.options sound.options_are (k - 1) [] (omega arith)

filter_short : (test : ℕ → Bool) (xs : List ℕ) → length (filter test xs) ≤ length xs
filter_short test xs = let a = length-filter test xs in let b = count_by-le-length test xs in omega arith

pub few_options : (p : ProblemValue) → IsProblem p → length p.options ≤ 262143
few_options p sound = (few p sound).1

pub count_small : (t : TableValue) (j : ℕ) (holders : List ℕ) (test : ℕ → Bool) → IsProblem t.problem → holders ≡ holding t.problem.options j → length (filter test holders) ≤ 262143
count_small t j holders test sound are =
    let a = filter_short test holders in
    let b = filter_short (λ k. has (get_or t.problem.options (k - 1) []) j) (numbers (length t.problem.options) 1) in
    let e = ap (λ xs. length xs) are in
    let n = length-numbers (length t.problem.options) 1 in
    let m = few_options t.problem sound in
    omega arith
