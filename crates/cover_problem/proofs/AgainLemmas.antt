-- The items of a problem are read again, and its parts are within the limits.
use Rattle.std.proofs.Common.{◌≡◌, ◌<◌, ◌≤◌, ℕ, zero, suc, ◌+◌, ◌-◌, List, [], ◌∷◌, ◌++◌, map, length, get_or, Bool, true, false, not, ◌&&◌, nat_le, Some, Ok, sum_by, refl, sym, ap, ◌∙◌, bytes_eq, arith, append_assoc, append-nil, le_trans, one-add, lt-ltb, le-leb, leb-true}
use Rattle.std.specs.List.{list_all, list_any, position_or_len}
use Rattle.std.specs.Cmp.Lexicographic.{bytes_decides}
use Rattle.std.proofs.lemmas.Bool.{and_parts, and_from, or_parts, not-true, not_from_false}
use Rattle.std.proofs.lemmas.List.Folds.{list_any-append}
use Rattle.std.proofs.lemmas.List.Sums.{AllPass-from_list_all}
use Rattle.cover_problem.proofs.PartLemmas.{distinct_before}
use Rattle.text_lines.specs.Each.{each}
use Rattle.shared_words.specs.Lists.{has, are_distinct}
use Rattle.cover_problem.specs.Problem.{ProblemValue, is_name, is_item, is_small, are_new, name_at, item_named}
use Rattle.cover_problem.specs.Validation.{within}
use Rattle.cover_problem.specs.Reading.{item_of, add_item}
use Rattle.cover_problem.proofs.BoundLemmas.{item_bounds}
use Rattle.cover_problem.proofs.NameLemmas.{bytes_eq_sym}

pub new_front : (xs ys : List (List ℕ)) → are_new (xs ++ ys) ≡ true → are_new xs ≡ true
new_front [] ys h = refl
new_front (x ∷ xs) ys h =
    let p = and_parts (not (list_any (bytes_eq x) (xs ++ ys))) (are_new (xs ++ ys)) h in
    let q = or_parts (list_any (bytes_eq x) xs) (list_any (bytes_eq x) ys) (sym (list_any-append (bytes_eq x) xs ys) ∙ not-true _ p.0) in
    and_from _ _ (not_from_false _ q.0) (new_front xs ys p.1)

none_at : (t : List ℕ → Bool) (xs : List (List ℕ)) (i : ℕ) → list_any t xs ≡ false → i < length xs → t (get_or xs i []) ≡ false
none_at t [] i h l = absurd (omega arith)
none_at t (x ∷ xs) zero h l = (or_parts (t x) (list_any t xs) h).0
none_at t (x ∷ xs) (suc i) h l = none_at t xs i (or_parts (t x) (list_any t xs) h).1 (omega arith)

own_place : (names : List (List ℕ)) (i : ℕ) → are_new names ≡ true → i < length names → position_or_len (bytes_eq (get_or names i [])) names ≡ i
own_place [] i h l = absurd (omega arith)
own_place (x ∷ xs) zero h l = rw ((bytes_decides x x).1 refl) refl
own_place (x ∷ xs) (suc i) h l =
    let p = and_parts (not (list_any (bytes_eq x) xs)) (are_new xs) h in
    let m : i < length xs = omega arith in
    let e : bytes_eq (get_or xs i []) x ≡ false = bytes_eq_sym (get_or xs i []) x ∙ none_at (bytes_eq x) xs i (not-true _ p.0) m in
    rw (e, own_place xs i p.1 m) (one-add i)

-- an item is found by its name
pub item_found : (names : List (List ℕ)) (i : ℕ) → are_new names ≡ true → is_item (length names) i ≡ true → item_named names (name_at names i) ≡ Some i
item_found names i new is =
    let b = item_bounds (length names) i is in
    let some : 0 < i = b.0 in
    let within : i ≤ length names = b.1 in
    let l : i - 1 < length names = omega arith in
    let e : i - 1 + 1 ≡ i = omega arith in
    rw (own_place names (i - 1) new l, lt-ltb (i - 1) (length names) l) (ap (λ k. Some k) e)

item_again : (names : List (List ℕ)) (i : ℕ) → list_all is_name names ≡ true → are_new names ≡ true → is_item (length names) i ≡ true → item_of names (name_at names i) ≡ Ok i
unfolding item_of
item_again names i named new is =
    let b = item_bounds (length names) i is in
    let some : 0 < i = b.0 in
    let within : i ≤ length names = b.1 in
    let l : i - 1 < length names = omega arith in
    rw (AllPass-from_list_all is_name names named (i - 1) [] l, item_found names i new is) refl

item_taken_again : (names : List (List ℕ)) (acc : List ℕ) (i : ℕ) → item_of names (name_at names i) ≡ Ok i → has acc i ≡ false → add_item names acc (name_at names i) ≡ Ok (acc ++ i ∷ [])
unfolding add_item
item_taken_again names acc i e h = rw (e, h) refl

pub items_again : (names : List (List ℕ)) (acc items : List ℕ) → list_all is_name names ≡ true → are_new names ≡ true → list_all (is_item (length names)) items ≡ true → are_distinct (acc ++ items) ≡ true → each (add_item names) acc (map (name_at names) items) ≡ Ok (acc ++ items)
unfolding each
items_again names acc [] named new is d = ap (λ os. Ok os) (sym (append-nil acc))
items_again names acc (i ∷ items) named new is d =
    let p = and_parts (is_item (length names) i) (list_all (is_item (length names)) items) is in
    let e : (acc ++ i ∷ []) ++ items ≡ acc ++ i ∷ items = append_assoc acc (i ∷ []) items in
    rw (item_taken_again names acc i (item_again names i named new p.0) (distinct_before acc items i d))
    (items_again names (acc ++ i ∷ []) items named new p.1 (rw e d) ∙ ap (λ os. Ok os) e)

-- *a part of a problem within the limits is within them*

small_parts : (p : ProblemValue) → is_small p ≡ true → (nat_le (length p.names) 65535 ≡ true) × (nat_le (length p.options) 262143 ≡ true) × (nat_le (length p.names + sum_by length p.options + length p.options + 2) 8388608 ≡ true)
small_parts p h =
    let a = and_parts (nat_le (length p.names) 65535 && nat_le (length p.options) 262143) (nat_le (length p.names + sum_by length p.options + length p.options + 2) 8388608) h in
    let b = and_parts (nat_le (length p.names) 65535) (nat_le (length p.options) 262143) a.0 in
    (b.0, b.1, a.1)

pub fits : (p q : ProblemValue) → is_small q ≡ true → length p.names ≤ length q.names → length p.options ≤ length q.options → sum_by length p.options ≤ sum_by length q.options → within p ≡ Ok p
fits p q h a b c =
    let s = small_parts q h in
    let e : nat_le (length p.names) 65535 ≡ true = le-leb _ _ (le_trans a (leb-true _ _ s.0)) in
    let f : nat_le (length p.options) 262143 ≡ true = le-leb _ _ (le_trans b (leb-true _ _ s.1)) in
    let l : length p.names + sum_by length p.options + length p.options + 2 ≤ length q.names + sum_by length q.options + length q.options + 2 = omega arith in
    let g : nat_le (length p.names + sum_by length p.options + length p.options + 2) 8388608 ≡ true = le-leb _ _ (le_trans l (leb-true _ _ s.2)) in
    rw (e, f, g) refl
