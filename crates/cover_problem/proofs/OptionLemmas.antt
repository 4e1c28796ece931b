-- Options: each number an item that is new there.
use Rattle.std.proofs.Common.{◌≡◌, refl, sym, ap, ◌∙◌, subst, ℕ, suc, ◌+◌, ◌-◌, ◌<◌, ◌≤◌, true, false, ◌&&◌, List, [], ◌∷◌, ◌++◌, map, length, get_or, take, drop, set, Result, Ok, Err, nat_lt, nat_le, ◌==◌, arith, inl, inr, ◌⊎◌, append_assoc, append-nil, add-one, ltb-true, lt-ltb, le-ltb, le-leb, eq-eqb, ne_eqb, drop-cons, take-suc, length-set, get_or-set_other, get_or-set_same, drop_of_length-le, take_all}
use Rattle.std.specs.List.{list_all}
use Rattle.std.proofs.lemmas.Bool.{and_parts, and_from, and_left, and_right, lt-leb, cases_eq}
use Rattle.cover_problem.specs.declared.fault.Fault.{Fault}
use Rattle.cover_problem.specs.declared.fault.Fault.TheVariants.{UnknownItem, ItemTwiceInOption, BadLine}
use Rattle.shared_words.specs.Lists.{has, are_distinct}
use Rattle.cover_problem.specs.Stamps.{AreStamps}
use Rattle.cover_problem.specs.Problem.{is_item, is_option}
use Rattle.text_lines.specs.Each.{each}
use Rattle.text_lines.proofs.EachLemmas.{each_goes, each_stops, each_ends, each_parts, each_none, each_step, each_nothing}
use Rattle.text_lines.proofs.ResultLemmas.{ok_is, bind_ok, chosen}
use Rattle.cover_problem.specs.Validation.{add_number, with_item, option_from, add_option}
use Rattle.cover_problem.proofs.MemberLemmas.{all_push, has_push_same, has_push_other}
use Rattle.cover_problem.proofs.PartLemmas.{are_distinct_push, distinct_before}
use Rattle.cover_problem.proofs.MapLemmas.{mapped_goes, mapped_stops, mapped_ends, map_more}

pub unknown : (n : ℕ) (taken : List ℕ) (i : ℕ) → is_item n i ≡ false → add_number n taken i ≡ Err UnknownItem
unknown n taken i h = rw h refl

pub taken_twice : (n : ℕ) (taken : List ℕ) (i : ℕ) → is_item n i ≡ true → has taken i ≡ true → add_number n taken i ≡ Err ItemTwiceInOption
taken_twice n taken i h t = rw (h, t) refl

pub taken_once : (n : ℕ) (taken : List ℕ) (i : ℕ) → is_item n i ≡ true → has taken i ≡ false → add_number n taken i ≡ Ok (taken ++ i ∷ [])
taken_once n taken i h t = rw (h, t) refl

pub some_option : (n : ℕ) (option : List ℕ) → 0 < length option → option_from n option ≡ each (add_number n) [] option
some_option n [] h = absurd (omega arith)
some_option n (i ∷ is) h = refl

pub is_item_yes : (n i : ℕ) → (i ≡ 0 → ⊥) → i ≤ n → is_item n i ≡ true
is_item_yes n i a b = and_from _ _ (lt-ltb 0 i (omega arith)) (le-leb i n b)

pub is_item_no : (n i : ℕ) → (i ≡ 0) ⊎ (n < i) → is_item n i ≡ false
is_item_no n i (inl e) = and_left (nat_lt 0 i) (nat_le i n) (le-ltb 0 i (omega arith))
is_item_no n i (inr l) = and_right (nat_lt 0 i) (nat_le i n) (lt-leb i n l)

module _ (n stamp place : ℕ) (marks numbers : List ℕ) (all : Result (List ℕ) Fault) (long : length marks ≡ n) (so_far : each (add_number n) (take place numbers) (drop place numbers) ≡ all) (marked : AreStamps stamp (take place numbers) marks) (more : place < length numbers) where
  pub stops_unknown : (get_or numbers place 0 ≡ 0) ⊎ (n < get_or numbers place 0) → all ≡ Err UnknownItem
  stops_unknown h = each_stops (add_number n) (take place numbers) (drop place numbers) all so_far (get_or numbers place 0) (drop (suc place) numbers) UnknownItem (drop-cons numbers place 0 more) (unknown n (take place numbers) (get_or numbers place 0) (is_item_no n (get_or numbers place 0) h))

  module _ (some : get_or numbers place 0 ≡ 0 → ⊥) (within : get_or numbers place 0 ≤ n) where
    mark_at : (get_or marks (get_or numbers place 0 - 1) 0 == stamp) ≡ has (take place numbers) (get_or numbers place 0)
    mark_at =
        let l : get_or numbers place 0 - 1 < length marks = omega arith in
        let e : suc (get_or numbers place 0 - 1) ≡ get_or numbers place 0 = omega arith in
        marked.taken (get_or numbers place 0 - 1) l ∙ ap (has (take place numbers)) e

    pub stops_twice : get_or marks (get_or numbers place 0 - 1) 0 ≡ stamp → all ≡ Err ItemTwiceInOption
    stops_twice h = each_stops (add_number n) (take place numbers) (drop place numbers) all so_far (get_or numbers place 0) (drop (suc place) numbers) ItemTwiceInOption (drop-cons numbers place 0 more) (taken_twice n (take place numbers) (get_or numbers place 0) (is_item_yes n (get_or numbers place 0) some within) (sym mark_at ∙ eq-eqb _ _ h))

    pub takes_once : (get_or marks (get_or numbers place 0 - 1) 0 ≡ stamp → ⊥) → each (add_number n) (take (place + 1) numbers) (drop (place + 1) numbers) ≡ all
    takes_once h = rw (add-one place, take-suc numbers place 0 more) (each_goes (add_number n) (take place numbers) (drop place numbers) all so_far (get_or numbers place 0) (drop (suc place) numbers) (take place numbers ++ get_or numbers place 0 ∷ []) (drop-cons numbers place 0 more) (taken_once n (take place numbers) (get_or numbers place 0) (is_item_yes n (get_or numbers place 0) some within) (sym mark_at ∙ ne_eqb _ _ h)))

    taken_at : (i : ℕ) → i < length marks → ((i ≡ get_or numbers place 0 - 1) ⊎ (i ≡ get_or numbers place 0 - 1 → ⊥)) → (get_or (set marks (get_or numbers place 0 - 1) stamp) i 0 ≤ stamp) × ((get_or (set marks (get_or numbers place 0 - 1) stamp) i 0 == stamp) ≡ has (take place numbers ++ get_or numbers place 0 ∷ []) (suc i))
    taken_at i l (inl e) =
        let w : get_or numbers place 0 - 1 < length marks = omega arith in
        let f : get_or (set marks (get_or numbers place 0 - 1) stamp) i 0 ≡ stamp = rw e (get_or-set_same marks (get_or numbers place 0 - 1) stamp 0 w) in
        let g : get_or numbers place 0 ≡ suc i = omega arith in
        (omega arith, eq-eqb _ _ f ∙ sym (has_push_same (take place numbers) (get_or numbers place 0) (suc i) g))
    taken_at i l (inr n) =
        let f : get_or (set marks (get_or numbers place 0 - 1) stamp) i 0 ≡ get_or marks i 0 = get_or-set_other marks (get_or numbers place 0 - 1) i stamp 0 n in
        let g : get_or numbers place 0 ≡ suc i → ⊥ = λ e. n (omega arith) in
        let low = marked.low i l in
        (omega arith, ap (λ m. m == stamp) f ∙ marked.taken i l ∙ sym (has_push_other (take place numbers) (get_or numbers place 0) (suc i) g))

    pub stamped : AreStamps stamp (take (place + 1) numbers) (set marks (get_or numbers place 0 - 1) stamp)
    stamped = rw (add-one place, take-suc numbers place 0 more) (record {
      low = λ i l. (taken_at i (simp length-set at l) (cases_eq i (get_or numbers place 0 - 1))).0;
      taken = λ i l. (taken_at i (simp length-set at l) (cases_eq i (get_or numbers place 0 - 1))).1;
    })

pub numbers_end : (n : ℕ) (numbers : List ℕ) (place : ℕ) (all : Result (List ℕ) Fault) → each (add_number n) (take place numbers) (drop place numbers) ≡ all → length numbers ≤ place → all ≡ Ok numbers
numbers_end n numbers place all h b = rw take_end at (each_ends (add_number n) (take place numbers) (drop place numbers) all h (drop_of_length-le numbers b))
  where
    take_end : take place numbers ≡ numbers
    take_end = take_all place numbers b

pub option_added : (n : ℕ) (options : List (List ℕ)) (numbers : List ℕ) → option_from n numbers ≡ Ok numbers → add_option n options numbers ≡ Ok (options ++ numbers ∷ [])
unfolding add_option
option_added n options numbers h = rw h refl

pub option_stops : (n : ℕ) (options : List (List ℕ)) (numbers : List ℕ) (f : Fault) → option_from n numbers ≡ Err f → add_option n options numbers ≡ Err f
unfolding add_option
option_stops n options numbers f h = rw h refl

-- a loop over the options that has passed some of them
module _ {X : Type 0} (items : X → List ℕ) (n : ℕ) (xs : List X) (i : ℕ) (all : Result (List (List ℕ)) Fault) (so_far : each (add_option n) (map items (take i xs)) (map items (drop i xs)) ≡ all) where
  module _ (x : X) (more : i < length xs) (at : x ≡ get_or xs i x) where
    pub options_go : option_from n (items x) ≡ Ok (items x) → each (add_option n) (map items (take (i + 1) xs)) (map items (drop (i + 1) xs)) ≡ all
    options_go h = rw (map_more items xs i x more at) (mapped_goes (add_option n) items xs i (map items (take i xs)) all so_far x more at (map items (take i xs) ++ items x ∷ []) (option_added n (map items (take i xs)) (items x) h))

    pub options_stop : (f : Fault) → option_from n (items x) ≡ Err f → all ≡ Err f
    options_stop f h = mapped_stops (add_option n) items xs i (map items (take i xs)) all so_far x more at f (option_stops n (map items (take i xs)) (items x) f h)

  pub options_end : length xs ≤ i → all ≡ Ok (map items xs)
  options_end h = subst (λ ys. all ≡ Ok (map items ys)) (take_all i xs h) (mapped_ends (add_option n) items xs i (map items (take i xs)) all so_far h)

number_is : (n : ℕ) (taken : List ℕ) (i : ℕ) (t : List ℕ) → add_number n taken i ≡ Ok t → (is_item n i ≡ true) × (has taken i ≡ false) × (t ≡ taken ++ i ∷ [])
number_is n taken i t h = by_item (chosen (is_item n i) (with_item taken i) (Err UnknownItem) (Ok t) h)
  where
    by_new : (is_item n i ≡ true) → ((has taken i ≡ true) × (◌≡◌ {A = Result (List ℕ) Fault} (Err ItemTwiceInOption) (Ok t))) ⊎ ((has taken i ≡ false) × (◌≡◌ {A = Result (List ℕ) Fault} (Ok (taken ++ i ∷ [])) (Ok t))) → (is_item n i ≡ true) × (has taken i ≡ false) × (t ≡ taken ++ i ∷ [])
    by_new m (inl p) = absurd (refused p.1)
      where
        refused : ◌≡◌ {A = Result (List ℕ) Fault} (Err ItemTwiceInOption) (Ok t) → ⊥
        refused e = cc
    by_new m (inr p) = (m, p.0, sym (ok_is _ _ p.1))

    by_item : ((is_item n i ≡ true) × (with_item taken i ≡ Ok t)) ⊎ ((is_item n i ≡ false) × (◌≡◌ {A = Result (List ℕ) Fault} (Err UnknownItem) (Ok t))) → (is_item n i ≡ true) × (has taken i ≡ false) × (t ≡ taken ++ i ∷ [])
    by_item (inl p) = by_new p.0 (chosen (has taken i) (Err ItemTwiceInOption) (Ok (taken ++ i ∷ [])) (Ok t) p.1)
    by_item (inr p) = absurd (refused p.1)
      where
        refused : ◌≡◌ {A = Result (List ℕ) Fault} (Err UnknownItem) (Ok t) → ⊥
        refused e = cc

-- each number is taken as it is, and they are items, each once
numbers_are : (n : ℕ) (acc numbers option : List ℕ) → each (add_number n) acc numbers ≡ Ok option → are_distinct acc ≡ true → list_all (is_item n) acc ≡ true → (option ≡ acc ++ numbers) × (are_distinct option ≡ true) × (list_all (is_item n) option ≡ true)
numbers_are n acc [] option h d a =
    let e = each_none (add_number n) acc option h in
    (sym e ∙ sym (append-nil acc), subst (λ xs. are_distinct xs ≡ true) e d, subst (λ xs. list_all (is_item n) xs ≡ true) e a)
numbers_are n acc (i ∷ numbers) option h d a = step (numbers_are n (acc ++ i ∷ []) numbers option) (each_parts (add_number n) acc i numbers option h)
  where
    step : (each (add_number n) (acc ++ i ∷ []) numbers ≡ Ok option → are_distinct (acc ++ i ∷ []) ≡ true → list_all (is_item n) (acc ++ i ∷ []) ≡ true → (option ≡ (acc ++ i ∷ []) ++ numbers) × (are_distinct option ≡ true) × (list_all (is_item n) option ≡ true)) →
        (t : List ℕ) × (add_number n acc i ≡ Ok t) × (each (add_number n) t numbers ≡ Ok option) → (option ≡ acc ++ i ∷ numbers) × (are_distinct option ≡ true) × (list_all (is_item n) option ≡ true)
    step ih (t, p, q) =
        let m = number_is n acc i t p in
        let r = ih (rw m.2 at q) (are_distinct_push acc i d m.1) (all_push (is_item n) acc i a m.0) in
        (r.0 ∙ append_assoc acc (i ∷ []) numbers, r.1, r.2)

option_is : (n : ℕ) (numbers option : List ℕ) → option_from n numbers ≡ Ok option → (option ≡ numbers) × (is_option n option ≡ true)
option_is n [] option h = absurd (refused h)
  where
    refused : ◌≡◌ {A = Result (List ℕ) Fault} (Err BadLine) (Ok option) → ⊥
    refused e = cc
option_is n (i ∷ is) option h =
    let r = numbers_are n [] (i ∷ is) option h refl refl in
    let some : nat_lt 0 (length option) ≡ true = lt-ltb 0 (length option) (let e = ap length r.0 in omega (arith, e)) in
    (r.0, and_from _ _ (and_from _ _ some r.1) r.2)

option_parts : (n : ℕ) (options : List (List ℕ)) (numbers : List ℕ) (t : List (List ℕ)) → add_option n options numbers ≡ Ok t → (option : List ℕ) × (option_from n numbers ≡ Ok option) × (◌≡◌ {A = Result (List (List ℕ)) Fault} (Ok (options ++ option ∷ [])) (Ok t))
unfolding add_option
option_parts n options numbers t h = bind_ok (option_from n numbers) (λ option. Ok (options ++ option ∷ [])) t h

-- each option is taken as it is, and is an option
pub options_are : (n : ℕ) (acc options those : List (List ℕ)) → each (add_option n) acc options ≡ Ok those → list_all (is_option n) acc ≡ true → (those ≡ acc ++ options) × (list_all (is_option n) those ≡ true)
options_are n acc [] those h a =
    let e = each_none (add_option n) acc those h in
    (sym e ∙ sym (append-nil acc), subst (λ xs. list_all (is_option n) xs ≡ true) e a)
options_are n acc (numbers ∷ options) those h a = step (λ t. options_are n t options those) (each_parts (add_option n) acc numbers options those h)
  where
    step : ((t : List (List ℕ)) → each (add_option n) t options ≡ Ok those → list_all (is_option n) t ≡ true → (those ≡ t ++ options) × (list_all (is_option n) those ≡ true)) →
        (t : List (List ℕ)) × (add_option n acc numbers ≡ Ok t) × (each (add_option n) t options ≡ Ok those) → (those ≡ acc ++ numbers ∷ options) × (list_all (is_option n) those ≡ true)
    step ih (t, p, q) =
        let u = option_parts n acc numbers t p in
        let o = option_is n numbers u.0 u.1 in
        let e = ok_is (acc ++ u.0 ∷ []) t u.2 in
        let r = ih (acc ++ u.0 ∷ []) (rw (sym e) at q) (all_push (is_option n) acc u.0 a o.1) in
        (r.0 ∙ append_assoc acc (u.0 ∷ []) options ∙ ap (λ x. acc ++ x ∷ options) o.0, r.1)

numbers_again : (n : ℕ) (acc numbers : List ℕ) → list_all (is_item n) numbers ≡ true → are_distinct (acc ++ numbers) ≡ true → each (add_number n) acc numbers ≡ Ok (acc ++ numbers)
numbers_again n acc [] a d = each_nothing (add_number n) acc ∙ ap (λ xs. done xs) (sym (append-nil acc))
  where
    done : List ℕ → Result (List ℕ) Fault
    done xs = Ok xs
numbers_again n acc (i ∷ is) a d =
    let p = and_parts (is_item n i) (list_all (is_item n) is) a in
    let e = append_assoc acc (i ∷ []) is in
    each_step (add_number n) acc (acc ++ i ∷ []) i is (taken_once n acc i p.0 (distinct_before acc is i d))
    ∙ rw e at (numbers_again n (acc ++ i ∷ []) is p.1 (rw e d))

option_again : (n : ℕ) (option : List ℕ) → is_option n option ≡ true → option_from n option ≡ Ok option
option_again n option h =
    let p = and_parts (nat_lt 0 (length option) && are_distinct option) (list_all (is_item n) option) h in
    let q = and_parts (nat_lt 0 (length option)) (are_distinct option) p.0 in
    some_option n option (ltb-true 0 (length option) q.0) ∙ numbers_again n [] option p.1 q.1

pub options_again : (n : ℕ) (acc options : List (List ℕ)) → list_all (is_option n) options ≡ true → each (add_option n) acc options ≡ Ok (acc ++ options)
options_again n acc [] a = each_nothing (add_option n) acc ∙ ap (λ xs. done xs) (sym (append-nil acc))
  where
    done : List (List ℕ) → Result (List (List ℕ)) Fault
    done xs = Ok xs
options_again n acc (option ∷ options) a =
    let p = and_parts (is_option n option) (list_all (is_option n) options) a in
    let e = append_assoc acc (option ∷ []) options in
    each_step (add_option n) acc (acc ++ option ∷ []) option options (option_added n acc option (option_again n option p.0))
    ∙ rw e at (options_again n (acc ++ option ∷ []) options p.1)
