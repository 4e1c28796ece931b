-- What a step did that gave something: which items an option has.
use Rattle.std.proofs.Common.{◌≡◌, ◌<◌, ◌≤◌, ℕ, ◌+◌, ◌-◌, List, [], ◌∷◌, ◌++◌, map, length, get_or, true, false, Option, Some, None, option_map, Ok, position, refl, sym, ap, ◌∙◌, subst, bytes_eq, arith, append_assoc, append-nil}
use Rattle.std.specs.List.{list_all}
use Rattle.std.specs.Cmp.Lexicographic.{bytes_decides}
use Rattle.std.proofs.lemmas.Option.{none-some}
use Rattle.std.proofs.lemmas.List.Quantifiers.{position-Some}
use Rattle.std.proofs.lemmas.List.{map-append}
use Rattle.text_lines.specs.Each.{each}
use Rattle.cover_problem.specs.declared.fault.Fault.TheVariants.{BadName, UnknownItem, ItemTwiceInOption}
use Rattle.shared_words.specs.Lists.{has, are_distinct}
use Rattle.cover_problem.specs.Problem.{is_name, is_item, name_at, item_named}
use Rattle.cover_problem.specs.Validation.{with_item}
use Rattle.cover_problem.specs.Reading.{item_of, add_item, found_or}
use Rattle.text_lines.proofs.EachLemmas.{each_none, each_parts}
use Rattle.text_lines.proofs.ResultLemmas.{ok_is, no_fault, bind_ok, unrefused, granted}
use Rattle.cover_problem.proofs.BoundLemmas.{item_numbered}
use Rattle.cover_problem.proofs.PartLemmas.{are_distinct_push}
use Rattle.cover_problem.proofs.MemberLemmas.{all_push}

-- *what a step that gave something did*

found_or_is : (o : Option ℕ) (i : ℕ) → found_or o ≡ Ok i → o ≡ Some i
found_or_is None i h = absurd (no_fault UnknownItem i h)
found_or_is (Some j) i h = ap (λ k. Some k) (ok_is j i h)

one_more : (o : Option ℕ) (i : ℕ) → option_map (λ k. k + 1) o ≡ Some i → (j : ℕ) × (o ≡ Some j) × (i ≡ j + 1)
one_more None i h = absurd (none-some i h)
one_more (Some j) i h = let e : j + 1 ≡ i = cc in (j, refl, sym e)

-- *the items of an option*

-- what is found by a word is an item with that name
pub named_is : (names : List (List ℕ)) (word : List ℕ) (i : ℕ) → item_named names word ≡ Some i → (is_item (length names) i ≡ true) × (name_at names i ≡ word)
named_is names word i h = step (one_more (position (bytes_eq word) names) i h)
  where
    step : (j : ℕ) × (position (bytes_eq word) names ≡ Some j) × (i ≡ j + 1) → (is_item (length names) i ≡ true) × (name_at names i ≡ word)
    step (j, e, more) =
        let p : (j < length names) × (bytes_eq word (get_or names j []) ≡ true) × ((k : ℕ) → k < j → bytes_eq word (get_or names k []) ≡ false) = position-Some (bytes_eq word) names j [] e in
        let a : i - 1 ≡ j = omega arith in
        let some : 0 < i = omega arith in
        let l : i ≤ length names = omega (arith, p.0) in
        (item_numbered (length names) i some l, rw a (sym ((bytes_decides word (get_or names j [])).0 p.1)))

item_is : (names : List (List ℕ)) (word : List ℕ) (i : ℕ) → item_of names word ≡ Ok i → (is_item (length names) i ≡ true) × (name_at names i ≡ word)
unfolding item_of
item_is names word i h = named_is names word i (found_or_is (item_named names word) i (granted (is_name word) BadName (found_or (item_named names word)) i h).1)

item_taken : (names : List (List ℕ)) (taken : List ℕ) (word : List ℕ) (t : List ℕ) → add_item names taken word ≡ Ok t → (i : ℕ) × (is_item (length names) i ≡ true) × (name_at names i ≡ word) × (has taken i ≡ false) × (t ≡ taken ++ i ∷ [])
unfolding add_item
item_taken names taken word t h = step (bind_ok (item_of names word) (with_item taken) t h)
  where
    step : (i : ℕ) × (item_of names word ≡ Ok i) × (with_item taken i ≡ Ok t) → (i : ℕ) × (is_item (length names) i ≡ true) × (name_at names i ≡ word) × (has taken i ≡ false) × (t ≡ taken ++ i ∷ [])
    step (i, a, b) =
        let m = item_is names word i a in
        let u = unrefused (has taken i) ItemTwiceInOption (Ok (taken ++ i ∷ [])) t b in
        (i, m.0, m.1, u.0, sym (ok_is _ _ u.1))

-- the items of words have these words as names, and are items, each once
pub items_are : (names : List (List ℕ)) (acc : List ℕ) (words : List (List ℕ)) (option : List ℕ) → each (add_item names) acc words ≡ Ok option → are_distinct acc ≡ true → list_all (is_item (length names)) acc ≡ true →
    (are_distinct option ≡ true) × (list_all (is_item (length names)) option ≡ true) × (map (name_at names) option ≡ map (name_at names) acc ++ words)
items_are names acc [] option h d a =
    let e = each_none (add_item names) acc option h in
    (subst (λ xs. are_distinct xs ≡ true) e d, subst (λ xs. list_all (is_item (length names)) xs ≡ true) e a, ap (map (name_at names)) (sym e) ∙ sym (append-nil (map (name_at names) acc)))
items_are names acc (w ∷ words) option h d a = step (λ t. items_are names t words option) (each_parts (add_item names) acc w words option h)
  where
    step : ((t : List ℕ) → each (add_item names) t words ≡ Ok option → are_distinct t ≡ true → list_all (is_item (length names)) t ≡ true → (are_distinct option ≡ true) × (list_all (is_item (length names)) option ≡ true) × (map (name_at names) option ≡ map (name_at names) t ++ words)) →
        (t : List ℕ) × (add_item names acc w ≡ Ok t) × (each (add_item names) t words ≡ Ok option) →
        (are_distinct option ≡ true) × (list_all (is_item (length names)) option ≡ true) × (map (name_at names) option ≡ map (name_at names) acc ++ w ∷ words)
    step later (t, p, q) =
        let m = item_taken names acc w t p in
        let r = later (acc ++ m.0 ∷ []) (rw m.4 at q) (are_distinct_push acc m.0 d m.3) (all_push (is_item (length names)) acc m.0 a m.1) in
        (r.0, r.1, r.2 ∙ ap (λ xs. xs ++ words) (map-append (name_at names) acc (m.0 ∷ [])) ∙ append_assoc (map (name_at names) acc) (name_at names m.0 ∷ []) words ∙ ap (λ x. map (name_at names) acc ++ x ∷ words) m.2)
