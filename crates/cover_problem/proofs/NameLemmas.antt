-- Names: text, each new among those before it, and found again.
use Rattle.std.proofs.Common.{◌≡◌, refl, sym, ap, ◌∙◌, subst, ℕ, suc, zero, ◌+◌, ◌<◌, Bool, true, false, not, ◌&&◌, ◌||◌, cond, List, [], ◌∷◌, ◌++◌, map, length, None, Result, Ok, Err, position, nat_lt, nat_le, bytes_eq, arith, inl, inr, ◌⊎◌, IsUtf8, append_assoc, append-nil, le-ltb, leb-true, one-add, IsAscii, le_refl, lit<}
use Rattle.std.specs.List.{list_any, list_all, position_or_len}
use Rattle.std.specs.Cmp.Lexicographic.{bytes_decides, nat_list_eq_equiv}
use Rattle.std.proofs.lemmas.Bool.{and_parts, and_from, or_parts, or_from, not-true, not-false, not_from_false, false_from_ne_true, both_ways}
use Rattle.std.proofs.lemmas.List.Folds.{list_any-append}
use Rattle.std.proofs.lemmas.List.{length-map, map-append}
use Rattle.std.proofs.lemmas.Str.{IsUtf8-from_ascii}
use Rattle.cover_problem.specs.declared.fault.Fault.{Fault}
use Rattle.cover_problem.specs.declared.fault.Fault.TheVariants.{BadName, RepeatedItem}
use Rattle.cover_problem.specs.Problem.{is_name, is_name_byte, are_new}
use Rattle.text_lines.specs.Each.{each}
use Rattle.text_lines.proofs.EachLemmas.{each_parts, each_none, each_step, each_nothing}
use Rattle.text_lines.proofs.ResultLemmas.{ok_is, chosen}
use Rattle.cover_problem.specs.Validation.{add_name}
use Rattle.cover_problem.proofs.MemberLemmas.{all_push}

name_byte_is_ascii : (b : ℕ) → is_name_byte b ≡ true → b < 128
name_byte_is_ascii b h = grind arith

bytes_are_ascii : (word : List ℕ) → list_all is_name_byte word ≡ true → IsAscii word
bytes_are_ascii [] h i = lit< tt
bytes_are_ascii (b ∷ bs) h zero = name_byte_is_ascii b (and_parts _ _ h).0
bytes_are_ascii (b ∷ bs) h (suc i) = bytes_are_ascii bs (and_parts _ _ h).1 i

pub name_is_text : (word : List ℕ) → is_name word ≡ true → IsUtf8 word
name_is_text word h = IsUtf8-from_ascii word (bytes_are_ascii word (and_parts (nat_lt 0 (length word) && nat_le (length word) 8) (list_all is_name_byte word) h).1)

module _ {X : Type 0} (text : X → List ℕ) where
  any_text : (t : List ℕ → Bool) (keys : List X) → list_any t (map text keys) ≡ list_any (λ k. t (text k)) keys
  any_text t [] = refl
  any_text t (k ∷ keys) = ap (λ b. t (text k) || b) (any_text t keys)

  pub text_place : (t : List ℕ → Bool) (keys : List X) → position_or_len t (map text keys) ≡ position_or_len (λ k. t (text k)) keys
  text_place t [] = refl
  text_place t (k ∷ keys) = ap (λ n. cond (not (t (text k))) (1 + n) 0) (text_place t keys)

  pub name_repeated : (keys : List X) (key : X) (word : List ℕ) → is_name word ≡ true → text key ≡ word → list_any (λ k. bytes_eq (text key) (text k)) keys ≡ true → add_name (map text keys) word ≡ Err RepeatedItem
  unfolding add_name
  name_repeated keys key word n e h = rw (n, any_text (bytes_eq word) keys, ← e, h) refl

  pub name_added : (keys : List X) (key : X) (word : List ℕ) → is_name word ≡ true → text key ≡ word → list_any (λ k. bytes_eq (text key) (text k)) keys ≡ false → add_name (map text keys) word ≡ Ok (map text (keys ++ key ∷ []))
  unfolding add_name
  name_added keys key word n e h = rw (n, any_text (bytes_eq word) keys, ← e, h, map-append text keys (key ∷ [])) refl

pub not_a_name : (names : List (List ℕ)) (word : List ℕ) → is_name word ≡ false → add_name names word ≡ Err BadName
unfolding add_name
not_a_name names word n = rw n refl

pub bytes_eq_sym : (a b : List ℕ) → bytes_eq a b ≡ bytes_eq b a
bytes_eq_sym a b = nat_list_eq_equiv.symm a b

pub are_new_push : (names : List (List ℕ)) (name : List ℕ) → are_new names ≡ true → list_any (bytes_eq name) names ≡ false → are_new (names ++ name ∷ []) ≡ true
are_new_push [] name n h = refl
are_new_push (x ∷ xs) name n h =
    let p = and_parts (not (list_any (bytes_eq x) xs)) (are_new xs) n in
    let q = or_parts (bytes_eq name x) (list_any (bytes_eq name) xs) h in
    let r : list_any (bytes_eq x) (xs ++ name ∷ []) ≡ false =
    list_any-append (bytes_eq x) xs (name ∷ []) ∙ or_from _ _ (not-true _ p.0) (or_from _ _ (bytes_eq_sym x name ∙ q.0) refl) in
    and_from _ _ (not_from_false _ r) (are_new_push xs name p.1 q.1)

pub added_is : (names : List (List ℕ)) (name : List ℕ) (t : List (List ℕ)) → add_name names name ≡ Ok t → (is_name name ≡ true) × (list_any (bytes_eq name) names ≡ false) × (t ≡ names ++ name ∷ [])
unfolding add_name
added_is names name t h = by_name (chosen (not (is_name name)) (Err BadName) (if_new names name) (Ok t) h)
  where
    if_new : List (List ℕ) → List ℕ → Result (List (List ℕ)) Fault
    if_new names name = cond (list_any (bytes_eq name) names) (Err RepeatedItem) (Ok (names ++ name ∷ []))

    by_new : (is_name name ≡ true) → ((list_any (bytes_eq name) names ≡ true) × (◌≡◌ {A = Result (List (List ℕ)) Fault} (Err RepeatedItem) (Ok t))) ⊎ ((list_any (bytes_eq name) names ≡ false) × (◌≡◌ {A = Result (List (List ℕ)) Fault} (Ok (names ++ name ∷ [])) (Ok t))) → (is_name name ≡ true) × (list_any (bytes_eq name) names ≡ false) × (t ≡ names ++ name ∷ [])
    by_new n (inl p) = absurd (refused p.1)
      where
        refused : ◌≡◌ {A = Result (List (List ℕ)) Fault} (Err RepeatedItem) (Ok t) → ⊥
        refused e = cc
    by_new n (inr p) = (n, p.0, sym (ok_is _ _ p.1))

    by_name : ((not (is_name name) ≡ true) × (◌≡◌ {A = Result (List (List ℕ)) Fault} (Err BadName) (Ok t))) ⊎ ((not (is_name name) ≡ false) × (if_new names name ≡ Ok t)) → (is_name name ≡ true) × (list_any (bytes_eq name) names ≡ false) × (t ≡ names ++ name ∷ [])
    by_name (inl p) = absurd (refused p.1)
      where
        refused : ◌≡◌ {A = Result (List (List ℕ)) Fault} (Err BadName) (Ok t) → ⊥
        refused e = cc
    by_name (inr p) = by_new (not-false _ p.0) (chosen (list_any (bytes_eq name) names) (Err RepeatedItem) (Ok (names ++ name ∷ [])) (Ok t) p.1)

-- each name is taken as it is, and they are names, each new
pub names_are : (acc names these : List (List ℕ)) → each add_name acc names ≡ Ok these → are_new acc ≡ true → list_all is_name acc ≡ true → (these ≡ acc ++ names) × (are_new these ≡ true) × (list_all is_name these ≡ true)
names_are acc [] these h n a =
    let e = each_none add_name acc these h in
    (sym e ∙ sym (append-nil acc), subst (λ xs. are_new xs ≡ true) e n, subst (λ xs. list_all is_name xs ≡ true) e a)
names_are acc (name ∷ names) these h n a = step (names_are (acc ++ name ∷ []) names these) (each_parts add_name acc name names these h)
  where
    step : (each add_name (acc ++ name ∷ []) names ≡ Ok these → are_new (acc ++ name ∷ []) ≡ true → list_all is_name (acc ++ name ∷ []) ≡ true → (these ≡ (acc ++ name ∷ []) ++ names) × (are_new these ≡ true) × (list_all is_name these ≡ true)) →
        (t : List (List ℕ)) × (add_name acc name ≡ Ok t) × (each add_name t names ≡ Ok these) → (these ≡ acc ++ name ∷ names) × (are_new these ≡ true) × (list_all is_name these ≡ true)
    step ih (t, p, q) =
        let m = added_is acc name t p in
        let r = ih (rw m.2 at q) (are_new_push acc name n m.1) (all_push is_name acc name a m.0) in
        (r.0 ∙ append_assoc acc (name ∷ []) names, r.1, r.2)

-- names that are added are names
pub names_named : (acc words these : List (List ℕ)) → each add_name acc words ≡ Ok these → list_all is_name acc ≡ true → list_all is_name these ≡ true
names_named acc [] these h n = subst (λ xs. list_all is_name xs ≡ true) (each_none add_name acc these h) n
names_named acc (w ∷ words) these h n = step (names_named (acc ++ w ∷ []) words these) (each_parts add_name acc w words these h)
  where
    step : (each add_name (acc ++ w ∷ []) words ≡ Ok these → list_all is_name (acc ++ w ∷ []) ≡ true → list_all is_name these ≡ true) → (t : List (List ℕ)) × (add_name acc w ≡ Ok t) × (each add_name t words ≡ Ok these) → list_all is_name these ≡ true
    step later (t, a, b) =
        let m = added_is acc w t a in
        later (rw m.2 at b) (all_push is_name acc w n m.0)

-- a text's place among keys
pub place_is : {X : Type 0} (text : X → List ℕ) (keys : List X) (word : List ℕ) (key : X) → text key ≡ word → position (λ k. bytes_eq (text key) (text k)) keys ≡ position (bytes_eq word) (map text keys)
place_is text keys word key e = rw (e, text_place text (bytes_eq word) keys, length-map) refl

pub word_place : {X : Type 0} (text : X → List ℕ) (keys : List X) (word : List ℕ) → position (λ k. bytes_eq word (text k)) keys ≡ position (bytes_eq word) (map text keys)
word_place text keys word = rw (text_place text (bytes_eq word) keys, length-map) refl

passes_nowhere : {X : Type 0} (test : X → Bool) (xs : List X) → list_all (λ x. not (test x)) xs ≡ true → position_or_len test xs ≡ length xs
passes_nowhere test [] h = refl
passes_nowhere test (x ∷ xs) h =
    let p = and_parts (not (test x)) (list_all (λ x. not (test x)) xs) h in
    let e = passes_nowhere test xs p.1 in
    rw (p.0, e) (one-add (length xs))

other_length : (a b : List ℕ) → (length a ≡ length b → ⊥) → bytes_eq a b ≡ false
other_length a b n = false_from_ne_true (bytes_eq a b) (λ e. n (ap length ((bytes_decides a b).0 e)))

none_so_long : (text : List ℕ) (names : List (List ℕ)) → 8 < length text → list_all is_name names ≡ true → list_all (λ name. not (bytes_eq text name)) names ≡ true
none_so_long text [] l h = refl
none_so_long text (name ∷ names) l h =
    let p = and_parts (is_name name) (list_all is_name names) h in
    let q = and_parts (nat_lt 0 (length name) && nat_le (length name) 8) (list_all is_name_byte name) p.0 in
    let short = leb-true (length name) 8 (and_parts (nat_lt 0 (length name)) (nat_le (length name) 8) q.0).1 in
    and_from _ _ (not_from_false _ (other_length text name (λ e. omega arith))) (none_so_long text names l p.1)

no_name_among : (word : List ℕ) (names : List (List ℕ)) → is_name word ≡ false → list_all is_name names ≡ true → list_all (λ name. not (bytes_eq word name)) names ≡ true
no_name_among word [] n h = refl
no_name_among word (name ∷ names) n h =
    let p = and_parts (is_name name) (list_all is_name names) h in
    let other : bytes_eq word name ≡ false = false_from_ne_true (bytes_eq word name) (λ e. both_ways (is_name word) n (ap is_name ((bytes_decides word name).0 e) ∙ p.0)) in
    and_from _ _ (not_from_false _ other) (no_name_among word names n p.1)

-- what is no name stands nowhere among names
pub no_name : (word : List ℕ) (names : List (List ℕ)) → is_name word ≡ false → list_all is_name names ≡ true → position (bytes_eq word) names ≡ None
no_name word names n h = rw (passes_nowhere (bytes_eq word) names (no_name_among word names n h), le-ltb (length names) (length names) (le_refl (length names))) refl

-- a name that is too long stands nowhere
pub too_long : (text : List ℕ) (names : List (List ℕ)) → 8 < length text → list_all is_name names ≡ true → position (bytes_eq text) names ≡ None
too_long text names l h = rw (passes_nowhere (bytes_eq text) names (none_so_long text names l h), le-ltb (length names) (length names) (le_refl (length names))) refl

new_before : (acc names : List (List ℕ)) (name : List ℕ) → are_new (acc ++ name ∷ names) ≡ true → list_any (bytes_eq name) acc ≡ false
new_before [] names name h = refl
new_before (x ∷ xs) names name h =
    let p = and_parts (not (list_any (bytes_eq x) (xs ++ name ∷ names))) (are_new (xs ++ name ∷ names)) h in
    let a : (list_any (bytes_eq x) xs || list_any (bytes_eq x) (name ∷ names)) ≡ false = sym (list_any-append (bytes_eq x) xs (name ∷ names)) ∙ not-true _ p.0 in
    let b = or_parts (list_any (bytes_eq x) xs) (list_any (bytes_eq x) (name ∷ names)) a in
    let e = or_parts (bytes_eq x name) (list_any (bytes_eq x) names) b.1 in
    or_from (bytes_eq name x) (list_any (bytes_eq name) xs) (bytes_eq_sym name x ∙ e.0) (new_before xs names name p.1)

name_taken : (names : List (List ℕ)) (name : List ℕ) → is_name name ≡ true → list_any (bytes_eq name) names ≡ false → add_name names name ≡ Ok (names ++ name ∷ [])
unfolding add_name
name_taken names name n h = rw (n, h) refl

pub names_again : (acc names : List (List ℕ)) → list_all is_name names ≡ true → are_new (acc ++ names) ≡ true → each add_name acc names ≡ Ok (acc ++ names)
names_again acc [] a n = each_nothing add_name acc ∙ ap (λ xs. done xs) (sym (append-nil acc))
  where
    done : List (List ℕ) → Result (List (List ℕ)) Fault
    done xs = Ok xs
names_again acc (name ∷ names) a n =
    let p = and_parts (is_name name) (list_all is_name names) a in
    let e = append_assoc acc (name ∷ []) names in
    each_step add_name acc (acc ++ name ∷ []) name names (name_taken acc name p.0 (new_before acc names name n))
    ∙ rw e at (names_again (acc ++ name ∷ []) names p.1 (rw e n))
