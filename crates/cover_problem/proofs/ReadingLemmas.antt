-- How the reader's steps give what a text says.
use Rattle.std.proofs.Common.{◌≡◌, ◌∙◌, ◌≤◌, ◌==◌, nat_lt, not, ℕ, ◌+◌, Bool, List, [], ◌∷◌, ◌++◌, map, length, true, false, Some, None, Ok, Err, position, refl, ap, bytes_eq, arith, length-append}
use Rattle.std.specs.List.{list_all}
use Rattle.text_lines.specs.Lines.{is_empty}
use Rattle.text_lines.specs.Each.{each}
use Rattle.text_lines.proofs.EachLemmas.{each_none, each_parts}
use Rattle.cover_problem.specs.declared.fault.Fault.TheVariants.{UnknownItem, TooLarge}
use Rattle.cover_problem.specs.Problem.{ProblemValue, problem_with, is_name, is_small}
use Rattle.cover_problem.specs.Validation.{add_name, within}
use Rattle.cover_problem.specs.Reading.{item_of, add_item, items_line, maybe_line, option_line}
use Rattle.cover_problem.proofs.NameLemmas.{word_place, no_name, added_is}

-- *the items of an option*

module _ {X : Type 0} (text : X → List ℕ) (keys : List X) (word : List ℕ) where
  found_by : (v : Bool) → is_name word ≡ v → list_all is_name (map text keys) ≡ true → (i : ℕ) → Some i ≡ position (bytes_eq word) (map text keys) → item_of (map text keys) word ≡ Ok (i + 1)
  unfolding item_of
  found_by true n named i e = rw (n, ← e) refl
  found_by false n named i e = let none = no_name word (map text keys) n named in cc

  pub item_found : list_all is_name (map text keys) ≡ true → (i : ℕ) → Some i ≡ position (λ k. bytes_eq word (text k)) keys → item_of (map text keys) word ≡ Ok (i + 1)
  item_found named i e = found_by (is_name word) refl named i (e ∙ word_place text keys word)

  pub item_not_found : is_name word ≡ true → None ≡ position (λ k. bytes_eq word (text k)) keys → item_of (map text keys) word ≡ Err UnknownItem
  unfolding item_of
  item_not_found named e = rw (named, ← word_place text keys word, ← e) refl

-- *the limits*

pub within_limits : (p : ProblemValue) → is_small p ≡ true → within p ≡ Ok p
within_limits p h = rw h refl

pub over_limits : (p : ProblemValue) → is_small p ≡ false → within p ≡ Err TooLarge
over_limits p h = rw h refl

-- *an `items` line in its place*

pub items_taken : (p : ProblemValue) (words names : List (List ℕ)) (n : ℕ) → is_empty words ≡ false → nat_lt 0 p.primary ≡ false → each add_name [] words ≡ Ok names → length names ≡ n → items_line p words ≡ within (problem_with names n [])
unfolding items_line
items_taken p words names n some first e all = rw (some, first, e, ← all) refl

-- *a `maybe` line in its place*

pub some_words : (words : List (List ℕ)) (b : Bool) → b ≡ not (is_empty words) → b ≡ true → is_empty words ≡ false
some_words [] b e h = cc
some_words (w ∷ words) b e h = refl

pub maybe_taken : (p : ProblemValue) (words names : List (List ℕ)) → is_empty words ≡ false → nat_lt p.primary (length p.names) ≡ false → nat_lt 0 (length p.options) ≡ false → (p.primary == 0) ≡ false → each add_name p.names words ≡ Ok names → maybe_line p words ≡ within (problem_with names p.primary [])
unfolding maybe_line
maybe_taken p words names some late options begun e = rw (some, late, options, begun, e) refl

-- *an `option` line in its place*

pub option_taken : (p : ProblemValue) (words : List (List ℕ)) (option : List ℕ) → is_empty words ≡ false → (p.primary == 0) ≡ false → each (add_item p.names) [] words ≡ Ok option → option_line p words ≡ within (problem_with p.names p.primary (p.options ++ option ∷ []))
unfolding option_line
option_taken p words option some begun e = rw (some, begun, e) refl

-- *names*

-- no name is lost
pub names_grow : (acc words these : List (List ℕ)) → each add_name acc words ≡ Ok these → length acc ≤ length these
names_grow acc [] these h = let e = ap length (each_none add_name acc these h) in omega arith
names_grow acc (w ∷ words) these h = step (names_grow (acc ++ w ∷ []) words these) (each_parts add_name acc w words these h)
  where
    step : (each add_name (acc ++ w ∷ []) words ≡ Ok these → length (acc ++ w ∷ []) ≤ length these) → (t : List (List ℕ)) × (add_name acc w ≡ Ok t) × (each add_name t words ≡ Ok these) → length acc ≤ length these
    step later (t, a, b) =
        let m = added_is acc w t a in
        let l = later (rw m.2 at b) in
        let e = length-append acc (w ∷ []) in
        omega arith
