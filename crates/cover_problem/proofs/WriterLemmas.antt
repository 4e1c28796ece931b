-- How the writer's steps make the text of a problem.
use Rattle.std.proofs.Common.{◌≡◌, ◌<◌, ℕ, List, [], ◌∷◌, ◌++◌, map, length, take, drop, get_or, true, ◌&&◌, nat_lt, sym, codes}
use Rattle.std.specs.List.{list_all}
use Rattle.std.proofs.lemmas.Bool.{and_parts}
use Rattle.std.proofs.lemmas.Grind.{flat_map-append}
use Rattle.text_lines.specs.Writing.{line_text, text_of}
use Rattle.std.proofs.lemmas.List.Sums.{AllPass-from_list_all}
use Rattle.shared_words.specs.Lists.{are_distinct}
use Rattle.cover_problem.specs.Problem.{ProblemValue, is_item, is_option}
use Rattle.cover_problem.specs.Grammar.{maybe_words, option_words, written}

-- the items of an option among options
pub option_items : (n : ℕ) (options : List (List ℕ)) (i : ℕ) → list_all (is_option n) options ≡ true → i < length options → list_all (is_item n) (get_or options i []) ≡ true
option_items n options i h l =
    let option = get_or options i [] in
    (and_parts (nat_lt 0 (length option) && are_distinct option) (list_all (is_item n) option) (AllPass-from_list_all (is_option n) options h i [] l)).1

-- the lines of a problem, one after the other
module _ (p : ProblemValue) (front back names options : List (List ℕ)) (at_front : front ≡ take p.primary p.names) (at_back : back ≡ drop p.primary p.names) (same_names : names ≡ p.names) (same_options : options ≡ p.options) where
  pub all_written : (first second text : List ℕ) → first ≡ [] ++ line_text (codes "items" ∷ front) → second ≡ first ++ text_of (maybe_words back) → text ≡ second ++ text_of (map (option_words names) options) → text ≡ written p
  unfolding written
  all_written first second text e f g =
      let start : List (List (List ℕ)) = (codes "items" ∷ take p.primary p.names) ∷ maybe_words (drop p.primary p.names) in
      rw (g, f, e, at_front, at_back, same_names, same_options) (sym (flat_map-append line_text start (map (option_words p.names) p.options)))
