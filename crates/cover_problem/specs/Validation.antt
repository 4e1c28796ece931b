-- Which names and options make a problem, and which fault is the first where they don't.
--
-- Example: the names a and b with the options 1 2 and 2 2 have the fault ItemTwiceInOption; with the options 1 2 and 3 2,
-- UnknownItem; with a and a b as names, BadName, whatever the options. proofs/ValidationExamples.antt computes them.
use Rattle.std.specs.Prelude.{ℕ, ◌≡◌, false, not, List, [], ◌∷◌, ◌++◌, length, Result, Ok, Err, if◌then◌else◌}
use Rattle.std.specs.List.{list_any}
use Rattle.std.specs.Str.{bytes_eq}
use Rattle.cover_problem.specs.declared.fault.Fault.{Fault}
use Rattle.cover_problem.specs.declared.fault.Fault.TheVariants.{BadName, RepeatedItem, UnknownItem, ItemTwiceInOption, TooLarge}
use Rattle.cover_problem.specs.declared.fault.Fault.TheVariants.{NoItemLine, BadLine}
use Rattle.shared_words.specs.Lists.{has}
use Rattle.cover_problem.specs.Problem.{ProblemValue, is_name, is_item, is_small}
use Rattle.text_lines.specs.Each.{each, ◌>>=◌}

-- the first `primary` of these can't be the items that have to be covered: there are none, or there are fewer
abbrev pub LacksPrimary : {A : Type 0} → List A → ℕ → Type 0
LacksPrimary names primary = is_item (length names) primary ≡ false

-- the names with one more, which is a name and new
unfoldable pub add_name : List (List ℕ) → List ℕ → Result (List (List ℕ)) Fault
add_name names name =
    if not (is_name name) then Err BadName
    else (if list_any (bytes_eq name) names then Err RepeatedItem else Ok (names ++ name ∷ []))

-- the items of an option with one more, which is new there
abbrev pub with_item : List ℕ → ℕ → Result (List ℕ) Fault
with_item taken i = if has taken i then Err ItemTwiceInOption else Ok (taken ++ i ∷ [])

-- the same, where the item is one of n
abbrev pub add_number : ℕ → List ℕ → ℕ → Result (List ℕ) Fault
add_number n taken i = if is_item n i then with_item taken i else Err UnknownItem

-- an option over n items: not empty, and each number in turn an item that is new there
abbrev pub option_from : ℕ → List ℕ → Result (List ℕ) Fault
option_from n [] = Err BadLine
option_from n (i ∷ is) = each (add_number n) [] (i ∷ is)

-- the options with one more
unfoldable pub add_option : ℕ → List (List ℕ) → List ℕ → Result (List (List ℕ)) Fault
add_option n options numbers = option_from n numbers >>= λ option. Ok (options ++ option ∷ [])

-- these options over n items, or the first fault among them
abbrev pub options_from : ℕ → List (List ℕ) → Result (List (List ℕ)) Fault
options_from n options = each (add_option n) [] options

-- the problem, where it is within the limits
abbrev pub within : ProblemValue → Result ProblemValue Fault
within p = if is_small p then Ok p else Err TooLarge

-- the problem of these names, of which the first `primary` have to be covered, and options; or the first fault
unfoldable pub problem_from : List (List ℕ) → ℕ → List (List ℕ) → Result ProblemValue Fault
problem_from names primary options =
    if not (is_item (length names) primary) then Err NoItemLine else
    (each add_name [] names >>= λ these. options_from (length names) options >>= λ those.
    within (record { names = these; primary = primary; options = those }))
