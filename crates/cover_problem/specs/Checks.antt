-- What the reader's and the checker's calls make of the code's names, words and options.
use Rattle.std.specs.Prelude.{ℕ, Bool, List, Vec, String, length, sum_by, Result}
use Rattle.std.specs.declared.alloc.Global.{Global}
use Rattle.arrayvec.specs.declared.array_string.ArrayString.{ArrayString}
use Rattle.indexmap.specs.IndexSet.{IndexSet}
use Rattle.text_lines.specs.declared.refusal.Refusal.{Refusal}
use Rattle.text_lines.specs.Answers.{Gives}
use Rattle.text_lines.specs.Each.{each}
use Rattle.text_lines.specs.Lines.{words_of}
use Rattle.cover_problem.specs.declared.fault.Fault.{Fault}
use Rattle.cover_problem.specs.Limits.{most_name_bytes}
use Rattle.cover_problem.specs.Problem.{ProblemValue, are_within}
use Rattle.cover_problem.specs.Validation.{problem_from}
use Rattle.cover_problem.specs.Reading.{add_item}
use Rattle.cover_problem.specs.Views.{items_of, texts_of, kept_names, problem_of_parts}

-- the call takes the item that a word names into an option, or tells the fault
abbrev pub TakesItem : {X S : Type 0} → Result X (Refusal Fault) → IndexSet (ArrayString most_name_bytes) S → List ℕ → List ℕ → List ℕ → Type 0
TakesItem result names old new word = Gives (λ _. new) result (add_item (kept_names names) old word)

-- the call takes the items that the words of these bytes name into an option, or tells the first fault
abbrev pub TakesItems : {X S : Type 0} → Result X (Refusal Fault) → IndexSet (ArrayString most_name_bytes) S → List ℕ → List ℕ → List ℕ → Type 0
TakesItems result names old new words = Gives (λ _. new) result (each (add_item (kept_names names)) old (words_of words))

-- whether so many items and these options are within the limits
abbrev pub fit_limits : ℕ → List (Vec ℕ Global) → Bool
fit_limits count options = are_within count (length options) (sum_by length (items_of options))

-- the problem of the code's strings and lists, or its first fault
abbrev pub checked_problem : List (String Global) → ℕ → List (Vec ℕ Global) → Result ProblemValue Fault
checked_problem names primary options = problem_from (texts_of names) primary (items_of options)

-- the call gives the names of that problem, or tells its first fault
abbrev pub ChecksNames : {S : Type 0} → Result (IndexSet (ArrayString most_name_bytes) S) (Refusal Fault) → List (String Global) → ℕ
    → List (Vec ℕ Global) → Type 0
ChecksNames result names primary options =
    Gives (λ these. problem_of_parts these.keys primary (items_of options)) result (checked_problem names primary options)
