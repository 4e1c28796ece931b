-- What a search is at, in words: cuts, states, breakpoints, visits and the counts of levels.
--
-- Example: the state X5 at option 2 after the choices 4 and 5 is `X5 2 4 5`, and the visit of 4, 5 and 1 is `visit 4 5 1`.
-- proofs/WordExamples.antt computes them.
use Rattle.std.specs.Prelude.{ℕ, List, [], ◌∷◌, map, decimal, codes, Option, Some}
use Rattle.std.specs.Prelude as prelude
use Rattle.cover_problem.specs.Problem.{ProblemValue, name_at}
use Rattle.x_steps.specs.declared.state.Label.{Label}
use Rattle.x_steps.specs.declared.state.Label.TheVariants.{X1, X2, X3, X4, X5, X6, X7, X8, Done}
use Rattle.x_steps.specs.declared.state.Cursor.{Cursor}
use Rattle.x_steps.specs.declared.state.Cursor.TheVariants as cursor
use Rattle.x_steps.specs.StateValue.{StateValue}
use Rattle.x_texts.specs.declared.breakpoint.Break.{Break}
use Rattle.x_texts.specs.declared.breakpoint.Break.TheVariants as at
use Rattle.std.specs.Prelude.{option_copied}
use Rattle.std.specs.Borrow.{Bor}

-- the choices of a cut, or the word for none
abbrev pub cut_words : List ℕ → Option (List ℕ) → List (List ℕ)
cut_words none prelude.None = none ∷ []
cut_words none (Some path) = map decimal path

-- the same of a path that is borrowed
abbrev pub lent_cut_words : List ℕ → Option (Bor (List ℕ)) → List (List ℕ)
lent_cut_words none path = cut_words none (option_copied path)

-- the step about to be done
abbrev pub label_word : Label → List ℕ
label_word X1 = codes "X1"
label_word X2 = codes "X2"
label_word X3 = codes "X3"
label_word X4 = codes "X4"
label_word X5 = codes "X5"
label_word X6 = codes "X6"
label_word X7 = codes "X7"
label_word X8 = codes "X8"
label_word Done = codes "Done"

-- the option that a step is at
abbrev pub cursor_word : Cursor → List ℕ
cursor_word cursor.None = codes "-"
cursor_word (cursor.At o) = decimal o
cursor_word cursor.Past = codes "past"

-- label, cursor and choices
abbrev pub state_words : StateValue → List (List ℕ)
state_words s = label_word s.label ∷ cursor_word s.cursor ∷ map decimal s.path

-- what a breakpoint is at, over items with these names
abbrev pub point_words : List (List ℕ) → Break → List (List ℕ)
point_words names (at.Level n) = codes "level" ∷ decimal n ∷ []
point_words names (at.Option k) = codes "option" ∷ decimal k ∷ []
point_words names (at.Item i) = codes "item" ∷ name_at names i ∷ []
point_words names at.Visit = codes "visit" ∷ []

-- a word and what a breakpoint is at, over a problem's items
abbrev pub keyed_point : List ℕ → ProblemValue → Break → List (List ℕ)
keyed_point key p b = key ∷ point_words p.names b

-- a breakpoint's line
abbrev pub break_words : List (List ℕ) → Break → List (List ℕ)
break_words names b = codes "break" ∷ point_words names b

-- a visit: its choices
abbrev pub visit_words : List ℕ → List (List ℕ)
visit_words path = codes "visit" ∷ map decimal path

-- the counts of levels, level 0 at least
abbrev pub levels_words : List ℕ → List (List ℕ)
levels_words [] = codes "levels" ∷ codes "0" ∷ []
levels_words (count ∷ counts) = codes "levels" ∷ map decimal (count ∷ counts)
