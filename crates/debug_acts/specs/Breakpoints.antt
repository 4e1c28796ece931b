-- Where a search that is run by hand stops: whether a state `meets` a breakpoint, which of some it meets first, and how many steps lead to
-- the first state that meets one (`steps_to_break`). `with_break` adds one.
--
-- Example: with option 4 chosen and option 5 about to be tried, `level 1` isn't met, and `option 5` is. A breakpoint that is set twice is
-- kept once. proofs/ActExamples.antt computes it.
use Rattle.std.specs.Prelude.{ℕ, suc, ◌-◌, ◌==◌, Bool, true, false, ◌&&◌, List, [], ◌∷◌, ◌++◌, length, Option, if◌then◌else◌}
use Rattle.std.specs.List.{find, list_any, position_or_len}
use Rattle.cover_problem.specs.Problem.{ProblemValue}
use Rattle.x_steps.specs.declared.state.Label.{Label}
use Rattle.x_steps.specs.declared.state.Label.TheVariants.{X4, X5}
use Rattle.x_steps.specs.declared.state.Cursor.{Cursor}
use Rattle.x_steps.specs.declared.state.Cursor.TheVariants.{At}
use Rattle.x_steps.specs.StateValue.{StateValue}
use Rattle.x_steps.specs.Steps.{next, is_level, is_visit, item_after}
use Rattle.x_steps.specs.Run.{states, steps_between}
use Rattle.x_texts.specs.declared.breakpoint.Break.{Break}
use Rattle.x_texts.specs.declared.breakpoint.Break.TheVariants as at
use Rattle.x_texts.specs.Breaks.{is_same}

-- whether a step is about to try this option
abbrev pub tries : Label → Cursor → ℕ → Bool
tries X5 (At o) k = o == k
tries _ _ k = false

-- whether a step is about to cover the chosen item
abbrev pub is_about_to_cover : Label → Bool
is_about_to_cover X4 = true
is_about_to_cover _ = false

-- whether a breakpoint is the choice of an item
abbrev pub is_item_break : Break → Bool
is_item_break (at.Item i) = true
is_item_break _ = false

-- whether a state meets a breakpoint: it enters the level, it is about to try the option, it has just chosen the item, it is a
-- visit
unfoldable pub meets : ProblemValue → StateValue → Break → Bool
meets p s (at.Level n) = is_level s.label && (length s.path == n)
meets p s (at.Option k) = tries s.label s.cursor k
meets p s (at.Item i) = is_about_to_cover s.label && (item_after p s.path == i)
meets p s at.Visit = is_visit p s

-- the first of those that a state meets, in the order in which they were set
abbrev pub first_met : ProblemValue → List Break → StateValue → Option Break
first_met p breaks s = find (meets p s) breaks

-- whether it meets one of them
abbrev pub meets_one : ProblemValue → List Break → StateValue → Bool
meets_one p breaks s = list_any (meets p s) breaks

-- how many steps lead to the first state after s that meets one of them, and to the end where none before it does
unfoldable pub steps_to_break : ProblemValue → List Break → StateValue → StateValue → ℕ
steps_to_break p breaks s end = suc (position_or_len (meets_one p breaks) (states p (steps_between p s end - 1) (next p s)))

-- breakpoints with one more, unless it is there
abbrev pub with_break : List Break → Break → List Break
with_break breaks b = if list_any (is_same b) breaks then breaks else breaks ++ b ∷ []
