-- The examples of specs/Breaks.antt, specs/Words.antt and specs/Ends.antt.
use Rattle.std.proofs.Common.{◌≡◌, [], ◌∷◌, true, false, codes, refl}
use Rattle.std.specs.Fmt.{digits}
use Rattle.cover_problem.specs.Problem.{ProblemValue}
use Rattle.x_steps.specs.declared.state.Label.TheVariants.{X5}
use Rattle.x_steps.specs.declared.state.Cursor.TheVariants.{At}
use Rattle.x_steps.specs.StateValue.{at}
use Rattle.x_texts.specs.declared.breakpoint.Break.TheVariants as breakpoints
use Rattle.x_texts.specs.Breaks.{is_break, are_new}
use Rattle.x_texts.specs.Words.{state_words, visit_words}
use Rattle.x_texts.specs.Ends.{word_ends, IsVisitLine, IsClosed}

-- one item, and two options of it
abbrev two : ProblemValue
two = record { names = codes "a" ∷ []; primary = 1; options = (1 ∷ []) ∷ (1 ∷ []) ∷ [] }

level_1 : is_break two (breakpoints.Level 1) ≡ true
level_1 = refl

level_2 : is_break two (breakpoints.Level 2) ≡ false
level_2 = refl

option_2 : is_break two (breakpoints.Option 2) ≡ true
option_2 = refl

option_0 : is_break two (breakpoints.Option 0) ≡ false
option_0 = refl

item_1 : is_break two (breakpoints.Item 1) ≡ true
item_1 = refl

item_2 : is_break two (breakpoints.Item 2) ≡ false
item_2 = refl

visits_are_same : are_new (breakpoints.Visit ∷ breakpoints.Level 1 ∷ breakpoints.Visit ∷ []) ≡ false
visits_are_same = refl

state_of_words : state_words (at X5 (4 ∷ 5 ∷ []) (At 2)) ≡ codes "X5" ∷ codes "2" ∷ codes "4" ∷ codes "5" ∷ []
unfolding digits
state_of_words = refl

visit_of_words : visit_words (4 ∷ 5 ∷ 1 ∷ []) ≡ codes "visit" ∷ codes "4" ∷ codes "5" ∷ codes "1" ∷ []
unfolding digits
visit_of_words = refl

ends_of_words : word_ends 5 (codes "4" ∷ codes "15" ∷ codes "1" ∷ []) ≡ 7 ∷ 10 ∷ 12 ∷ []
ends_of_words = refl

-- where a longer one stood before
line_kept : IsVisitLine (codes "visit 4 15 1\n3\n") (5 ∷ 7 ∷ 10 ∷ 12 ∷ 14 ∷ []) (4 ∷ 15 ∷ 1 ∷ [])
unfolding digits
line_kept = record { written = refl; ended = refl }

line_closed : IsClosed (codes "visit 4 15 1\n3\n") (4 ∷ 15 ∷ 1 ∷ [])
unfolding digits
line_closed = refl
