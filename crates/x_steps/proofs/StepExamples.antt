-- The step table, backwards and forwards, computed on the small problem: c e, a d g, b c f, a d f, b g, d e g.
use Rattle.std.proofs.Common.{◌≡◌, [], ◌∷◌, map, refl, sym, ap, ◌∙◌, arith}
use Rattle.shared_words.specs.Lists.{numbers}
use Rattle.cover_problem.specs.Covering.{active, remaining, choice}
use Rattle.cover_problem.specs.Path.{taken, covered_by}
use Rattle.cover_problem.proofs.CoverExamples.{small}
use Rattle.x_steps.specs.declared.state.Label.TheVariants.{X2, X3, X4, X5, X6, X7, X8, Done}
use Rattle.x_steps.specs.declared.state.Cursor.TheVariants as cursor
use Rattle.x_steps.specs.declared.state.Cursor.TheVariants.{At, Past}
use Rattle.x_steps.specs.declared.event.Event.TheVariants.{Visited, Finished}
use Rattle.x_steps.specs.StateValue.{StateValue, at, start, done}
use Rattle.x_steps.specs.Steps.{next, covered_in, event_of}
use Rattle.x_steps.specs.Before.{prev}
use Rattle.x_steps.specs.Run.{after, entries, level_count, levels, states, steps_between, visits, visits_between}
use Rattle.x_steps.specs.Levels.{without_last_zeros, trimmed_levels}
use Rattle.x_steps.specs.Order.{IsShared}
use Rattle.x_steps.proofs.RunLemmas.{start_fits, steps_between_is}
use Rattle.x_steps.proofs.StretchLemmas.{ends_first}

after_start : next small start ≡ at X2 [] cursor.None
unfolding next
after_start = refl

-- an item is active, so X3 comes
something_active : next small (at X2 [] cursor.None) ≡ at X3 [] cursor.None
unfolding next covered_by active
something_active = refl

-- item a is chosen, and 2 is the first of its options 2 and 4
first_option : next small (at X4 [] cursor.None) ≡ at X5 [] (At 2)
unfolding next covered_by choice active remaining
first_option = refl

option_taken : next small (at X5 (2 ∷ []) (At 3)) ≡ at X2 (2 ∷ 3 ∷ []) cursor.None
unfolding next
option_taken = refl

-- item e is chosen, and no option is left for it
no_option : next small (at X4 (2 ∷ 3 ∷ []) cursor.None) ≡ at X5 (2 ∷ 3 ∷ []) Past
unfolding next covered_by taken choice active remaining
no_option = refl

given_up : next small (at X5 (2 ∷ 3 ∷ []) Past) ≡ at X7 (2 ∷ 3 ∷ []) cursor.None
unfolding next
given_up = refl

taken_back_last : next small (at X8 (2 ∷ 3 ∷ []) cursor.None) ≡ at X6 (2 ∷ []) (At 3)
unfolding next
taken_back_last = refl

-- after option 2 comes option 4
other_option : next small (at X6 [] (At 2)) ≡ at X5 [] (At 4)
unfolding next covered_by choice active remaining
other_option = refl

ends : next small (at X8 [] cursor.None) ≡ done
unfolding next
ends = refl

-- the exact cover 1 4 5, in the order 4 5 1: a d f, b g, c e
visit : event_of small (at X2 (4 ∷ 5 ∷ 1 ∷ []) cursor.None) ≡ Visited
unfolding event_of covered_by taken choice active remaining
visit = refl

finished : event_of small (at X8 [] cursor.None) ≡ Finished
unfolding event_of
finished = refl

-- a d g, b c f, and e
covered_at_past : covered_in small (at X5 (2 ∷ 3 ∷ []) Past) ≡ 1 ∷ 4 ∷ 7 ∷ 2 ∷ 3 ∷ 6 ∷ 5 ∷ []
unfolding covered_in covered_by taken choice active remaining
covered_at_past = refl

before_past : prev small (at X5 (2 ∷ 3 ∷ []) Past) ≡ at X4 (2 ∷ 3 ∷ []) cursor.None
unfolding prev covered_by taken choice active remaining
before_past = refl

before_other_option : prev small (at X5 [] (At 4)) ≡ at X6 [] (At 2)
unfolding prev covered_by choice active remaining
before_other_option = refl

-- ten steps from the start
ten_steps : after small 10 start ≡ at X3 (2 ∷ 3 ∷ []) cursor.None
unfolding next covered_by taken choice active remaining
ten_steps = refl

-- and 43 from X1 to Done: the one before is X8 with no choice to take back
whole_run : after small 43 start ≡ done
unfolding next covered_by taken choice active remaining
whole_run = refl

before_done : after small 42 start ≡ at X8 [] cursor.None
unfolding next covered_by taken choice active remaining
before_done = refl

goes_on : (after small 42 start).label ≡ Done → ⊥
goes_on e = let f : X8 ≡ Done = sym (ap (λ (s : StateValue). s.label) before_done) ∙ e in cc

pub forty_three_steps : steps_between small start done ≡ 43
forty_three_steps = steps_between_is small start done 43 (start_fits small) (ends_first small 42 whole_run goes_on)

-- its one visit
visit_of_run : visits small (states small 43 start) ≡ (4 ∷ 5 ∷ 1 ∷ []) ∷ []
unfolding next covered_by taken choice active remaining
visit_of_run = refl

one_visit : visits_between small start done ≡ (4 ∷ 5 ∷ 1 ∷ []) ∷ []
unfolding visits_between
one_visit = ap (λ n. visits small (states small n start)) forty_three_steps ∙ visit_of_run

-- 43 + 1 are eight for each of the five entries of X2 that find an active item, and four for the visit
five_entries : entries small (states small 43 start) ≡ 5
unfolding next covered_by taken choice active remaining
five_entries = refl

-- its X2 states at each level
counts_of_run : map (level_count (states small 43 start)) (numbers 8 0) ≡ 1 ∷ 2 ∷ 2 ∷ 1 ∷ 0 ∷ 0 ∷ 0 ∷ 0 ∷ []
unfolding next covered_by taken choice active remaining
counts_of_run = refl

levels_of_run : levels small start done ≡ 1 ∷ 2 ∷ 2 ∷ 1 ∷ 0 ∷ 0 ∷ 0 ∷ 0 ∷ []
unfolding levels
levels_of_run = ap (λ n. map (level_count (states small n start)) (numbers 8 0)) forty_three_steps ∙ counts_of_run

-- without those that have none
trimmed_levels_of_run : trimmed_levels small start done ≡ 1 ∷ 2 ∷ 2 ∷ 1 ∷ []
unfolding trimmed_levels without_last_zeros
trimmed_levels_of_run = ap without_last_zeros levels_of_run

-- ---- specs/Order.antt

-- 2 3 and 2 share the choice 2
share_one : IsShared (2 ∷ 3 ∷ []) (2 ∷ []) 1
share_one = record { within = omega arith; within_other = omega arith; same = refl; differs = λ l m e. absurd (omega arith) }
