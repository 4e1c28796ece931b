-- The examples of specs/Faults.antt, Answers.antt, Parts.antt, Reading.antt, Refusals.antt and Joining.antt.
use Rattle.std.proofs.Common.{◌≡◌, false, ℕ, [], ◌∷◌, ◌++◌, codes, Some, Ok, Err, refl, lit<, lit≤, arith}
use Rattle.std.proofs.Common as common
use Rattle.std.specs.Fmt.{digits}
use Rattle.text_lines.specs.Writing.{text_of}
use Rattle.cover_problem.proofs.CoverExamples.{small}
use Rattle.x_steps.specs.declared.state.Label.TheVariants.{X5}
use Rattle.x_steps.specs.declared.state.Cursor.TheVariants as cursor
use Rattle.x_steps.specs.StateValue.{at, start}
use Rattle.x_branches.specs.Cut.{cut_state}
use Rattle.x_snapshot.specs.Snapshot.{snapshot_with}
use Rattle.part_sums.specs.declared.fault.JoinFault.TheVariants.{Gap, BadAnswer, BadNumbers}
use Rattle.part_sums.specs.declared.total.Counted.TheVariants.{Packings}
use Rattle.part_sums.specs.Faults.{number_of, name_of}
use Rattle.part_sums.specs.Answers.{counts_with, levels_sum, answer_lines, IsAnswer, HasNumbersOf, has_numbers_of}
use Rattle.part_sums.specs.Parts.{CountedPart, counted_part, tail_text, part_text, last_state, parts_sum, sum_text}
use Rattle.part_sums.specs.Reading.{levels_from, part_answer_in}
use Rattle.part_sums.proofs.AnswerLemmas.{answer_again}

-- ---- specs/Faults.antt

its_number : number_of Gap ≡ 4
its_number = refl

its_name : name_of Gap ≡ codes "Gap"
its_name = refl

-- ---- specs/Answers.antt

levels_added : levels_sum (1 ∷ 1 ∷ 1 ∷ []) (0 ∷ 1 ∷ 1 ∷ 1 ∷ []) ≡ 1 ∷ 2 ∷ 2 ∷ 1 ∷ []
levels_added = refl

its_answer
    : text_of (answer_lines (counts_with 1 20 (1 ∷ 1 ∷ 1 ∷ [])))
    ≡ codes "visits 1" ++ (10 ∷ codes "steps 20") ++ (10 ∷ codes "levels 1 1 1") ++ (10 ∷ codes "end") ++ 10 ∷ []
its_answer = refl

-- 20 steps and 5 that are owed at the cut are 8 for each of three states, and 1
its_numbers : HasNumbersOf start (cut_state (4 ∷ [])) (counts_with 0 20 (1 ∷ 1 ∷ 1 ∷ []))
unfolding cut_state
its_numbers = refl

-- with a visit there would be four steps less
others_numbers : has_numbers_of start (cut_state (4 ∷ [])) (counts_with 1 20 (1 ∷ 1 ∷ 1 ∷ [])) ≡ false
unfolding cut_state
others_numbers = refl

-- ---- specs/Parts.antt

-- the small problem's run from its start to the cut 4, and from there to its end
abbrev first : CountedPart
first = counted_part (snapshot_with small common.None (Some (4 ∷ [])) start []) (counts_with 0 20 (1 ∷ 1 ∷ 1 ∷ []))

abbrev last : CountedPart
last = counted_part (snapshot_with small (Some (4 ∷ [])) common.None (at X5 [] (cursor.At 4)) []) (counts_with 1 23 (0 ∷ 1 ∷ 1 ∷ 1 ∷ []))

last_text
    : part_text last
    ≡ codes "from 4" ++ (10 ∷ codes "to end") ++ (10 ∷ codes "state X5 4") ++ (10 ∷ codes "end") ++ (10 ∷ codes "visits 1") ++ (10 ∷ codes "steps 23")
    ++ (10 ∷ codes "levels 0 1 1 1") ++ (10 ∷ codes "end") ++ 10 ∷ []
unfolding tail_text digits
last_text = refl

-- the last begins where the first ends
they_meet : last.snapshot.state ≡ last_state first.snapshot
unfolding cut_state
they_meet = refl

last_numbers : HasNumbersOf last.snapshot.state (last_state last.snapshot) last.counts
last_numbers = refl

whole_sum : parts_sum (first ∷ last ∷ []) ≡ counts_with 1 43 (1 ∷ 2 ∷ 2 ∷ 1 ∷ [])
whole_sum = refl

whole_lines
    : sum_text Packings first.snapshot (first ∷ last ∷ [])
    ≡ codes "packings 1" ++ (10 ∷ codes "options 6") ++ (10 ∷ codes "steps 43") ++ (10 ∷ codes "levels 1 2 2 1") ++ 10 ∷ []
unfolding digits
whole_lines = refl

-- ---- specs/Reading.antt

ends_in_zero : levels_from (1 ∷ 0 ∷ []) ≡ Err BadAnswer
unfolding levels_from
ends_in_zero = refl

no_level : levels_from (0 ∷ []) ≡ Ok []
unfolding levels_from
no_level = refl

-- of the first part, a step too many
a_step_too_many : part_answer_in first.snapshot (text_of (answer_lines (counts_with 0 21 (1 ∷ 1 ∷ 1 ∷ []))) ++ []) ≡ Err BadNumbers
unfolding part_answer_in cut_state
a_step_too_many = rw (answer_again (counts_with 0 21 (1 ∷ 1 ∷ 1 ∷ [])) [] its) refl
  where
    its : IsAnswer (counts_with 0 21 (1 ∷ 1 ∷ 1 ∷ []))
    its = record { visits = refl; steps = refl; levels = refl; last = λ s. absurd (cc) }
