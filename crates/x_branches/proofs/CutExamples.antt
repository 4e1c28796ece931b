-- Cuts and what is untried, computed on the small problem: c e, a d g, b c f, a d f, b g, d e g.
use Rattle.std.proofs.Common.{◌≡◌, ℕ, Bool, true, [], ◌∷◌, filter, refl, ◌∙◌, ap, arith}
use Rattle.cover_problem.specs.Covering.{active, remaining, choice}
use Rattle.cover_problem.specs.Path.{IsValid, taken, covered_by}
use Rattle.cover_problem.proofs.CoverExamples.{small}
use Rattle.x_steps.specs.declared.state.Label.TheVariants.{X2, X5}
use Rattle.x_steps.specs.declared.state.Cursor.TheVariants as cursor
use Rattle.x_steps.specs.declared.state.Cursor.TheVariants.{At}
use Rattle.x_steps.specs.StateValue.{at, done}
use Rattle.x_steps.specs.Rank.{rank}
use Rattle.x_branches.specs.Cut.{choices, cut_state, IsCut}
use Rattle.x_branches.specs.Untried.{is_before_end, remaining_above, untried}
use Rattle.x_branches.proofs.CutLemmas.{rank_test}

-- the cut 4 5 is the state X5 at option 5 with the path 4
state_of_cut : cut_state (4 ∷ 5 ∷ []) ≡ at X5 (4 ∷ []) (At 5)
unfolding cut_state
state_of_cut = refl

choices_of_cut : choices (at X5 (4 ∷ []) (At 5)) ≡ 4 ∷ 5 ∷ []
choices_of_cut = refl

-- 4 is an option of a, the first item chosen, and then 5 of b
is_cut : IsCut small (4 ∷ 5 ∷ [])
unfolding IsValid covered_by taken choice active remaining
is_cut = record {
  some = omega arith;
  valid = (record { active = omega arith; left = refl }, (record { active = omega arith; left = refl }, tt));
}

-- below option 2 of the item a, option 4 is above the choice
above_two : remaining_above small [] 2 ≡ 4 ∷ []
unfolding covered_by choice active remaining
above_two = refl

-- and its cut comes before the end of the run
four_before_end : is_before_end small done [] 4 ≡ true
unfolding IsValid covered_by taken choice active remaining cut_state rank
four_before_end = rank_test small (cut_state (4 ∷ [])) done (tt, record { active = omega arith; left = refl }) refl (omega arith)

-- so option 4 is untried there, in the whole run
pub untried_below_two : untried small done 0 (at X2 (2 ∷ []) cursor.None) ≡ 4 ∷ []
untried_below_two = ap (filter (is_before_end small done [])) above_two ∙ kept (is_before_end small done []) four_before_end
  where
    kept : (test : ℕ → Bool) → test 4 ≡ true → filter test (4 ∷ []) ≡ 4 ∷ []
    kept test e = rw e refl
