-- The examples of specs/Walk.antt, computed.
use Rattle.std.proofs.Common.{◌≡◌, [], ◌∷◌, refl}
use Rattle.cover_problem.specs.Covering.{active, remaining, choice}
use Rattle.cover_problem.specs.Path.{taken, covered_by}
use Rattle.cover_problem.proofs.CoverExamples.{small}
use Rattle.x_steps.specs.declared.state.Label.TheVariants.{X8, Done}
use Rattle.x_steps.specs.declared.state.Cursor.TheVariants.{None}
use Rattle.x_steps.specs.declared.event.Event.TheVariants.{Visited, Finished}
use Rattle.x_steps.specs.StateValue.{start, at}
use Rattle.x_steps.specs.Steps.{next, event_of}
use Rattle.x_steps.specs.Run.{after}
use Rattle.x_steps.specs.Walk.{last_event}

to_visit : after small 30 start ≡ at X8 (4 ∷ 5 ∷ 1 ∷ []) None
unfolding next active covered_by remaining choice taken
to_visit = refl

visit_told : last_event small 30 start ≡ Visited
unfolding next event_of active covered_by remaining choice taken
visit_told = refl

to_end : after small 13 (at X8 (4 ∷ 5 ∷ 1 ∷ []) None) ≡ at Done [] None
unfolding next active covered_by remaining choice taken
to_end = refl

end_told : last_event small 13 (at X8 (4 ∷ 5 ∷ 1 ∷ []) None) ≡ Finished
unfolding next event_of active covered_by remaining choice taken
end_told = refl
