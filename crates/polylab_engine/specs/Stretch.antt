-- A stretch of a run: where it stops (`end_at`, `steps_taken`), and what is reported of it (`stretch_report`).
--
-- Example: the cut 4 5 ends a branch at X5, at option 5 after the choice 4. Where 43 steps lead to the end and 30 are asked for it takes 30,
-- and where 50 are asked for it takes 43. proofs/JobExamples.antt computes it.
use Rattle.std.specs.Prelude.{ℕ, ◌<◌, nat_lt, Bool, Option, Some, List, [], ◌∷◌, length, if◌then◌else◌}
use Rattle.std.specs.Prelude as prelude
use Rattle.cover_problem.specs.Problem.{ProblemValue}
use Rattle.x_steps.specs.StateValue.{StateValue, done}
use Rattle.x_steps.specs.Run.{states, visits, states_between}
use Rattle.x_branches.specs.Cut.{cut_state}
use Rattle.polylab_engine.specs.Account.{Account, ReportValue, account_of, report_of}
use Rattle.x_steps.specs.declared.state.Label.TheVariants.{Done}
use Rattle.x_steps.specs.Run.{after, steps_between}
use Rattle.x_steps.specs.Machine.{MachineValue}
use Rattle.x_steps.specs.Walk.{IsAtCut}
use Rattle.std.specs.Prelude.{◌≡◌, ◌⊎◌}

-- the state that ends a branch: that of the cut of these choices, or Done where there are none
abbrev pub end_at : List ℕ → StateValue
end_at [] = done
end_at (o ∷ path) = cut_state (o ∷ path)

-- how many steps a stretch takes where so many lead to the end: all of them, or as many as are asked for, where these are fewer
abbrev pub steps_taken : Option ℕ → ℕ → ℕ
steps_taken prelude.None ahead = ahead
steps_taken (Some most) ahead = if nat_lt most ahead then most else ahead

-- the report of the stretch from s up to t, which keeps the visits or not
abbrev pub stretch_report : Bool → ProblemValue → StateValue → StateValue → ReportValue
stretch_report keeps p s t = report_of (account_of keeps p (states_between p s t))

-- the state of a machine at this position after so many steps
abbrev pub state_at : MachineValue → ℕ → StateValue
state_at m n = after m.problem n m.state

-- the state where a stretch from a machine's position on stops: at the end of a branch, which is the cut of these choices or Done, or
-- as many steps on as are asked for, where that comes first
abbrev pub stop_from : Option ℕ → MachineValue → List ℕ → StateValue
stop_from most m end = state_at m (steps_taken most (steps_between m.problem m.state (end_at end)))

-- with fewer of a machine's next steps there are fewer visits than n
abbrev pub HasFewerBefore : MachineValue → ℕ → ℕ → Type 0
HasFewerBefore m steps n = (k : ℕ) → k < steps → length (visits m.problem (states m.problem k m.state)) < n

-- a search that has come to `visited` visits stops at s: after as many visits as were asked for, or where a stretch stops
abbrev pub StopsAt : Option ℕ → Option ℕ → MachineValue → List ℕ → ℕ → StateValue → Type 0
StopsAt first most m end visited s = (first ≡ Some visited) ⊎ (s ≡ stop_from most m end)

-- the account of the stretch from a machine's position up to t
abbrev pub account_from : Bool → MachineValue → StateValue → Account
account_from keeps m t = account_of keeps m.problem (states_between m.problem m.state t)

-- and its report
abbrev pub report_from : Bool → MachineValue → StateValue → ReportValue
report_from keeps m t = stretch_report keeps m.problem m.state t

-- a state ends a branch: it is at the cut of these choices, or it is Done
abbrev pub IsAtEnd : StateValue → List ℕ → Type 0
IsAtEnd s choices = IsAtCut s choices ⊎ (s.label ≡ Done)
