-- What a machine stands for, and what it keeps.
use Rattle.std.specs.Prelude.{ℕ, ◌+◌, ◌-◌, ◌≡◌, ◌≤◌, nat_lt, Bool, true, false, not, Option, Some, None, option_map, List, length, map, filter}
use Rattle.std.specs.Prelude.{if◌then◌else◌}
use Rattle.shared_words.specs.Lists.{has, numbers}
use Rattle.cover_problem.specs.Problem.{ProblemValue, IsProblem}
use Rattle.cover_problem.specs.Covering.{active, remaining, list_of}
use Rattle.x_steps.specs.declared.state.Label.{Label}
use Rattle.x_steps.specs.declared.state.Label.TheVariants.{X4, X5, X6, X7}
use Rattle.x_steps.specs.declared.event.Event.{Event}
use Rattle.x_steps.specs.StateValue.{StateValue}
use Rattle.x_steps.specs.Steps.{Fits, item_after, covered_in, next, event_of, IsBefore}
use Rattle.x_steps.specs.Before.{prev}

-- a problem, and where its search stands
pub record MachineValue : Type 0 where
  pub problem : ProblemValue
  pub state : StateValue

-- the state fits the problem, the table stands for what is covered there, and the path has room for a choice of each item
pub record Keeps (p : ProblemValue) (s : StateValue) (table_problem : ProblemValue) (covered : List ℕ) (room : ℕ) : Type 0 where
  pub sound : IsProblem p
  pub fit : Fits p s
  pub same : table_problem ≡ p
  pub stands : covered ≡ covered_in p s
  pub path_fits : length p.names ≤ room

-- the machine is at this step
abbrev pub IsAt : MachineValue → Label → Type 0
IsAt m label = m.state.label ≡ label

-- what is covered where the machine stands
abbrev pub covered_items : MachineValue → List ℕ
covered_items m = covered_in m.problem m.state

-- the state before the machine's
abbrev pub state_before : MachineValue → StateValue
state_before m = prev m.problem m.state

-- the item that is chosen after the machine's path
abbrev pub item_to_choose : MachineValue → ℕ
item_to_choose m = item_after m.problem m.state.path

-- one step of the machine, and what it tells
pub record Goes (old new : MachineValue) (event : Event) : Type 0 where
  pub problem : new.problem ≡ old.problem
  pub state : new.state ≡ next old.problem old.state
  pub tells : event ≡ event_of old.problem old.state

-- one step back, to the one state before
pub record GoesBack (old new : MachineValue) : Type 0 where
  pub problem : new.problem ≡ old.problem
  pub state : new.state ≡ prev old.problem old.state
  pub before : IsBefore old.problem new.state old.state

-- whether an item is active once these are covered
abbrev pub any_active : ProblemValue → List ℕ → Bool
any_active p c = nat_lt 0 (length (active p c))

-- the active items, each with the options left for it
abbrev pub remaining_items : ProblemValue → List ℕ → List (ℕ × List ℕ)
remaining_items p c = map (λ i. (i, remaining p c i)) (active p c)

-- the active items of a state, each with the options left for it
abbrev pub remaining_in : ProblemValue → StateValue → List (ℕ × List ℕ)
remaining_in p s = remaining_items p (covered_in p s)

-- the secondary items, above the primary ones, that are not covered
unfoldable pub secondary : ProblemValue → List ℕ → List ℕ
secondary p c = filter (λ i. not (has c i)) (numbers (length p.names - p.primary) (p.primary + 1))

-- each with the options left for it
abbrev pub second_items : ProblemValue → List ℕ → List (ℕ × List ℕ)
second_items p c = map (λ i. (i, remaining p c i)) (secondary p c)

-- the same at a state
abbrev pub second_in : ProblemValue → StateValue → List (ℕ × List ℕ)
second_in p s = second_items p (covered_in p s)

-- whether an item is chosen at the step
abbrev pub is_chosen : Label → Bool
is_chosen X4 = true
is_chosen X5 = true
is_chosen X6 = true
is_chosen X7 = true
is_chosen _ = false

-- the item that is chosen at X4 to X7
unfoldable pub chosen_item : ProblemValue → StateValue → Option ℕ
chosen_item p s = if is_chosen s.label then Some (item_after p s.path) else None

-- that item, with the options of its list
unfoldable pub chosen_in : ProblemValue → StateValue → Option (ℕ × List ℕ)
chosen_in p s = option_map (λ i. (i, list_of p (covered_in p s) i)) (chosen_item p s)
