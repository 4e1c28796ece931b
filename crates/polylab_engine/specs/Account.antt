-- The account of a search (`Account`): its visits, where they are kept, and how many visits, steps and X2 states at each level it had; and
-- what is reported of it (`ReportValue`, `report_of`). The account of states of a run (`account_of`), of none (`empty_account`), and one with
-- more steps (`with_walk`); and counts that are added (`AreSums`).
--
-- Example: two states of the small problem's run, X6 at option 1 after the choices 4 5 and X2 after 4 5 1: the account keeps the visit 4 5 1, and
-- has 2 steps and one X2 state, at level 3. proofs/JobExamples.antt computes it.
use Rattle.std.specs.Prelude.{ℕ, suc, ◌+◌, ◌<◌, ◌≡◌, Bool, ◌&&◌, List, [], ◌∷◌, ◌++◌, length, map, slice_index, replicate, if◌then◌else◌}
use Rattle.shared_words.specs.Lists.{numbers}
use Rattle.cover_problem.specs.Problem.{ProblemValue}
use Rattle.x_steps.specs.declared.event.Event.{Event}
use Rattle.x_steps.specs.StateValue.{StateValue}
use Rattle.x_steps.specs.Run.{visits, level_count}
use Rattle.x_steps.specs.Walk.{is_visited}
use Rattle.x_steps.specs.Levels.{without_last_zeros}
use Rattle.lab_book.specs.Book.{BookValue}
use Rattle.std.specs.Prelude.{◌≤◌, ◌*◌, ◌^◌}
use Rattle.lab_book.specs.Posted.{whole_visits}

-- the visits that are kept, the number of visits and of steps, and the number of X2 states at each level from 0 on
pub record Account : Type 0 where
  pub visits : List (List ℕ)
  pub visited : ℕ
  pub steps : ℕ
  pub entered : List ℕ

-- what is reported of an account: the same, with the levels up to the last that has a state
pub record ReportValue : Type 0 where
  pub visits : List (List ℕ)
  pub visited : ℕ
  pub steps : ℕ
  pub levels : List ℕ

-- the report that has these
abbrev pub report_with : List (List ℕ) → ℕ → ℕ → List ℕ → ReportValue
report_with visits visited steps levels = record { visits = visits; visited = visited; steps = steps; levels = levels }

-- the report of an account
abbrev pub report_of : Account → ReportValue
report_of a = record { visits = a.visits; visited = a.visited; steps = a.steps; levels = without_last_zeros a.entered }

-- these paths, or none where they are not kept
abbrev pub kept : Bool → List (List ℕ) → List (List ℕ)
kept keeps paths = if keeps then paths else []

-- the visits of a finished book, or none where they are not kept
abbrev pub book_visits : Bool → BookValue → List (List ℕ)
book_visits keeps b = kept keeps (whole_visits b)

-- the account of these states of a run, which keeps the visits or not
unfoldable pub account_of : Bool → ProblemValue → List StateValue → Account
account_of keeps p ss = record {
  visits = kept keeps (visits p ss);
  visited = length (visits p ss);
  steps = length ss;
  entered = map (level_count ss) (numbers (suc (length p.names)) 0);
}

-- the account of no state, for n items
abbrev pub empty_account : ℕ → Account
empty_account n = record { visits = []; visited = 0; steps = 0; entered = replicate (n + 1) 0 }

-- the visits that are kept, after steps the last of which ends at this path
abbrev pub kept_with : Bool → List (List ℕ) → Event → List ℕ → List (List ℕ)
kept_with keeps visits event path = if keeps && is_visited event then visits ++ path ∷ [] else visits

-- the number of visits, after steps the last of which tells this
abbrev pub visits_with : ℕ → Event → ℕ
visits_with count event = if is_visited event then count + 1 else count

-- an account with n steps more, but for the levels: what the last of them tells, and the path there
abbrev pub with_walk : Bool → Account → ℕ → Event → List ℕ → Account
with_walk keeps a n event path = record {
  visits = kept_with keeps a.visits event path;
  visited = visits_with a.visited event;
  steps = a.steps + n;
  entered = a.entered;
}

-- to the count of each level is added another
pub record AreSums (old more new : List ℕ) : Type 0 where
  pub levels : length new ≡ length old
  pub each : (level : ℕ) → level < length old → slice_index new level ≡ slice_index old level + slice_index more level

-- between two counts a block of 2^32 gets full
abbrev pub PassesBlock : ℕ → ℕ → Type 0
PassesBlock old new = (blocks : ℕ) × (old < blocks * 2 ^ 32) × (blocks * 2 ^ 32 ≤ new)
