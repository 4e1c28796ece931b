-- A branch: the part of a run from one cut up to another. `first_of` (by its low cut's choices `first_from`) and `end_of` are its first
-- state and the one that ends it, and `whole_run` is the branch without cuts.
--
-- Example: in the small problem a branch with the low cut 4 begins at X5 at option 4 with the empty path; without a high cut it ends at
-- Done. proofs/RunnerExamples.antt computes it.
use Rattle.std.specs.Prelude.{ℕ, Option, Some, List}
use Rattle.std.specs.Prelude as prelude
use Rattle.x_steps.specs.StateValue.{StateValue, start, done}
use Rattle.x_branches.specs.declared.branch.Branch.{Branch}
use Rattle.x_branches.specs.Cut.{cut_state, CutPath}

-- the first state of a branch: its low cut's, or X1
abbrev pub first_of : Option CutPath → StateValue
first_of prelude.None = start
first_of (Some cut) = cut_state cut.path

-- the first state of a branch whose low cut has these choices, or X1
abbrev pub first_from : Option (List ℕ) → StateValue
first_from prelude.None = start
first_from (Some path) = cut_state path

-- the state that ends a branch and isn't in it: its high cut's, or Done
abbrev pub end_of : Option CutPath → StateValue
end_of prelude.None = done
end_of (Some cut) = cut_state cut.path

-- the whole run, as a branch
abbrev pub whole_run : Branch
whole_run = record { lo = prelude.None; hi = prelude.None }
