-- From where a runner can start to where a snapshot stands.
use Rattle.std.proofs.Common.{◌≡◌, List, ℕ, Option, option_map, Result, Ok, Err, OnOk}
use Rattle.cover_problem.specs.Problem.{ProblemValue}
use Rattle.x_steps.specs.StateValue.{StateValue}
use Rattle.x_branches.specs.Cut.{CutPath}
use Rattle.x_branches.specs.Refusals.{CanStart}
use Rattle.x_snapshot.specs.Snapshot.{IsOnBranch, path_in}

-- a consequence of what a call that succeeded ensures
pub on_ok : {X E P Q : Type 0} (r : Result X E) → (P → Q) → OnOk r P → OnOk r Q
on_ok (Ok x) f h = f h
on_ok (Err e) f h = tt

module _ (p : ProblemValue) (lo hi : Option (List ℕ)) (s : StateValue) (low high : Option CutPath) (at_low : low ≡ option_map (path_in p) lo) (at_high : high ≡ option_map (path_in p) hi) where
  pub inside_from : CanStart p (record { lo = low; hi = high }) s → IsOnBranch p lo hi s
  inside_from can = let these = rw (at_low, at_high) at can in record { branch = these.branch; within = these.within }
