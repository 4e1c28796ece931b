-- Which of two states comes first on the run: `ComesBefore` says that one does, and `comes_before` is the test for it.
--
-- Example: in the small problem X1 comes before X3 with the empty path, two steps on, and Done doesn't come before X1.
-- proofs/RunnerExamples.antt computes it.
use Rattle.std.specs.Prelude.{ℕ, ◌<◌, ◌≡◌, ◌↔◌, nat_lt, Bool, IsTrue}
use Rattle.std.specs.declared.cmp.Ordering.{Ordering}
use Rattle.std.specs.declared.cmp.Ordering.TheVariants.{Less, Equal, Greater}
use Rattle.cover_problem.specs.Problem.{ProblemValue}
use Rattle.x_steps.specs.StateValue.{StateValue}
use Rattle.x_steps.specs.Steps.{Fits}
use Rattle.x_steps.specs.Run.{steps_between, ReachesIn}

-- s comes before t: t is the n-th state after s, for an n above 0, and the run doesn't end before
abbrev pub ComesBefore : ProblemValue → StateValue → StateValue → Type 0
ComesBefore p s t = (n : ℕ) × (0 < n) × ReachesIn p s t n

-- the same as a test: some steps lead from s to t
unfoldable pub comes_before : ProblemValue → StateValue → StateValue → Bool
comes_before p s t = nat_lt 0 (steps_between p s t)

-- in every problem whose search has both states, Less tells that s comes before t
abbrev pub LessIsBefore : Ordering → StateValue → StateValue → Type 0
LessIsBefore answer s t = (p : ProblemValue) → Fits p s → Fits p t → ((answer ≡ Less) ↔ ComesBefore p s t)

-- Equal tells that they are the same
abbrev pub EqualIsSame : Ordering → StateValue → StateValue → Type 0
EqualIsSame answer s t = (p : ProblemValue) → Fits p s → Fits p t → ((answer ≡ Equal) ↔ (s ≡ t))

-- Greater tells that t comes before s
abbrev pub GreaterIsAfter : Ordering → StateValue → StateValue → Type 0
GreaterIsAfter answer s t = (p : ProblemValue) → Fits p s → Fits p t → ((answer ≡ Greater) ↔ ComesBefore p t s)

-- true tells that s comes before t
abbrev pub TrueIsBefore : Bool → StateValue → StateValue → Type 0
TrueIsBefore answer s t = (p : ProblemValue) → Fits p s → Fits p t → (IsTrue answer ↔ ComesBefore p s t)
