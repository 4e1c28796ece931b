-- What is still untried at a level of a state, before the end of its branch.
--
-- Example: in the small problem, at any state below option 2 of item a, option 4 is untried at level 0 in the whole run
-- (computed in proofs/CutExamples.antt).
use Rattle.std.specs.Prelude.{ℕ, nat_lt, Bool, Result, List, [], ◌∷◌, ◌++◌, filter, take, drop}
use Rattle.std.specs.Global.{Vec}
use Rattle.shared_words.specs.Answers.{ReturnsItems}
use Rattle.cover_problem.specs.Problem.{ProblemValue}
use Rattle.cover_problem.specs.Covering.{list_of}
use Rattle.x_steps.specs.StateValue.{StateValue}
use Rattle.x_steps.specs.Steps.{remaining_after}
use Rattle.x_branches.specs.Cut.{choices, cut_state, IsCut}
use Rattle.x_branches.specs.RunOrder.{ComesBefore, comes_before}

-- of the options left for the item that is chosen after q, those above the choice o
abbrev pub remaining_above : ProblemValue → List ℕ → ℕ → List ℕ
remaining_above p q o = filter (λ k. nat_lt o k) (remaining_after p q)

-- after the choices q: those of the options above the next choice; none where there is no next choice
abbrev pub left_after : ProblemValue → List ℕ → List ℕ → List ℕ
left_after p q [] = []
left_after p q (o ∷ more) = remaining_above p q o

-- what is left above the choice at a level of a state
abbrev pub left_above : ProblemValue → ℕ → StateValue → List ℕ
left_above p level s = left_after p (take level (choices s)) (drop level (choices s))

-- whether the cut at k after q comes before the end
abbrev pub is_before_end : ProblemValue → StateValue → List ℕ → ℕ → Bool
is_before_end p end q k = comes_before p (cut_state (q ++ k ∷ [])) end

-- after the choices q: those of the options above the next choice that come before the end; none where there is no next choice
abbrev pub untried_after : ProblemValue → StateValue → List ℕ → List ℕ → List ℕ
untried_after p end q [] = []
untried_after p end q (o ∷ more) = filter (is_before_end p end q) (remaining_above p q o)

-- what is untried at a level of a state, of what comes before the end
abbrev pub untried : ProblemValue → StateValue → ℕ → StateValue → List ℕ
untried p end level s = untried_after p end (take level (choices s)) (drop level (choices s))

-- the choices of a state before a level, and then k
abbrev pub with_choice : StateValue → ℕ → ℕ → List ℕ
with_choice s level k = take level (choices s) ++ k ∷ []

-- a cut that comes after a state and before the end
pub record IsUntried (p : ProblemValue) (s end : StateValue) (path : List ℕ) : Type 0 where
  pub cut : IsCut p path
  pub later : ComesBefore p s (cut_state path)
  pub before_end : ComesBefore p (cut_state path) end

-- the call lists the options in an item's list above one of them, unless it has an error
abbrev pub ListsAbove : {E : Type 0} → Result (Vec ℕ) E → ProblemValue → List ℕ → ℕ → ℕ → Type 0
ListsAbove result p c item option = ReturnsItems result (filter (λ k. nat_lt option k) (list_of p c item))
