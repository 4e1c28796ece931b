-- The sum that a text of a whole and its parts says, or its first fault and the number of that fault's line (`join_of`).
--
-- Example: a text of the small problem's run whose first part is left out has the fault Gap in the line after the whole's `end`.
-- proofs/SumExamples.antt computes the order.
use Rattle.std.specs.Prelude.{ℕ, zero, suc, Bool, not, ◌&&◌, if◌then◌else◌, List, [], ◌∷◌, length, filter, Result, Ok, Err}
use Rattle.text_lines.specs.Lines.{is_newline}
use Rattle.text_lines.specs.Writing.{text_of}
use Rattle.text_lines.specs.Each.{◌>>=◌}
use Rattle.cover_problem.specs.Problem.{ProblemValue}
use Rattle.x_steps.specs.StateValue.{StateValue}
use Rattle.x_branches.specs.RunOrder.{comes_before}
use Rattle.x_snapshot.specs.Snapshot.{SnapshotValue}
use Rattle.part_sums.specs.declared.fault.JoinFault.{JoinFault}
use Rattle.part_sums.specs.declared.fault.JoinFault.TheVariants.{Gap, Overlap, Twice, LeftOut}
use Rattle.part_sums.specs.declared.total.Counted.{Counted}
use Rattle.part_sums.specs.Answers.{no_counts, both_counts, sum_lines}
use Rattle.part_sums.specs.Parts.{head_text, last_state}
use Rattle.part_sums.specs.Reading.{whole_in, tail_in, part_answer_in, line_of}
use Rattle.part_sums.specs.Taking.{JoiningValue, joining_with}

-- what was found, or the fault with this line's number
abbrev pub on_line : {X : Type 0} → ℕ → Result X JoinFault → Result X (JoinFault × ℕ)
on_line line (Ok x) = Ok x
on_line line (Err fault) = Err (fault, line)

-- neither of two states comes before the other
abbrev pub are_at_one_place : ProblemValue → StateValue → StateValue → Bool
are_at_one_place p s t = not (comes_before p s t) && not (comes_before p t s)

-- a part begins where the one before it ends; or it doesn't, where that one began at `before` and ends at `here`
unfoldable pub beginning_found : ProblemValue → StateValue → StateValue → StateValue → Result (Unit {0}) JoinFault
beginning_found p before here next =
    if comes_before p here next then Err Gap else
    (if comes_before p next here then Err (if are_at_one_place p before next then Twice else Overlap) else Ok tt)

-- what is taken with the part of v at the front of the rest of a text, and what stands after it
unfoldable pub part_found : SnapshotValue → List ℕ → JoiningValue → List ℕ → Result (JoiningValue × List ℕ) (JoinFault × ℕ)
part_found v text j rest = do
  part ← on_line (line_of text rest) (tail_in (head_text v) rest)
  place ← on_line (line_of text rest) (beginning_found v.problem j.before j.here part.0.state)
  answer ← on_line (line_of text part.1) (part_answer_in part.0 part.1)
  Ok (joining_with part.0.state (last_state part.0) (both_counts j.counts answer.0), answer.1)

-- what is taken with the parts of the rest, at most n of them
unfoldable pub parts_within : SnapshotValue → List ℕ → ℕ → JoiningValue → List ℕ → Result JoiningValue (JoinFault × ℕ)
parts_within v text zero j rest = Ok j
parts_within v text (suc n) j [] = Ok j
parts_within v text (suc n) j (b ∷ bs) = part_found v text j (b ∷ bs) >>= λ s. parts_within v text n s.0 s.1

-- with all of them: they are no more than bytes
abbrev pub parts_found : SnapshotValue → List ℕ → List ℕ → Result JoiningValue (JoinFault × ℕ)
parts_found v text rest = parts_within v text (length rest) (joining_with v.state v.state no_counts) rest

-- the last part ends where the whole does; if not, that is a fault of the last line
unfoldable pub end_found : SnapshotValue → List ℕ → JoiningValue → Result (Unit {0}) (JoinFault × ℕ)
end_found v text j = if are_at_one_place v.problem j.here (last_state v) then Ok tt else Err (LeftOut, length (filter is_newline text))

-- the lines of the sum, or the first fault and its line's number
unfoldable pub join_of : Counted → List ℕ → Result (List ℕ) (JoinFault × ℕ)
join_of counted text = do
  whole ← on_line 1 (whole_in text)
  taken ← parts_found whole.0 text whole.1
  ended ← end_found whole.0 text taken
  Ok (text_of (sum_lines counted whole.0.problem taken.counts))
