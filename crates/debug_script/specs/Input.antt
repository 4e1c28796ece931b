-- What the debugger reads: a problem's text up to the first mark, and command lines after it.
--
--     raw_lines text       the lines, each with its end: a newline, or the end of the text
--     is_mark line         the line is `%%`
--     problem_text input   what stands before the first mark
--     command_lines input  the raw lines after it
--
-- Example: the text `items a`, `%%`, `step`, `%%` has the problem's text `items a`, and the command lines `step` and `%%`.
-- proofs/InputExamples.antt computes it.
use Rattle.std.specs.Prelude.{ℕ, ◌-◌, ◌==◌, List, [], ◌∷◌, length, take, slice_index, codes, Bool, if◌then◌else◌}
use Rattle.std.specs.List.{onto_first, before_first, after_first, concat}
use Rattle.std.specs.Str.{bytes_eq}
use Rattle.text_lines.specs.Lines.{is_newline, without_return}

-- the lines, each with its end
abbrev pub raw_lines : List ℕ → List (List ℕ)
raw_lines [] = []
raw_lines (b ∷ bs) = if is_newline b then (b ∷ []) ∷ raw_lines bs else onto_first b (raw_lines bs)

-- a line without one newline at its end
abbrev pub without_newline : List ℕ → List ℕ
without_newline line = if slice_index line (length line - 1) == 10 then take (length line - 1) line else line

-- `%%` and nothing else, but for its end: a carriage return may stand before the newline
unfoldable pub is_mark : List ℕ → Bool
is_mark line = bytes_eq (without_return (without_newline line)) (codes "%%")

-- what stands before the first mark, or the whole where there is none
unfoldable pub problem_text : List ℕ → List ℕ
problem_text input = concat (before_first is_mark (raw_lines input))

-- the raw lines after the first mark; where there is none, there are no commands
unfoldable pub command_lines : List ℕ → List (List ℕ)
command_lines input = after_first is_mark (raw_lines input)
