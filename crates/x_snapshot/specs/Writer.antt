-- The one text of a snapshot.
--
--     polysnap 1           the version: 2 where there are secondary items or breakpoints, else 1
--     problem 3            the number of lines of the problem, and then these: its cover text
--     items a
--     option a
--     option a
--     from 1               the choices of the low cut, or `start`
--     to end               the choices of the high cut, or `end`
--     state X5 2           the state's label, its cursor (`-`, `past` or an option), and its choices
--     end
--
-- In version 2 the breakpoints stand between `state` and `end`: a line with their number, and a line for each.
--
-- `needs_second` and `version_of` choose the version; `head_lines`, `lines_of_breaks`, `position_lines` and `end_line` are the lines but
-- the problem's, and `snapshot_text` is the whole.
--
-- Example: the text above is that of two equal options of one item, from the cut 1 on, where option 2 is about to be tried. With the
-- breakpoint `visit` it would be version 2. proofs/SnapshotExamples.antt computes it.
use Rattle.std.specs.Prelude.{ℕ, Bool, ◌||◌, nat_lt, if◌then◌else◌, List, [], ◌∷◌, ◌++◌, length, map, decimal, codes}
use Rattle.text_lines.specs.Writing.{text_of}
use Rattle.cover_problem.specs.Problem.{ProblemValue}
use Rattle.cover_problem.specs.Grammar.{word_lines, written}
use Rattle.x_texts.specs.declared.breakpoint.Break.{Break}
use Rattle.x_texts.specs.Words.{cut_words, state_words, break_words}
use Rattle.std.specs.Prelude.{Option}
use Rattle.x_snapshot.specs.Snapshot.{SnapshotValue}

-- whether the second version is needed: there are secondary items, or breakpoints
abbrev pub needs_second : ProblemValue → List Break → Bool
needs_second p breaks = nat_lt p.primary (length p.names) || nat_lt 0 (length breaks)

-- the version
abbrev pub version_of : ProblemValue → List Break → ℕ
version_of p breaks = if needs_second p breaks then 2 else 1

-- the version, and the number of lines of the problem
abbrev pub head_lines : SnapshotValue → List (List (List ℕ))
head_lines v =
    (codes "polysnap" ∷ decimal (version_of v.problem v.breaks) ∷ [])
    ∷ (codes "problem" ∷ decimal (length (word_lines v.problem)) ∷ []) ∷ []

-- the number of breakpoints, and each of them
abbrev pub break_lines : ProblemValue → List Break → List (List (List ℕ))
break_lines p breaks = (codes "breaks" ∷ decimal (length breaks) ∷ []) ∷ map (break_words p.names) breaks

-- the same, in the second version
abbrev pub lines_of_breaks : ProblemValue → List Break → List (List (List ℕ))
lines_of_breaks p breaks = if needs_second p breaks then break_lines p breaks else []

-- the line of the low cut
abbrev pub low_words : Option (List ℕ) → List (List ℕ)
low_words lo = codes "from" ∷ cut_words (codes "start") lo

-- the line of the high cut
abbrev pub high_words : Option (List ℕ) → List (List ℕ)
high_words hi = codes "to" ∷ cut_words (codes "end") hi

-- the lines of the branch and the state
abbrev pub position_lines : SnapshotValue → List (List (List ℕ))
position_lines v =
    low_words v.lo
    ∷ high_words v.hi
    ∷ (codes "state" ∷ state_words v.state) ∷ []

-- the last line
abbrev pub end_line : List (List (List ℕ))
end_line = (codes "end" ∷ []) ∷ []

-- the text of a snapshot
unfoldable pub snapshot_text : SnapshotValue → List ℕ
snapshot_text v =
    text_of (head_lines v) ++ written v.problem ++ text_of (position_lines v)
    ++ text_of (lines_of_breaks v.problem v.breaks) ++ text_of end_line
