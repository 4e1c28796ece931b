-- The questions of the debugger, each by its word.
--
-- Example: `levels` is a question, and `level` is none. proofs/ReaderExamples.antt computes it.
use Rattle.std.specs.Prelude.{ℕ, if◌then◌else◌, List, codes, Option, Some, None}
use Rattle.std.specs.Str.{bytes_eq}
use Rattle.debug_language.specs.declared.question.Question.{Question}
use Rattle.debug_language.specs.declared.question.Question.TheVariants.{Show, Untried, Branches, Visits, Steps, Levels}

-- the question that a word is
abbrev pub question_of : List ℕ → Option Question
question_of word =
    if bytes_eq word (codes "show") then Some Show else
    (if bytes_eq word (codes "untried") then Some Untried else
    (if bytes_eq word (codes "branches") then Some Branches else
    (if bytes_eq word (codes "visits") then Some Visits else
    (if bytes_eq word (codes "steps") then Some Steps else
    (if bytes_eq word (codes "levels") then Some Levels else None)))))
