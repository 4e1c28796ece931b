-- What a text gains at its end: bytes (`Writes`), a line of words (`WritesLine`), or lines (`WritesLines`); and what a call adds unless it
-- has an error: words (`AddsWords`), a line (`AddsLine`) or lines (`AddsLines`).
--
-- Example: a text that gains `visit 4 5` and a newline has gained the line of these words, whatever stood before.
-- proofs/WritingExamples.antt shows it.
use Rattle.std.specs.Prelude.{ℕ, ◌≡◌, ◌++◌, List, Result, OnOk}
use Rattle.std.specs.Global.{Vec}
use Rattle.shared_words.specs.Answers.{Adds}
use Rattle.text_lines.specs.Writing.{words_after, line_text, text_of}

-- the text goes on with these bytes
abbrev pub Writes : Vec ℕ → Vec ℕ → List ℕ → Type 0
Writes old new bytes = new.items ≡ old.items ++ bytes

-- it goes on with a line of these words
abbrev pub WritesLine : Vec ℕ → Vec ℕ → List (List ℕ) → Type 0
WritesLine old new words = Writes old new (line_text words)

-- it goes on with these lines
abbrev pub WritesLines : Vec ℕ → Vec ℕ → List (List (List ℕ)) → Type 0
WritesLines old new lines = Writes old new (text_of lines)

-- the call adds these words, each after a space, unless it has an error
abbrev pub AddsWords : {X E : Type 0} → Result X E → Vec ℕ → Vec ℕ → List (List ℕ) → Type 0
AddsWords result old new words = Adds result old new (words_after words)

-- it adds a line of these words
abbrev pub AddsLine : {X E : Type 0} → Result X E → Vec ℕ → Vec ℕ → List (List ℕ) → Type 0
AddsLine result old new words = Adds result old new (line_text words)

-- it adds these lines
abbrev pub AddsLines : {X E : Type 0} → Result X E → Vec ℕ → Vec ℕ → List (List (List ℕ)) → Type 0
AddsLines result old new lines = OnOk result (WritesLines old new lines)
