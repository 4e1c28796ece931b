-- The lines that a session answers, as words: `plain` and `counted` lines, the line of a state, those of breakpoints that are set and
-- met, and a refusal's, by whom it is refused.
--
-- Example: option 4 is chosen and option 5 is about to be tried: `at X5 5 4`; an unknown branch: `refused book 1 UnknownBranch`.
-- proofs/ActExamples.antt computes them.
use Rattle.std.specs.Prelude.{ℕ, List, [], ◌∷◌, decimal, codes, unwrap_or}
use Rattle.x_steps.specs.StateValue.{StateValue}
use Rattle.x_branches.specs.declared.fault.RunnerFault.{RunnerFault}
use Rattle.x_branches.specs.Faults as runner
use Rattle.x_texts.specs.declared.breakpoint.Break.{Break}
use Rattle.x_snapshot.specs.declared.fault.SnapshotFault.{SnapshotFault}
use Rattle.x_snapshot.specs.Faults as snapshot
use Rattle.x_texts.specs.Words.{state_words, point_words}
use Rattle.lab_history.specs.declared.fault.BookFault.{BookFault}
use Rattle.lab_history.specs.Faults as book
use Rattle.debug_language.specs.declared.fault.DebugFault.{DebugFault}
use Rattle.debug_language.specs.Faults as debug
use Rattle.debug_language.specs.declared.words.Plain.{Plain}
use Rattle.debug_language.specs.declared.words.Counted.{Counted}
use Rattle.debug_language.specs.declared.words.Layer.TheVariants as layer
use Rattle.debug_language.specs.Replies.{plain_word, counted_word, refused_words}

-- a line that is always the same
abbrev pub plain : Plain → List (List ℕ)
plain p = plain_word p ∷ []

-- a count
abbrev pub counted : Counted → ℕ → List (List ℕ)
counted c n = counted_word c ∷ decimal n ∷ []

-- where the search stands
abbrev pub state_line : StateValue → List (List ℕ)
state_line s = codes "at" ∷ state_words s

-- a breakpoint that is set, and one that is met, over items with these names
abbrev pub set : List (List ℕ) → Break → List (List ℕ)
set names b = codes "set" ∷ point_words names b

-- the line of a breakpoint that is met, over items with these names
abbrev pub met : List (List ℕ) → Break → List (List ℕ)
met names b = codes "break" ∷ point_words names b

-- refusals
abbrev pub debug_refusal : DebugFault → List (List ℕ)
debug_refusal f = refused_words layer.Debug (debug.number_of f) (debug.name_of f)

-- the line of what a runner refuses
abbrev pub runner_refusal : RunnerFault → List (List ℕ)
runner_refusal f = refused_words layer.Runner (unwrap_or (runner.number_of f) 0) (runner.name_of f)

-- the line of what a book refuses
abbrev pub book_refusal : BookFault → List (List ℕ)
book_refusal f = refused_words layer.Book (unwrap_or (book.number_of f) 0) (book.name_of f)

-- the line of a text that is no snapshot
abbrev pub snapshot_refusal : SnapshotFault → List (List ℕ)
snapshot_refusal f = refused_words layer.Snapshot (unwrap_or (snapshot.number_of f) 0) (snapshot.name_of f)
