-- What the program does with an input: what it writes, or the line that refuses it.
--
-- Example: `items a`, `option z` is refused by `refused cover 3 UnknownItem line 2` (proofs/OutputExamples.antt).
use Rattle.std.specs.Prelude.{ℕ, ◌≡◌, ⊤, List, [], ◌∷◌, Result, Ok, Err, IsErrAnd, if◌then◌else◌, decimal, codes, unwrap_or}
use Rattle.std.specs.Global.{Vec}
use Rattle.text_lines.specs.Writing.{line_text}
use Rattle.cover_problem.specs.declared.fault.Fault.{Fault}
use Rattle.cover_problem.specs.Faults.{number_of, name_of}
use Rattle.cover_problem.specs.Problem.{ProblemValue, is_small}
use Rattle.cover_problem.specs.Reading.{problem_of}
use Rattle.polylab_engine.specs.declared.job.Job.{Job}
use Rattle.polylab_engine.specs.declared.job.Job.TheVariants as jobs
use Rattle.polylab_engine.specs.declared.job.CoverJob.{CoverJob}
use Rattle.polylab_engine.specs.declared.job.CoverJob.TheVariants as cover_jobs
use Rattle.polylab_engine.specs.declared.job.PuzzleJob.{PuzzleJob}
use Rattle.polylab_engine.specs.declared.job.PuzzleJob.TheVariants as puzzle_jobs
use Rattle.polylab_engine.specs.declared.job.TextKind.{TextKind}
use Rattle.polylab_engine.specs.declared.job.TextKind.TheVariants as kinds
use Rattle.polylab_engine.specs.declared.answer.NoText.{NoText}
use Rattle.polylab_engine.specs.declared.answer.NoText.TheVariants.{Refused}
use Rattle.polylab_engine.specs.declared.answer.NoText.TheVariants as no_texts
use Rattle.debug_script.specs.declared.fault.JobFault.TheVariants.{OutOfMemory}
use Rattle.poly_texts.specs.declared.fault.Fault as puzzle
use Rattle.poly_texts.specs.Faults as puzzle_faults
use Rattle.poly_texts.specs.Puzzle.{PuzzleValue}
use Rattle.poly_texts.specs.Reading.{puzzle_of}
use Rattle.poly_place.specs.Packings.{packing_problem}
use Rattle.lab_pool.specs.declared.fault.PoolFault.{PoolFault}
use Rattle.lab_pool.specs.Faults as pool_faults
use Rattle.polylab_engine.specs.Output.{cover_output, cover_count_output}
use Rattle.polylab_engine.specs.First.{first_cover_output, first_packings_output}
use Rattle.polylab_engine.specs.Packed.{solve_output, count_output, options_output}
use Rattle.polylab_engine.specs.Classified.{classes_output}
use Rattle.polylab_engine.specs.UpTo.{solve_up_to_output, count_up_to_output, options_up_to_output}
use Rattle.debug_script.specs.Input.{problem_text, command_lines}
use Rattle.polylab_engine.specs.Debugged.{debug_output}
use Rattle.x_snapshot.specs.declared.fault.SnapshotFault.{SnapshotFault}
use Rattle.x_snapshot.specs.Faults as snapshot_faults
use Rattle.x_snapshot.specs.Snapshot.{SnapshotValue}
use Rattle.x_snapshot.specs.Judged.{snapshot_of}
use Rattle.polylab_engine.specs.Resumed.{resume_output}
use Rattle.part_sums.specs.declared.fault.JoinFault.{JoinFault}
use Rattle.part_sums.specs.Faults as join_faults
use Rattle.part_sums.specs.Joining.{join_of}

-- the words of a refused text: what it was to be, the fault's number, its name, and the number of its line
abbrev pub refusal_words : List ℕ → ℕ → List ℕ → ℕ → List (List ℕ)
refusal_words text number name line = codes "refused" ∷ text ∷ decimal number ∷ name ∷ codes "line" ∷ decimal line ∷ []

-- the line that refuses a cover text
abbrev pub cover_refusal : Fault → ℕ → List ℕ
cover_refusal fault line = line_text (refusal_words (codes "cover") (number_of fault) (name_of fault) line)

-- the line that refuses a puzzle text
abbrev pub puzzle_refusal : puzzle.Fault → ℕ → List ℕ
puzzle_refusal fault line = line_text (refusal_words (codes "puzzle") (puzzle_faults.number_of fault) (puzzle_faults.name_of fault) line)

-- the line that refuses a puzzle with too many options
abbrev pub place_refusal : List ℕ
place_refusal = line_text (codes "refused" ∷ codes "place" ∷ codes "1" ∷ codes "TooManyOptions" ∷ [])

-- the line that refuses a text that is no snapshot; it names no line
abbrev pub snapshot_refusal : SnapshotFault → List ℕ
snapshot_refusal fault = line_text (codes "refused" ∷ codes "snapshot" ∷ decimal (unwrap_or (snapshot_faults.number_of fault) 0)
    ∷ snapshot_faults.name_of fault ∷ [])

-- the line that refuses a text of a whole and its parts
abbrev pub join_refusal : JoinFault → ℕ → List ℕ
join_refusal fault line = line_text (refusal_words (codes "join") (join_faults.number_of fault) (join_faults.name_of fault) line)

-- what is written of a problem, or the refusal of a text
abbrev pub covers_of : (ProblemValue → List ℕ) → Result ProblemValue (Fault × ℕ) → Result (List ℕ) (List ℕ)
covers_of output (Ok p) = Ok (output p)
covers_of output (Err f) = Err (cover_refusal f.0 f.1)

-- what is written of a puzzle whose problem is within the limits, or the refusal of a text or of a puzzle
abbrev pub packed_of : (PuzzleValue → List ℕ) → Result PuzzleValue (puzzle.Fault × ℕ) → Result (List ℕ) (List ℕ)
packed_of output (Ok p) = if is_small (packing_problem p) then Ok (output p) else Err place_refusal
packed_of output (Err f) = Err (puzzle_refusal f.0 f.1)

-- what is written of a snapshot, or the refusal of a text that is none
abbrev pub resumed_of : (SnapshotValue → List ℕ) → Result SnapshotValue SnapshotFault → Result (List ℕ) (List ℕ)
resumed_of output (Ok v) = Ok (output v)
resumed_of output (Err fault) = Err (snapshot_refusal fault)

-- the lines of a sum, or the refusal of a text
abbrev pub joined_of : Result (List ℕ) (JoinFault × ℕ) → Result (List ℕ) (List ℕ)
joined_of (Ok lines) = Ok lines
joined_of (Err f) = Err (join_refusal f.0 f.1)

-- what commands are answered over the problem of a puzzle
abbrev pub puzzle_replies : List (List ℕ) → PuzzleValue → List ℕ
puzzle_replies lines p = debug_output lines (packing_problem p)

-- what a job writes of a problem; the debugger answers these command lines
abbrev pub listing_of : CoverJob → List (List ℕ) → ProblemValue → List ℕ
listing_of cover_jobs.List lines = cover_output
listing_of cover_jobs.Count lines = cover_count_output
listing_of (cover_jobs.First n) lines = first_cover_output n
listing_of cover_jobs.Debug lines = debug_output lines

-- what a job writes of a puzzle
abbrev pub output_of : PuzzleJob → List (List ℕ) → PuzzleValue → List ℕ
output_of puzzle_jobs.Solve lines = solve_output
output_of (puzzle_jobs.First n) lines = first_packings_output n
output_of puzzle_jobs.Count lines = count_output
output_of puzzle_jobs.Classes lines = classes_output
output_of puzzle_jobs.Options lines = options_output
output_of (puzzle_jobs.SolveUpTo group) lines = solve_up_to_output group
output_of (puzzle_jobs.CountUpTo group) lines = count_up_to_output group
output_of (puzzle_jobs.OptionsUpTo group) lines = options_up_to_output group
output_of puzzle_jobs.Debug lines = puzzle_replies lines

-- what a job on a cover text writes for an input, or the line that refuses it: the debugger's commands follow the text
abbrev pub cover_outcome : CoverJob → List ℕ → Result (List ℕ) (List ℕ)
cover_outcome cover_jobs.Debug input = covers_of (debug_output (command_lines input)) (problem_of (problem_text input))
cover_outcome job input = covers_of (listing_of job []) (problem_of input)

-- what a job on a puzzle writes for an input, or the line that refuses it
abbrev pub puzzle_outcome : PuzzleJob → List ℕ → Result (List ℕ) (List ℕ)
puzzle_outcome puzzle_jobs.Debug input = packed_of (puzzle_replies (command_lines input)) (puzzle_of (problem_text input))
puzzle_outcome job input = packed_of (output_of job []) (puzzle_of input)

-- what `debug` writes for an input of this kind, or the line that refuses it
abbrev pub debug_outcome : TextKind → List ℕ → Result (List ℕ) (List ℕ)
debug_outcome kinds.Cover input = cover_outcome cover_jobs.Debug input
debug_outcome kinds.Puzzle input = puzzle_outcome puzzle_jobs.Debug input

-- what a job writes for an input, or the line that refuses it
unfoldable pub job_outcome : Job → List ℕ → Result (List ℕ) (List ℕ)
job_outcome (jobs.Cover job) input = cover_outcome job input
job_outcome (jobs.Puzzle job) input = puzzle_outcome job input
job_outcome (jobs.Resume steps list) input = resumed_of (resume_output steps list) (snapshot_of input)
job_outcome (jobs.Join counted) input = joined_of (join_of counted input)

-- what is to be written: the text, or nothing where the input is refused
abbrev pub to_write : Result (List ℕ) (List ℕ) → List ℕ
to_write (Ok text) = text
to_write (Err line) = []

-- the line that is told where memory ran out
abbrev pub no_memory : List ℕ
no_memory = line_text (codes "refused" ∷ codes "memory" ∷ [])

-- the line that is told where workers did not finish
abbrev pub pool_refusal : PoolFault → List ℕ
pool_refusal fault = line_text (codes "refused" ∷ codes "pool" ∷ decimal (pool_faults.number_of fault) ∷ pool_faults.name_of fault ∷ [])

-- the line that is told where the input isn't read: a read failed, or the input goes on past its limit
abbrev pub bad_reader : List ℕ
bad_reader = line_text (codes "refused" ∷ codes "input" ∷ [])

-- the line that is told where a write of the output failed
abbrev pub bad_writer : List ℕ
bad_writer = line_text (codes "refused" ∷ codes "output" ∷ [])

-- a call has this outcome, unless it can't be done
abbrev pub HasOutcome : Result (Vec ℕ) NoText → Result (List ℕ) (List ℕ) → Type 0
HasOutcome (Ok text) given = Ok text.items ≡ given
HasOutcome (Err (Refused line)) given = Err line.items ≡ given
HasOutcome (Err (no_texts.Fault fault)) given = ⊤

-- a call finds what was read, or answers the line that refuses it, unless it can't be done
abbrev pub Finds : {X F : Type 0} → Result X NoText → Result X F → (F → List ℕ) → Type 0
Finds (Ok x) read refusal = read ≡ Ok x
Finds (Err (Refused line)) read refusal = IsErrAnd read (λ fault. refusal fault ≡ line.items)
Finds (Err (no_texts.Fault fault)) read refusal = fault ≡ OutOfMemory

-- a puzzle whose problem is within the limits
abbrev pub packable : PuzzleValue → Result PuzzleValue (Unit {0})
packable p = if is_small (packing_problem p) then Ok p else Err tt
