-- The command line.
use Rattle.std.specs.Prelude.{ℕ, ◌==◌, ◌&&◌, not, Bool, string_bytes}
use Rattle.byte_streams.specs.Stream.{Stream, Stays, Takes}
use Rattle.polylab_engine.specs.Jobs.{takes_commands}
use Rattle.polylab_engine.specs.Outcome.{no_memory}
use Rattle.polylab_line.specs.declared.line.Request.{Request}
use Rattle.polylab_line.specs.declared.line.LineFault.{LineFault}
use Rattle.polylab_line.specs.declared.line.LineFault.TheVariants.{Help, Usage, OutOfMemory}

-- the exit status where the words of the command line name no job
abbrev pub status_of : LineFault → ℕ
status_of (Help text) = 0
status_of (Usage text) = 2
status_of OutOfMemory = 4

-- one worker does the job that is asked for, and no commands ask for more
abbrev pub is_alone : Request → Bool
is_alone asked = asked.workers == 1 && not (takes_commands asked.job)

-- what is told then: the writer takes a text of help, the faults take all else
abbrev pub IsTold : LineFault → Stream → Stream → Stream → Stream → Type 0
IsTold (Help text) w w' f f' = Takes w w' (string_bytes text) × Stays f f'
IsTold (Usage text) w w' f f' = Stays w w' × Takes f f' (string_bytes text)
IsTold OutOfMemory w w' f f' = Stays w w' × Takes f f' no_memory

-- the same of a writer and faults of whichever kinds, by what a contract sees of them
abbrev pub TellsNoJob : {O F : Type 0} → LineFault → (O → Stream) → (F → Stream) → O → O → F → F → Type 0
TellsNoJob fault shown told w w' f f' = IsTold fault (shown w) (shown w') (told f) (told f')
