-- Why command lines are not all answered.
--
-- Example: a search by 33 workers is refused for their number, and for nothing else; one by 32 is not. Commands name 1 to 32 workers, so they
-- never end for the number; and without a line that asks for workers they never end for a fault of workers. proofs/RefusalExamples.antt
-- shows it.
use Rattle.std.specs.Prelude.{ℕ, ◌≡◌, ◌↔◌, ⊤, Bool, true, false, List, Option, Some}
use Rattle.std.specs.List.{list_any}
use Rattle.lab_pool.specs.declared.fault.PoolFault.{PoolFault}
use Rattle.lab_pool.specs.declared.fault.PoolFault.TheVariants.{BadWorkerCount, Held}
use Rattle.lab_pool.specs.Pool.{IsBadCount}
use Rattle.debug_script.specs.declared.fault.JobFault.{JobFault}
use Rattle.debug_script.specs.declared.fault.JobFault.TheVariants as faults
use Rattle.debug_language.specs.declared.engine.EngineCommand.{EngineCommand}
use Rattle.debug_language.specs.declared.engine.EngineCommand.TheVariants as engine
use Rattle.debug_language.specs.Reader.{engine_command_of}
use Rattle.debug_script.specs.Input.{without_newline}

-- a search by so many workers may be refused with this fault: for their number exactly where that isn't 1 to 32, and never for a held tile
pub record MayRefuse (count : ℕ) (fault : PoolFault) : Type 0 where
  pub number : fault ≡ BadWorkerCount ↔ IsBadCount count
  pub not_held : fault ≡ Held → ⊥

-- a search that commands ask for may be refused with this fault: not for the number of workers, and not for a held tile, which the text tells
pub record MayEnd (fault : PoolFault) : Type 0 where
  pub not_number : fault ≡ BadWorkerCount → ⊥
  pub not_held : fault ≡ Held → ⊥

-- memory ran out, or a search was refused with a fault that may be
abbrev pub IsWantOrPool : (PoolFault → Type 0) → JobFault → Type 0
IsWantOrPool May faults.OutOfMemory = ⊤
IsWantOrPool May (faults.Pool fault) = May fault

-- a command asks for a search by workers
abbrev pub asks_for_workers : Option EngineCommand → Bool
asks_for_workers (Some (engine.Pool n)) = true
asks_for_workers _ = false

-- one of these raw lines is such a command
abbrev pub has_pool : List (List ℕ) → Bool
has_pool lines = list_any (λ raw. asks_for_workers (engine_command_of (without_newline raw))) lines

-- memory ran out, or one of these raw lines asks for the workers whose fault it is
abbrev pub IsWantOrAsked : List (List ℕ) → JobFault → Type 0
IsWantOrAsked lines faults.OutOfMemory = ⊤
IsWantOrAsked lines (faults.Pool fault) = has_pool lines ≡ true
