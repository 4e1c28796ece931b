-- The number (`number_of`) and the name (`name_of`) of each refusal of a pool.
--
-- Example: `Held` has the number 3 and its own name. proofs/PoolExamples.antt computes it.
use Rattle.std.specs.Prelude.{ℕ, List, codes}
use Rattle.lab_pool.specs.declared.fault.PoolFault.{PoolFault}
use Rattle.lab_pool.specs.declared.fault.PoolFault.TheVariants.{BadWorkerCount, OutOfMemory, Held, NoThread, Mismatch}

-- the number of a refusal
abbrev pub number_of : PoolFault → ℕ
number_of BadWorkerCount = 1
number_of OutOfMemory = 2
number_of Held = 3
number_of NoThread = 4
number_of Mismatch = 5

-- its name
abbrev pub name_of : PoolFault → List ℕ
name_of BadWorkerCount = codes "BadWorkerCount"
name_of OutOfMemory = codes "OutOfMemory"
name_of Held = codes "Held"
name_of NoThread = codes "NoThread"
name_of Mismatch = codes "Mismatch"
