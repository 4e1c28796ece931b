use Rattle.std.proofs.Common.{refl}
use Rattle.std.specs.Fmt.{digits}
use Rattle.polylab_engine.proofs.fault.pool_line.Goals as goal

pub returns-in-BadWorkerCount : goal.returns-in-BadWorkerCount
unfolding digits
returns-in-BadWorkerCount c = rw c.in-BadWorkerCount.is refl

pub returns-in-OutOfMemory : goal.returns-in-OutOfMemory
unfolding digits
returns-in-OutOfMemory c = rw c.in-OutOfMemory.is refl

pub returns-in-Held : goal.returns-in-Held
unfolding digits
returns-in-Held c = rw c.in-Held.is refl

pub returns-in-NoThread : goal.returns-in-NoThread
unfolding digits
returns-in-NoThread c = rw c.in-NoThread.is refl

pub returns-in-Mismatch : goal.returns-in-Mismatch
unfolding digits
returns-in-Mismatch c = rw c.in-Mismatch.is refl
