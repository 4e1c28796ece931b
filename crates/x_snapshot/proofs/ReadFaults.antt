-- Which fault a text has that says what is on no run.
use Rattle.std.proofs.Common.{◌≡◌, inr, ℕ, List, true≢false, Ok, sym, ◌∙◌}
use Rattle.x_snapshot.specs.declared.fault.SnapshotFault.{SnapshotFault}
use Rattle.x_snapshot.specs.declared.fault.SnapshotFault.TheVariants.{NotOnRun, OutsideBranch, BadBreak, OutOfMemory}
use Rattle.x_snapshot.specs.Snapshot.{SnapshotValue}
use Rattle.x_snapshot.specs.Refusals.{IsRefused}
use Rattle.x_snapshot.specs.Reader.{parts_of}
use Rattle.x_snapshot.specs.ReadRefusals.{IsReadRefused}
use Rattle.x_snapshot.proofs.WholeBack.{parts_back}

pub refused_read : (text : List ℕ) (v : SnapshotValue) → parts_of text ≡ Ok v → (fault : SnapshotFault) → IsRefused v fault → IsReadRefused text fault
refused_read text v h NotOnRun r = inr (v, h, r.1)
refused_read text v h OutsideBranch r = inr (v, h, r.1)
refused_read text v h BadBreak r = absurd (true≢false (sym (parts_back text v h).breaks ∙ r))
refused_read text v h OutOfMemory r = tt
refused_read text v h _ r = absurd r
