-- Kinds of calls: `kind_of` is what a call asks for, without its arguments.
--
-- Example: the call that leases the tile 3 is of the kind `Lease`. proofs/HistoryExamples.antt computes it.
use Rattle.lab_history.specs.declared.entry.Call.{Call}
use Rattle.lab_history.specs.declared.entry.Call.TheVariants as call
use Rattle.lab_history.specs.declared.kind.CallKind.{CallKind}
use Rattle.lab_history.specs.declared.kind.CallKind.TheVariants as kind

-- what a call asks for
abbrev pub kind_of : Call → CallKind
kind_of (call.Lease id) = kind.Lease
kind_of call.LeaseAny = kind.LeaseAny
kind_of (call.TakeHeld id) = kind.TakeHeld
kind_of (call.Post g from to same) = kind.Post
kind_of (call.Split g path same) = kind.Split
kind_of (call.Retract g) = kind.Retract
kind_of (call.Park g) = kind.Park
kind_of (call.Abandon g) = kind.Abandon
kind_of (call.Close g) = kind.Close
kind_of (call.PutBack id s) = kind.PutBack
kind_of (call.RequestStop id) = kind.RequestStop
