-- How a lease is ended: by which call (`call_of_end`), and whether its tile stays at its mark (`is_at_mark`): then the book needs
-- no memory to end the tile's current lease.
--
-- Example: a worker that parks ends its lease by a park, at the tile's mark; one that closes doesn't. proofs/HistoryExamples.antt computes it.
use Rattle.std.specs.Prelude.{Bool, true, false}
use Rattle.lab_history.specs.declared.grant.Grant.{Grant}
use Rattle.lab_history.specs.declared.entry.Call.{Call}
use Rattle.lab_history.specs.declared.entry.Call.TheVariants as call
use Rattle.lab_history.specs.declared.ending.Ending.{Ending}
use Rattle.lab_history.specs.declared.ending.Ending.TheVariants as ending

-- the call by which a lease is ended so
abbrev pub call_of_end : Ending → Grant → Call
call_of_end ending.Park g = call.Park g
call_of_end ending.Abandon g = call.Abandon g
call_of_end ending.Close g = call.Close g

-- whether the tile stays at its mark: it is parked or abandoned
abbrev pub is_at_mark : Ending → Bool
is_at_mark ending.Close = false
is_at_mark e = true
