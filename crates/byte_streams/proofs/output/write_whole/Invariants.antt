use Rattle.std.proofs.Common.{length}
use Rattle.byte_streams.proofs.Transfer.{IsWritten}
use Rattle.byte_streams.proofs.output.write_whole.Given as goal

abbrev pub invariant-loop-rest : goal.invariant-loop-rest
invariant-loop-rest g l = IsWritten (g.S.Sink.stream l.fn.sink) (g.S.Sink.stream l.sink) l.text l.rest

abbrev pub decreases-loop-rest : goal.decreases-loop-rest
decreases-loop-rest g l = length l.rest
