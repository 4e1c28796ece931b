use Rattle.std.proofs.Common.{arith, length-take}
use Rattle.byte_streams.proofs.Transfer.{counts_one, err_holds}
use Rattle.byte_streams.proofs.input.read_some.Goals as goal

pub returns-then-count-len-clause-stopped : goal.returns-then-count-len-clause-stopped
returns-then-count-len-clause-stopped g c = counts_one _ _ c.in-Ok.count (omega (arith, c.if-count-len.true)) c.in-Ok.ensures.once

pub returns-then-is_err-clause-stopped : goal.returns-then-is_err-clause-stopped
returns-then-is_err-clause-stopped g c = counts_one _ _ c.in-Ok.count (omega (arith, length-take c.in-Ok.count c.read.new.chunk, c.args.text.now.ok, err_holds _ _ c.if-is_err.ensures.value c.extend_from_slice.ensures.full)) c.in-Ok.ensures.once
