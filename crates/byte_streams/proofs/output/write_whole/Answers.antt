use Rattle.std.proofs.Common.{rules}
use Rattle.byte_streams.proofs.Transfer.{counts_one, written_more, written_part}
use Rattle.byte_streams.proofs.output.write_whole.Goals as goal

pub loop-rest-preserved : goal.loop-rest-preserved
loop-rest-preserved g c =
    rw c.split_at.ensures.back (written_more _ _ _ _ _ _ c.loop-rest.invariant c.in-Ok.ensures.bytes c.in-Ok.ensures.sound
    (counts_one _ _ _ (c.in-Ok.ensures.some (search rules)) c.in-Ok.ensures.once))

pub returns-in_default-clause-part : goal.returns-in_default-clause-part
returns-in_default-clause-part g c =
    written_part _ _ (g.S.Sink.stream c.write.new.self) _ _ c.loop-rest.invariant c.in_default.ensures.bytes c.in_default.ensures.failed
