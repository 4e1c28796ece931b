use Rattle.std.proofs.Common.{arith, sym}
use Rattle.std.proofs.lemmas.Result.{err_from_is_err_and}
use Rattle.byte_streams.proofs.Transfer.{counts_none, counts_one, counts_more, stops_more, read_more, read_stops, read_within}
use Rattle.byte_streams.proofs.input.read_whole.Goals as goal

pub returns-in_err-count-clause-fault : goal.returns-in_err-count-clause-fault
returns-in_err-count-clause-fault g c =
    let p = err_from_is_err_and c.from_residual.result c.from_residual.ensures.1 in
    rw p.1 (rw p.2 (read_stops _ _ (g.S.Source.stream c.read_some.new.source) _ _ c.loop-chunk.invariant.read c.in_err-count.ensures.fault))

pub returns-in_err-count-clause-memory : goal.returns-in_err-count-clause-memory
returns-in_err-count-clause-memory g c =
    let p = err_from_is_err_and c.from_residual.result c.from_residual.ensures.1 in
    rw p.1 (rw p.2 (read_within _ _ (g.S.Source.stream c.read_some.new.source) _ _ c.loop-chunk.invariant.read c.in_err-count.ensures.fault))

pub returns-in_err-count-clause-stopped : goal.returns-in_err-count-clause-stopped
returns-in_err-count-clause-stopped g c =
    let p = err_from_is_err_and c.from_residual.result c.from_residual.ensures.1 in
    rw p.1 (rw p.2 (stops_more (g.S.Source.stream c.args.source.now) (g.S.Source.stream c.loop-chunk.source) (g.S.Source.stream c.read_some.new.source) _ c.loop-chunk.invariant.counted c.in_err-count.ensures.stopped))

pub returns-then-count-eq0-clause-end : goal.returns-then-count-eq0-clause-end
returns-then-count-eq0-clause-end g c = counts_more _ _ _ _ c.loop-chunk.invariant.counted (counts_none _ _ _ (rw (sym c.if-count-eq0.true) c.in_ok-count.ensures.once))

pub loop-chunk-preserved : goal.loop-chunk-preserved
loop-chunk-preserved g c = record {
  read = read_more _ _ _ _ _ c.loop-chunk.invariant.read c.in_ok-count.ensures.read c.in_ok-count.ensures.sound;
  counted = counts_more _ _ _ _ c.loop-chunk.invariant.counted (counts_one _ _ c.in_ok-count.count (omega (arith, c.if-count-eq0.false)) c.in_ok-count.ensures.once);
  within = c.in_ok-count.ensures.within;
  room = c.loop-chunk.invariant.room;
}
