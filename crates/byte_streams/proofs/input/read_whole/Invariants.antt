use Rattle.std.proofs.Common.{◌-◌, ◌<◌, ◌≤◌, vec_len}
use Rattle.byte_streams.specs.declared.input.TheConstants.{MOST_INPUT}
use Rattle.byte_streams.specs.Stream.{CountsAlone}
use Rattle.byte_streams.proofs.Transfer.{IsRead}
use Rattle.byte_streams.proofs.input.read_whole.Given as goal

abbrev pub invariant-loop-chunk : goal.invariant-loop-chunk
invariant-loop-chunk g l = record {
  read : IsRead (g.S.Source.stream l.fn.source) (g.S.Source.stream l.source) l.text.items;
  counted : CountsAlone (g.S.Source.stream l.fn.source) (g.S.Source.stream l.source);
  within : vec_len l.text ≤ MOST_INPUT;
  room : 0 < vec_len l.chunk;
}

abbrev pub decreases-loop-chunk : goal.decreases-loop-chunk
decreases-loop-chunk g l = MOST_INPUT - vec_len l.text
