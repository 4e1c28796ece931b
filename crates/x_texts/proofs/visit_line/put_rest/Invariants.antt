use Rattle.std.proofs.Common.{◌≡◌, take, length}
use Rattle.x_texts.specs.Ends.{IsVisitLine}
use Rattle.x_texts.proofs.EndLemmas.{line_end}
use Rattle.x_texts.proofs.visit_line.put_rest.Given as goal

-- the line of the choices so far is written, and they are kept
abbrev pub invariant-loop-place : goal.invariant-loop-place
invariant-loop-place l = record {
  line : IsVisitLine l.bytes l.ends (take l.place l.path);
  end : l.end ≡ line_end (take l.place l.path);
  kept : take l.place l.kept ≡ take l.place l.path;
  bytes_size : length l.bytes ≡ length l.fn.bytes;
  ends_size : length l.ends ≡ length l.fn.ends;
  kept_size : length l.kept ≡ length l.fn.kept;
}
