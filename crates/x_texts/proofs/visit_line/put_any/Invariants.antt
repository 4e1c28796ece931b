use Rattle.std.proofs.Common.{◌≡◌, ◌+◌, ◌++◌, ◌∷◌, take, length}
use Rattle.x_texts.proofs.visit_line.put_any.Given as goal

-- a space and the bytes so far are written
abbrev pub invariant-loop-byte : goal.invariant-loop-byte
invariant-loop-byte l = record {
  written : take l.end l.bytes ≡ take l.at l.fn.bytes ++ 32 ∷ take l.byte-index l.word;
  end : l.end ≡ l.at + 1 + l.byte-index;
  size : length l.bytes ≡ length l.fn.bytes;
}
