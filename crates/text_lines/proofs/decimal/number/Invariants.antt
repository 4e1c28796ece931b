use Rattle.std.proofs.Common.{◌≡◌, ◌≤◌, take}
use Rattle.text_lines.specs.Numbers.{value_after}
use Rattle.text_lines.proofs.decimal.number.Given as goal

-- the value of the digits so far
abbrev pub invariant-loop-byte : goal.invariant-loop-byte
invariant-loop-byte l = record { so_far : l.value ≡ value_after 0 (take l.byte-index l.word); within : l.value ≤ l.most }
