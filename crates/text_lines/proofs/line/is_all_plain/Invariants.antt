use Rattle.std.proofs.Common.{◌≡◌, ◌&&◌, drop}
use Rattle.std.specs.List.{list_all}
use Rattle.text_lines.specs.Lines.{is_plain}
use Rattle.text_lines.proofs.line.is_all_plain.Given as goal

-- the bytes so far are plain, and so are those left, where all bytes are
abbrev pub invariant-loop-byte : goal.invariant-loop-byte
invariant-loop-byte l = (l.all && list_all is_plain (drop l.byte-index l.said)) ≡ list_all is_plain l.said
