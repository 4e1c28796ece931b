use Rattle.std.proofs.Common.{◌≡◌, ◌++◌, take}
use Rattle.text_lines.specs.Writing.{text_of}
use Rattle.debug_acts.specs.Tiles.{open_lines}
use Rattle.debug_acts.proofs.tiles.write_open.Given as goal

-- the lines of the tiles so far are written
abbrev pub invariant-loop-tile : goal.invariant-loop-tile
invariant-loop-tile l = l.text.items ≡ l.fn.text.items ++ text_of (open_lines (take l.tile-index l.tiles))
