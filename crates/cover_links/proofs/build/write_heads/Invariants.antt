use Rattle.std.proofs.Common.{◌≡◌, ◌-◌, length}
use Rattle.cover_links.specs.Fresh.{heads_written}
use Rattle.cover_links.proofs.build.write_heads.Given as goal

abbrev pub invariant-loop-item : goal.invariant-loop-item
invariant-loop-item l = record { so_far : l.block ≡ heads_written l.fn.block l.primary (l.item - 1); size : length l.block ≡ length l.fn.block }
