use Rattle.std.proofs.Common.{◌≡◌, ◌+◌, drop, length}
use Rattle.cover_links.specs.Fresh.{nodes_appended}
use Rattle.cover_links.specs.Safety.{CanAppendNodes}
use Rattle.cover_links.proofs.build.append_option.Given as goal

abbrev pub invariant-loop-item : goal.invariant-loop-item
invariant-loop-item l = record {
  rest : nodes_appended l.block l.index l.start l.end (drop l.item-index l.option) ≡ nodes_appended l.initial.block l.start l.start l.end l.option;
  can : CanAppendNodes l.block l.index l.start l.end (drop l.item-index l.option);
  place : l.index ≡ l.start + l.item-index;
  size : length l.block ≡ length l.initial.block;
}
