use Rattle.std.proofs.Common.{◌≡◌, ◌-◌}
use Rattle.cover_links.specs.Hiding.{list_unhidden, item_uncovered}
use Rattle.cover_links.specs.Safety.{CanUnhideList}
use Rattle.cover_links.proofs.ListTurns.{Left}
use Rattle.cover_links.proofs.hiding.uncover_in.Given as goal

abbrev pub invariant-loop : goal.invariant-loop
invariant-loop l = record {
  place : l.row.place ≡ l.fn.row.place;
  left : Left list_unhidden CanUnhideList (item_uncovered l.fn.row.entries l.fn.item) l.row.entries l.node (l.end - l.counter);
}
