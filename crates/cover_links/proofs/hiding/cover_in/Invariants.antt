use Rattle.std.proofs.Common.{◌≡◌, ◌-◌}
use Rattle.cover_links.specs.Hiding.{list_hidden, options_hidden}
use Rattle.cover_links.specs.Safety.{CanHideList}
use Rattle.cover_links.proofs.ListTurns.{Left}
use Rattle.cover_links.proofs.hiding.cover_in.Given as goal

abbrev pub invariant-loop : goal.invariant-loop
invariant-loop l = record {
  place : l.row.place ≡ l.fn.row.place;
  left : Left list_hidden CanHideList (options_hidden l.fn.row.entries l.item) l.row.entries l.node (l.end - l.counter);
}
