use Rattle.std.proofs.Common.{◌≡◌}
use Rattle.cover_links.specs.Hiding.{nodes_hidden, hidden}
use Rattle.cover_links.specs.Safety.{CanHideNodes}
use Rattle.cover_links.proofs.TurnLemmas.{Goes, turns_left}
use Rattle.cover_links.proofs.hiding.hide.Given as goal

abbrev pub invariant-loop-base : goal.invariant-loop-base
invariant-loop-base l = record {
  place : l.row.place ≡ l.initial.row.place;
  goes : Goes nodes_hidden CanHideNodes (hidden l.initial.row.entries l.index) l.initial.row.entries l.row.entries l.index l.node;
}

abbrev pub decreases-loop-base : goal.decreases-loop-base
decreases-loop-base l = turns_left l.initial.row.entries l.index l.node
