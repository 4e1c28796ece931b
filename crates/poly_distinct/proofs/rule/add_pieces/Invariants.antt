use Rattle.std.proofs.Common.{◌≡◌, ◌++◌, map, filter, take}
use Rattle.poly_distinct.specs.Rule.{leaves_out, anchor_tally}
use Rattle.poly_distinct.proofs.rule.add_pieces.Given as goal

-- the tallies so far at which something is left out are added
abbrev pub invariant-loop-anchor : goal.invariant-loop-anchor
invariant-loop-anchor l =
    l.tallies.items ≡ l.initial.tallies.items ++ filter leaves_out (map (anchor_tally l.compiled l.all.group) (take l.anchor-index l.anchor-items))
