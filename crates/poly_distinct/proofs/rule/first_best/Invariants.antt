use Rattle.std.specs.List.{IsFirstBest}
use Rattle.poly_distinct.specs.Rule.{better_by}
use Rattle.poly_distinct.proofs.rule.first_best.Given as goal

-- the first so far that keeps the fewest, or the most
abbrev pub invariant-loop-k : goal.invariant-loop-k
invariant-loop-k l = IsFirstBest (better_by l.most) l.tallies l.k l.best
