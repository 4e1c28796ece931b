use Rattle.std.proofs.Common.{◌≡◌, ◌-◌, drop, replicate}
use Rattle.poly_place.specs.FormTables.{firsts_from}
use Rattle.poly_place.proofs.forms.firsts.Given as goal

-- where the last numbers stand is noted
abbrev pub invariant-loop-k : goal.invariant-loop-k
invariant-loop-k l = l.table.items ≡ firsts_from (l.count - l.k) (drop (l.count - l.k) l.numbers) (replicate l.size 0)
