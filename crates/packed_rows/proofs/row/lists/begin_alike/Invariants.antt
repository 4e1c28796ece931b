use Rattle.std.proofs.Common.{◌≡◌, take}
use Rattle.packed_rows.proofs.row.lists.begin_alike.Given as goal

abbrev pub invariant-comparing : goal.invariant-comparing
invariant-comparing l = take l.place l.one ≡ take l.place l.other
