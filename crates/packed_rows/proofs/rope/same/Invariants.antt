use Rattle.std.proofs.Common.{◌≡◌, ◌++◌, [], length}
use Rattle.packed_rows.proofs.rope.same.Given as goal

abbrev pub invariant-comparing : goal.invariant-comparing
invariant-comparing l = record {
  yes : l.part ++ l.one ≡ l.other → l.fn.one ≡ l.fn.other;
  no : l.fn.one ≡ l.fn.other → l.part ++ l.one ≡ l.other;
  end : length l.part ≡ 0 → l.part ++ l.one ≡ [];
}

abbrev pub decreases-comparing : goal.decreases-comparing
decreases-comparing l = length (l.part ++ l.one)
