use Rattle.std.proofs.Common.{◌≡◌, ◌+◌, ◌*◌, ◌≤◌, ◌++◌, take, vec_len, vec_capacity}
use Rattle.std.specs.List.{flat_map}
use Rattle.packed_rows.specs.Numbers.{bytes_of}
use Rattle.packed_rows.proofs.row.put_words.Given as goal

abbrev pub invariant-putting : goal.invariant-putting
invariant-putting l = record {
  items : l.bytes.items ≡ l.fn.bytes.items ++ flat_map bytes_of (take l.n-index l.list);
  long : vec_len l.bytes ≤ vec_len l.fn.bytes + 5 * l.n-index;
  capacity : vec_capacity l.bytes ≡ vec_capacity l.fn.bytes;
}
