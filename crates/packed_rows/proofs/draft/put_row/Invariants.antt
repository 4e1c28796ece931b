use Rattle.std.proofs.Common.{◌≡◌, ◌+◌, ◌*◌, ◌≤◌, ◌++◌, length, vec_len, vec_capacity}
use Rattle.packed_rows.specs.Pieces.{AreSpans, draft_bytes, Grows}
use Rattle.packed_rows.proofs.draft.put_row.Given as goal

abbrev pub invariant-putting : goal.invariant-putting
invariant-putting l = record {
  bytes : draft_bytes l.block.items l.places.items l.from ++ l.rest ≡ l.row;
  from : l.from ≤ length l.block.items;
  placed : AreSpans (length l.block.items) l.places.items;
  grows : Grows l.fn.block.items l.block.items;
  shorter : length l.rest ≤ length l.row;
  long : vec_len l.block + length l.rest ≤ vec_len l.fn.block + length l.row;
  few : vec_len l.places ≤ 4 * l.mark-index;
  capacity : vec_capacity l.fn.block ≤ vec_capacity l.block;
  places_capacity : vec_capacity l.places ≡ vec_capacity l.fn.places;
}
