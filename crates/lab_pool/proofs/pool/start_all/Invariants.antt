use Rattle.std.proofs.Common.{◌≡◌, ◌<◌, ◌+◌, ◌≤◌, length, true, false}
use Rattle.std.specs.Prelude.{vec_len, vec_capacity}
use Rattle.std.specs.Slice.Iter.{iter_mut_rest}
use Rattle.std.specs.Iterator.Adapters.{zip_first, zip_second}
use Rattle.lab_pool.proofs.pool.start_all.Given as goal

abbrev pub invariant-starting : goal.invariant-starting
invariant-starting g l = (length l.yielded + length (iter_mut_rest (zip_first l.seat-iterator)) + 1 ≡ length l.fn.seats)
    × (length l.yielded + length (iter_mut_rest (zip_second l.seat-iterator)) + 1 ≡ length l.fn.lanes)
    × (length l.fn.seats ≤ vec_capacity l.threads + 1)
    × (l.refused ≡ false → vec_len l.threads ≡ length l.yielded)
    × (l.refused ≡ true → vec_len l.threads < length l.yielded)
