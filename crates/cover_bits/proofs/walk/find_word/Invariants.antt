use Rattle.std.proofs.Common.{◌≡◌, ◌<◌, ◌-◌, ◌*◌, ◌^◌, ℕ, length}
use Rattle.cover_bits.specs.Parts.{to_come}
use Rattle.cover_bits.proofs.walk.find_word.Given as goal

abbrev pub invariant-loop-rest : goal.invariant-loop-rest
invariant-loop-rest l =
    (l.rest.place < length l.row) × (l.rest.word < 2 ^ 64) × (l.rest.first ≡ 64 * l.rest.place) × ((k : ℕ) → to_come l.row l.rest k ≡ to_come l.row l.initial.rest k)

abbrev pub decreases-loop-rest : goal.decreases-loop-rest
decreases-loop-rest l = length l.row - l.rest.place
