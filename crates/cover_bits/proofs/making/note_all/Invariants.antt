use Rattle.std.proofs.Common.{◌≡◌, ℕ, ◌<◌, ◌+◌, ◌*◌, ◌&&◌, nat_lt, length}
use Rattle.shared_words.specs.Lists.{has}
use Rattle.cover_problem.specs.Problem.{option_at}
use Rattle.cover_bits.specs.Parts.{in_row}
use Rattle.cover_bits.proofs.making.note_all.Given as goal

abbrev pub invariant-loop-place : goal.invariant-loop-place
invariant-loop-place l = record {
  long : length l.columns ≡ length l.initial.columns;
  each : (i k : ℕ) → i < length l.problem.names → k < 64 * l.words → in_row l.columns (i * (64 * l.words) + k) ≡ (nat_lt k l.place && has (option_at l.problem (k + 1)) (i + 1));
}
