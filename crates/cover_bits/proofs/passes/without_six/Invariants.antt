use Rattle.std.proofs.Common.{◌≡◌, ◌≤◌, take, length}
use Rattle.cover_bits.proofs.PassLemmas.{six_words, without_words}
use Rattle.cover_bits.proofs.passes.without_six.Given as goal

abbrev pub invariant-loop-part : goal.invariant-loop-part
invariant-loop-part l = record {
  long : length l.into ≡ length l.initial.into;
  few : l.kept ≤ l.part-index;
  parts : take l.kept l.into ≡ without_words (six_words l.first l.second l.third l.fourth l.fifth l.sixth) (take l.part-index l.parts);
}
