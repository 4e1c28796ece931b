use Rattle.std.proofs.Common.{sym, ◌∙◌}
use Rattle.x_snapshot.proofs.WholeBack.{parts_back}
use Rattle.x_snapshot.proofs.laws.text_has_one_spelling.Goals as goal

pub returns : goal.returns
returns c = record {
  written = λ text v h. (parts_back text v h).text_is;
  same = λ one other v h k. (parts_back one v h).text_is ∙ sym (parts_back other v k).text_is;
  problem = λ text v h. (parts_back text v h).problem;
  breaks = λ text v h. (parts_back text v h).breaks;
}
