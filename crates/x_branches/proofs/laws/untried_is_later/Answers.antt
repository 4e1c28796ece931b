use Rattle.x_branches.proofs.laws.untried_is_later.Goals as goal
use Rattle.x_branches.proofs.CutLemmas.{untried_is}

pub returns : goal.returns
returns c = record {
  cut = λ p s end f g level k h. (untried_is p s end f g level k h).cut;
  later = λ p s end f g level k h. (untried_is p s end f g level k h).later;
  before_end = λ p s end f g level k h. (untried_is p s end f g level k h).before_end;
}
