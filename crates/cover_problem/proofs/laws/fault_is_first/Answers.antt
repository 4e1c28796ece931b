use Rattle.cover_problem.proofs.FirstFaultLemmas.{first_fault, from_first_fault, whole_fault, from_whole_fault}
use Rattle.cover_problem.proofs.laws.fault_is_first.Goals as goal

pub returns : goal.returns
returns c = record {
  line = λ text f n some. (first_fault text f n some, from_first_fault text f n);
  whole = λ text f. (whole_fault text f, from_whole_fault text f);
}
