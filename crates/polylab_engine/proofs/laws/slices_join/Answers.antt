use Rattle.std.proofs.Common.{ap, ◌∙◌}
use Rattle.polylab_engine.specs.Stretch.{stretch_report}
use Rattle.polylab_engine.proofs.JoinedLemmas as of
use Rattle.polylab_engine.proofs.laws.slices_join.Goals as goal

pub returns : goal.returns
returns c = record {
  sum = of.slices_join;
  whole = λ keeps v s mosts e. of.slices_join keeps v s mosts ∙ ap (stretch_report keeps v.problem v.state) e;
  snapshot = λ most v s. (of.slice_goes_on most v s).0;
  read = λ most v s. (of.slice_goes_on most v s).1;
}
