use Rattle.std.proofs.Common.{sym, ◌∙◌}
use Rattle.std.proofs.lemmas.Bool.{false≢true}
use Rattle.polylab_engine.proofs.laws.what_failed_is_not_written.Goals as goal

pub returns : goal.returns
returns c = λ job r r' w w' sound failed end. false≢true (sym sound ∙ sym end.1.2.1 ∙ failed)
