use Rattle.byte_streams.proofs.laws.silence_is_no_failure.Goals as goal
use Rattle.byte_streams.proofs.LawLemmas.{no_failure, not_failed}

pub returns : goal.returns
returns c = record { answers = no_failure; part = λ s text n e appends failed. not_failed s e failed }
