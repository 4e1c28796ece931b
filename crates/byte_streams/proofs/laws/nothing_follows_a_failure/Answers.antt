use Rattle.byte_streams.proofs.laws.nothing_follows_a_failure.Goals as goal
use Rattle.byte_streams.proofs.LawLemmas.{last_failure}

pub returns : goal.returns
returns c = last_failure
