use Rattle.debug_script.proofs.RawLemmas.{cut_ended, cut_last}
use Rattle.debug_script.proofs.input.raw_line.Goals as goal

pub returns-in-Some-clause-lines : goal.returns-in-Some-clause-lines
returns-in-Some-clause-lines c = cut_ended _ _ _ _ _ c.in-Some.ensures.some c.in-Some.ensures.first c.split_at.ensures.front c.split_at.ensures.back

pub returns-in-None-clause-lines : goal.returns-in-None-clause-lines
returns-in-None-clause-lines c = cut_last _ _ _ c.requires c.in-None.ensures.none c.split_at-in-None.ensures.front c.split_at-in-None.ensures.back
