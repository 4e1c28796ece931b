use Rattle.std.proofs.Common.{subst, append_assoc}
use Rattle.x_codes.specs.StateCode.{ReadsPath}
use Rattle.lab_history.specs.EntryCode.{cut_code}
use Rattle.lab_history.proofs.CodeLemmas.{reads_some}
use Rattle.lab_history.proofs.code.writer.put_some.Goals as goal

pub returns-clause-code : goal.returns-clause-code
unfolding cut_code
returns-clause-code c = rw (c.in_ok-put_path.ensures.code, c.in_ok-put.ensures.added, c.choices.ensures) (simp append_assoc)

pub returns-clause-reads : goal.returns-clause-reads
returns-clause-reads c = reads_some _ (subst ReadsPath c.choices.ensures c.in_ok-put_path.ensures.reads)
