use Rattle.std.proofs.Common.{subst, append_assoc}
use Rattle.x_codes.specs.StateCode.{ReadsPath}
use Rattle.lab_history.specs.EntryCode.{call_code}
use Rattle.lab_history.proofs.CodeLemmas.{reads_split}
use Rattle.lab_history.proofs.code.writer.put_split.Goals as goal

pub returns-clause-code : goal.returns-clause-code
unfolding call_code
returns-clause-code c = rw (c.in_ok-put_path.ensures.code, c.in_ok-put_grant.ensures.code, c.in_ok-put-2.ensures.added, c.in_ok-put.ensures.added, c.flag.ensures, c.choices.ensures) (simp append_assoc)

pub returns-clause-reads : goal.returns-clause-reads
returns-clause-reads c = reads_split _ _ _ c.in_ok-put_grant.ensures.reads (subst ReadsPath c.choices.ensures c.in_ok-put_path.ensures.reads)
