use Rattle.std.proofs.Common.{append_assoc, arith}
use Rattle.x_codes.specs.StateCode.{state_code}
use Rattle.x_codes.proofs.StateLemmas.{reads_state}
use Rattle.x_codes.proofs.writing.put_parts.Goals as goal

pub returns-clause-code : goal.returns-clause-code
unfolding state_code
returns-clause-code c = rw (c.in_ok-put_path.ensures.code, c.in_ok-put-3.ensures.added, c.in_ok-put-2.ensures.added, c.in_ok-put.ensures.added, c.label_number.ensures, c.cursor_kind.ensures, c.cursor_choice-choice.ensures) (simp append_assoc)

pub returns-clause-reads : goal.returns-clause-reads
returns-clause-reads c = reads_state _ (omega (arith, c.cursor_choice-choice.type_inv, c.cursor_choice-choice.ensures)) c.in_ok-put_path.ensures.reads
