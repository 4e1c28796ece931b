use Rattle.part_sums.proofs.TakingLemmas.{answer_refused, next_shorter}
use Rattle.part_sums.proofs.parts.Joining.take_part.Goals as goal

pub returns-in-Err-part_answer_in-clause-refused : goal.returns-in-Err-part_answer_in-clause-refused
returns-in-Err-part_answer_in-clause-refused c =
    rw c.in_line-in-Err-part_answer_in.ensures
    (answer_refused c.args.head.now c.args.self.now c.args.text.now c.args.rest.now c.in-Ok.next.0 c.in-Ok.next.1.now c.line_of-in-Err-part_answer_in.result c.in-Err-part_answer_in.refusal c.in-Ok.ensures.next c.line_of-in-Err-part_answer_in.ensures c.in-Err-part_answer_in.ensures)

pub returns-clause-shorter : goal.returns-clause-shorter
returns-clause-shorter c =
    next_shorter c.args.head.now c.args.self.now c.args.rest.now c.in-Ok.next.0 c.in-Ok.next.1.now _ c.in-Ok-part_answer_in.next.1.now c.in-Ok.ensures.next c.in-Ok-part_answer_in.ensures
