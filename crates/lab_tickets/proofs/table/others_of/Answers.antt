use Rattle.std.proofs.Common.{rules, ap, ◌∙◌, sym}
use Rattle.std.proofs.lemmas.List.{get_or-map, length-map}
use Rattle.lab_tickets.specs.TicketView.{deque_of}
use Rattle.lab_tickets.proofs.CountLemmas.{added, kept, source_added, source_kept}
use Rattle.lab_tickets.proofs.table.others_of.Goals as goal
use Rattle.lab_tickets.proofs.table.others_of.Goals.{then-j-number+in_ok-other+in_ok-push, else-j-number}

pub loop-j-preserved : goal.loop-j-preserved
loop-j-preserved c = elim c.if-j-number.branch [
  | then-j-number+in_ok-other+in_ok-push w ↦ (
    added c.loop-j.others.items c.if-j-number.others.items w.in_ok-other.other c.args.number c.loop-j.j c.loop-j.invariant.0 (search rules) w.in_ok-other.ensures.untouched (search rules),
    source_added c.loop-j.others.items c.if-j-number.others.items w.in_ok-other.other c.args.number c.loop-j.j c.args.seats.now.items (0, 0) c.loop-j.invariant.1 (search rules) (w.in_ok-other.ensures.deque ∙ ap deque_of w.index.ensures ∙ sym (get_or-map deque_of c.args.seats.now.items c.loop-j.j w.index.result.now (0, 0) (search rules))) (rw (length-map c.args.seats.now.items deque_of) (search rules)) (search rules),
  )
  | else-j-number w ↦ (
    kept c.loop-j.others.items c.if-j-number.others.items c.args.number c.loop-j.j c.loop-j.invariant.0 (search rules) (search rules),
    source_kept c.loop-j.others.items c.if-j-number.others.items c.args.number c.loop-j.j c.args.seats.now.items c.loop-j.invariant.1 (search rules) (search rules),
  )
]
