use Rattle.std.proofs.Common.{sym, ◌∙◌}
use Rattle.debug_acts.proofs.LineLemmas.{done_told, refused_told}
use Rattle.debug_acts.proofs.answer.ask.Goals as goal

pub returns-then-done-clause-text : goal.returns-then-done-clause-text
returns-then-done-clause-text g c =
    done_told c.args.book.now c.take_turn.new.book c.args.seat.now c.take_turn.new.seat c.args.act.now c.in_ok-reply.reply c.in_ok-reply.ensures.turned
    c.args.told.now c.tell.result c.args.text.now.items c.write_refusal.new.text.items c.tell.new.text.items
    (sym c.in_ok-done.ensures.done ∙ c.if-done.true) c.in_ok-done.ensures.text c.tell.ensures

pub returns-clause-text : goal.returns-clause-text
returns-clause-text g c =
    refused_told c.args.book.now c.take_turn.new.book c.args.seat.now c.take_turn.new.seat c.args.act.now c.in_ok-reply.reply c.in_ok-reply.ensures.turned
    c.args.told.now c.args.text.now.items c.write_refusal.new.text.items
    (sym c.in_ok-done.ensures.done ∙ c.if-done.false) c.in_ok-done.ensures.text
