use Rattle.std.proofs.Common.{◌∙◌, ap, length}
use Rattle.lab_desk.specs.Record.{notes_of, shifted}
use Rattle.lab_desk.proofs.DeskLemmas.{at_opening}
use Rattle.lab_desk.proofs.locked.agree.Goals as goal

pub returns-clause-agreed : goal.returns-clause-agreed
returns-clause-agreed g c = rw (← c.seat.view_is)
    (ap (shifted (length g.L.Desking.opening)) c.agree.ensures.agreed
    ∙ at_opening c.seat.inside.part.number (length g.L.Desking.opening) c.args.keeper.now.all
    ∙ ap (λ k. notes_of k (length g.L.Desking.opening) c.args.keeper.now.all) c.seat.inside.same)
