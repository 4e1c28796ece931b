use Rattle.std.proofs.Common.{◌≡◌, ◌∙◌, length, ap, subst, arith}
use Rattle.std.specs.Prelude.{slice_get}
use Rattle.lab_desk.specs.Record.{notes_of}
use Rattle.lab_desk.specs.Seats.{DeskValue, seats_of}
use Rattle.lab_desk.proofs.desk.Desk.finish.Goals as goal

pub returns-clause-all_there : goal.returns-clause-all_there
returns-clause-all_there g c = λ k below.
    let number = ap (λ (d : DeskValue). d.seats) c.self.view_is in
    let items : c.deref.result.now ≡ c.args.seats.items = cc in
    let all = c.are_all_seats.ensures.0 c.if-not-are_all_seats.false in
    subst (λ xs. seats_of k xs ≡ 1) items (all.numbers k (omega (arith, number, below)))

pub returns-clause-notes : goal.returns-clause-notes
returns-clause-notes g c = λ i s at.
    let items : c.as_mut_slice.result.now ≡ c.args.seats.items = cc in
    c.agree_all.ensures i s (ap (λ xs. slice_get xs i) items ∙ at)
    ∙ ap (notes_of s.number (length g.L.Desking.opening)) c.into_inner-book.result.known
