use Rattle.std.proofs.Common.{◌≡◌, below_more, sym, ◌∙◌}
use Rattle.lab_desk.specs.Seats.{seats_of}
use Rattle.lab_desk.proofs.desk.have_all_numbers.Goals as goal

pub counting-preserved : goal.counting-preserved
counting-preserved g c = below_more (λ j. seats_of j c.args.seats.now ≡ 1) _ c.counting.invariant (sym c.seats_of.ensures ∙ c.if-seats_of-ne1.false)
