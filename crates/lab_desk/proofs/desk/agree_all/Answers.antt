use Rattle.std.proofs.Common.{◌≡◌, ◌∙◌, ◌<◌, ◌+◌, ℕ, Some, set, subst, sym, ap, length, arith}
use Rattle.std.specs.Prelude.{slice_get}
use Rattle.std.proofs.lemmas.List.{set-get_or}
use Rattle.lab_desk.specs.Record.{SeatValue, notes_of}
use Rattle.lab_desk.proofs.NewSeatLemmas.{agreed_more, some_below}
use Rattle.lab_desk.proofs.desk.agree_all.Goals as goal

pub agreeing-preserved : goal.agreeing-preserved
agreeing-preserved g c =
    let i = c.agreeing.invariant in
    let e = c.agree.ensures in
    let same : set c.agreeing.seats c.agreeing.k c.agree.new.seat ≡ c.agreeing.seats =
    ap (set c.agreeing.seats c.agreeing.k) e.seat ∙ set-get_or c.agreeing.seats c.agreeing.k c.index-seats-k.result in (
      same ∙ i.0,
      ap (λ k. k.all) e.keeper ∙ i.1,
      subst (λ xs. (j : ℕ) (s : SeatValue) → j < c.agreeing.k + 1 → slice_get xs j ≡ Some s → s.notes ≡ notes_of s.number (length g.L.Desking.opening) c.args.keeper.now.all) (sym same)
          (agreed_more (length g.L.Desking.opening) _ c.agreeing.seats c.agreeing.k c.index-seats-k.result
          (e.agreed ∙ ap (notes_of _ (length g.L.Desking.opening)) i.1) i.2),
    )

pub returns : goal.returns
returns g c = λ j s at.
    let i = c.agreeing.invariant in
    let b = some_below c.args.seats.now j s at in
    let long = ap length i.0 in
    let stop = c.agreeing-test.false in
    i.2 j s (omega arith) (ap (λ xs. slice_get xs j) i.0 ∙ at)
