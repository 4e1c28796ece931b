use Rattle.std.proofs.Common.{◌≡◌, ◌+◌, ◌-◌, ◌∙◌, sym, arith}
use Rattle.x_steps.specs.StateView.{state_value}
use Rattle.lab_book.proofs.TileLemmas.{tested, at_place, mark_found}
use Rattle.lab_book.proofs.MarkLemmas.{sought_none, mark_test, sought_here, sought_on, sought_then, sought_all, sought_within}
use Rattle.lab_book.proofs.tile.mark_place.Goals as goal
use Rattle.lab_book.proofs.tile.mark_place.Goals.{then-same, else-same+else-is_some}

pub looking-init : goal.looking-init
looking-init c =
    rw c.len-place.ensures (sought_none (state_value c.args.state.now) (state_value c.args.first.now) c.args.stretches.now)

pub looking-preserved : goal.looking-preserved
looking-preserved c =
    let s = state_value c.args.state.now in
    let m = state_value c.args.first.now in
    let xs = c.args.stretches.now in
    let place = c.looking.place - 1 in
    let next : c.looking.place - 1 + 1 ≡ c.looking.place = omega (arith, c.looking-test.true) in
    let test = rw c.in_ok-mark.ensures at (tested c.same.result s (state_value c.in_ok-mark.mark) c.same.ensures) in
    let here = mark_test c.same.result s m xs place c.stretch.result c.stretch.ensures test in
    let within = (at_place xs place c.stretch.result c.stretch.ensures).0 in
    elim c.if-same.branch [
      | then-same w ↦ rw w.found-is (sought_here s m xs place within (here ∙ w.if-same.true))
      | else-same+else-is_some w ↦ rw w.found-is (sought_on s m xs place c.looking.place c.looking.found next (here ∙ w.if-same.false)
          (sym w.is_some.ensures ∙ w.if-is_some.false) c.looking.invariant)
    ]

pub returns-then-is_some-clause-place : goal.returns-then-is_some-clause-place
returns-then-is_some-clause-place c =
    let s = state_value c.args.state.now in
    let m = state_value c.args.first.now in
    let xs = c.args.stretches.now in
    let place = c.looking.place - 1 in
    let next : c.looking.place - 1 + 1 ≡ c.looking.place = omega (arith, c.looking-test.true) in
    let test = rw c.in_ok-mark.ensures at (tested c.same.result s (state_value c.in_ok-mark.mark) c.same.ensures) in
    let here = mark_test c.same.result s m xs place c.stretch.result c.stretch.ensures test in
    sought_then s m xs place c.looking.place c.looking.found c.requires next (here ∙ c.if-same.false)
    (sym c.is_some.ensures ∙ c.if-is_some.true) c.looking.invariant

pub returns-then-is_some-clause-within : goal.returns-then-is_some-clause-within
returns-then-is_some-clause-within c =
    sought_within (state_value c.args.state.now) (state_value c.args.first.now) c.args.stretches.now c.looking.place c.looking.found
    c.looking.invariant

pub returns-then-same-2-clause-place : goal.returns-then-same-2-clause-place
returns-then-same-2-clause-place c =
    let here = tested c.same-2.result (state_value c.args.state.now) (state_value c.args.first.now) c.same-2.ensures ∙ c.if-same-2.true in
    sym (mark_found (state_value c.args.state.now) (state_value c.args.first.now) c.args.stretches.now 0 (omega arith)
    (λ k l. absurd (omega arith)) here)

pub returns-else-same-2-clause-place : goal.returns-else-same-2-clause-place
returns-else-same-2-clause-place c =
    let s = state_value c.args.state.now in
    let m = state_value c.args.first.now in
    let other = tested c.same-2.result s m c.same-2.ensures ∙ c.if-same-2.false in
    let none : c.looking.place ≡ 0 = omega (arith, c.looking-test.false) in
    sought_all s m c.args.stretches.now c.looking.place c.looking.found none other c.looking.invariant

pub returns-else-same-2-clause-within : goal.returns-else-same-2-clause-within
returns-else-same-2-clause-within c =
    sought_within (state_value c.args.state.now) (state_value c.args.first.now) c.args.stretches.now c.looking.place c.looking.found
    c.looking.invariant
