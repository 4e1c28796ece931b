use Rattle.std.proofs.Common.{◌≡◌, ◌+◌, ◌-◌, ◌∙◌, sym, ap, take, arith}
use Rattle.lab_book.specs.Tile.{led_to}
use Rattle.lab_book.proofs.TileLemmas.{at_place, led_more}
use Rattle.lab_book.proofs.tile.Tile.mark_after.Goals as goal

pub returns : goal.returns
returns c =
    let t = c.args.self.now in
    let before : c.args.count - 1 + 1 ≡ c.args.count = omega (arith, c.if-count-eq0.false) in
    let p = at_place t.stretches (c.args.count - 1) c.stretch.result (rw c.stretches.ensures at c.stretch.ensures) in
    c.in_ok-mark.ensures ∙ c.in_ok-state.ensures ∙ sym (led_more t.first t.stretches (c.args.count - 1) c.stretch.result p.0 p.1)
    ∙ ap (λ n. led_to t.first (take n t.stretches)) before
