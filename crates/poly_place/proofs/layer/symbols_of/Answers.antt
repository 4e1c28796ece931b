use Rattle.std.proofs.Common.{◌-◌, ℕ, List, drop, length, subst, sym, ◌∙◌, arith, refl}
use Rattle.poly_cells.specs.Coordinates.{Coordinates}
use Rattle.poly_place.specs.Layers.{AreSymbols, shown_symbol, symbol_over, ground, painted}
use Rattle.poly_place.proofs.LayerLemmas.{points_shown, ground_shown, over_next, written_symbols}
use Rattle.poly_place.proofs.layer.symbols_of.Goals as goal
use Rattle.poly_place.proofs.layer.symbols_of.Goals.{After-deref_mut}

-- the points before a cell is shown
points : (c : After-deref_mut) → AreSymbols (λ v. 46) c.deref_mut.result.now
points c = points_shown _ c.deref_mut.result.now (c.deref_mut.ensures.value ∙ c.in_ok-symbols.ensures) refl

pub paint-requires-clause-long : goal.paint-requires-clause-long
paint-requires-clause-long c = (points (goal.at.paint-requires-clause-long c).After-deref_mut).long

pub loop-k-init : goal.loop-k-init
loop-k-init c =
    let before = points (goal.at.loop-k-init c).After-deref_mut in
    let shown = c.paint.ensures (λ v. 46) before in
    written_symbols _ _ _ _ (omega (arith, c.deref_mut.ensures.len, before.long, shown.long))
    (ground_shown (shown_symbol c.args.packing.now) c.args.packing.now.region c.placements-placements.result.now c.cells.result.now c.paint.new.symbols (c.cells.ensures.value ∙ c.region.ensures) shown)

pub loop-k-preserved : goal.loop-k-preserved
loop-k-preserved c =
    let all = c.placements-placements.result.now in
    let f = symbol_over (shown_symbol c.args.packing.now) (drop (length all - c.loop-k.k) all) (ground c.args.packing.now.region) in
    let before = c.loop-k.invariant in
    let shown = c.paint-in-loop-k.ensures f (subst (AreSymbols f) (sym c.deref_mut-in-loop-k.ensures.value) before) in
    written_symbols _ _ _ _ (omega (arith, c.deref_mut-in-loop-k.ensures.len, before.long, shown.long))
    (over_next (shown_symbol c.args.packing.now) all c.loop-k.k c.index-placements-placements.result (ground c.args.packing.now.region) c.paint-in-loop-k.new.symbols c.loop-k-test.true c.index-placements-placements.is
    (subst (λ (b : ℕ). AreSymbols (painted f c.index-placements-placements.result.cells b) c.paint-in-loop-k.new.symbols) c.shown_symbol.ensures.value
    (subst (λ (vs : List Coordinates). AreSymbols (painted f vs c.shown_symbol.result) c.paint-in-loop-k.new.symbols) c.cells-in-loop-k.ensures shown)))
