use Rattle.std.proofs.Common.{◌≡◌, ◌<◌, ◌++◌, ◌∷◌, [], ◌∙◌, List, ap, sym, subst, length, get_or}
use Rattle.poly_cells.specs.Coordinates.{Coordinates}
use Rattle.poly_texts.specs.Puzzle.{PuzzleValue}
use Rattle.poly_distinct.specs.Counts.{cell_tally}
use Rattle.poly_distinct.specs.Rule.{TallyValue}
use Rattle.poly_distinct.proofs.StepLemmas.{kept_more, kept_same}
use Rattle.poly_distinct.proofs.TallyLemmas.{all_told, is_told, tally_at, told_by}
use Rattle.poly_distinct.proofs.tally.add_filled.Goals as goal
use Rattle.poly_distinct.proofs.tally.add_filled.Goals.{then-is_counted+in_ok-push, else-is_counted}

pub loop-k-preserved : goal.loop-k-preserved
loop-k-preserved c =
    let m = c.args.moves.now in
    let cells = c.cells-cells.result.now in
    let k = c.loop-k.k in
    let v = c.index-cells-k.result in
    let lt = c.loop-k-test.true in
    let region = c.cells-cells.ensures.value ∙ c.region.ensures.value ∙ ap (λ (p : PuzzleValue). p.region) c.puzzle.ensures in
    let maybe = c.maybe_cells-maybe.ensures ∙ ap (λ (p : PuzzleValue). p.maybe_cells) c.puzzle-2.ensures in
    let tally = tally_at m c.requires.puzzle c.args.options.now c.args.kept.now k v (subst (λ (vs : List Coordinates). k < length vs) region lt)
    (subst (λ (vs : List Coordinates). v ≡ get_or vs k v) region c.index-cells-k.is) c.requires.options c.requires.kept in
    let told = told_by m v _ c.is_counted.result cells c.maybe_cells-maybe.result.now k tally c.is_counted.ensures maybe region lt c.index-cells-k.is in
    elim c.if-is_counted.branch [
      | then-is_counted+in_ok-push w ↦
          kept_more (cell_tally m) (is_told m) cells k v _ _ _ lt c.index-cells-k.is (told ∙ w.if-is_counted.true)
          (ap (λ ts. ts.items) w.tallies-is ∙ w.in_ok-push.ensures.items ∙ ap (λ (t : TallyValue). c.loop-k.tallies.items ++ t ∷ []) (sym tally)) c.loop-k.invariant
      | else-is_counted w ↦
          ap (λ ts. ts.items) w.tallies-is ∙ kept_same (cell_tally m) (is_told m) cells k v _ _ lt c.index-cells-k.is (told ∙ w.if-is_counted.false) c.loop-k.invariant
    ]

pub returns : goal.returns
returns c =
    all_told c.args.moves.now c.args.tallies.now.items c.loop-k.tallies.items c.cells-cells.result.now c.loop-k.k
    (c.cells-cells.ensures.value ∙ c.region.ensures.value ∙ ap (λ (p : PuzzleValue). p.region) c.puzzle.ensures) c.loop-k-test.false c.loop-k.invariant
