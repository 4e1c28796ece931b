use Rattle.std.proofs.Common.{ap, ap₂, ◌∙◌, ◌++◌, ℕ, map, nat_lt, arith, inl}
use Rattle.std.specs.String.{string_bytes}
use Rattle.poly_cells.specs.Coordinates.{coordinates}
use Rattle.poly_place.specs.Layers.{from_to, row_symbols}
use Rattle.poly_place.proofs.LayerLemmas.{word_next}
use Rattle.poly_place.proofs.layer.push_line.Goals as goal

pub loop-z-preserved : goal.loop-z-preserved
loop-z-preserved c = record {
  added = λ f s.
      word_next (row_symbols f c.args.low c.args.high c.args.y) c.args.low.z c.loop-z.z _ (string_bytes c.args.text.now) (string_bytes c.loop-z.text) (string_bytes c.push_gap.new.text) _
      (let a = c.loop-z.auto.z in let v = c.z-z.ensures.value in omega (arith, a, v)) (ap (λ k. nat_lt k c.loop-z.z) c.z.ensures.value) (c.loop-z.invariant.added f s) c.in_ok-push_gap.ensures
      (c.in_ok-push_row.ensures f s
      ∙ ap₂ (λ (a b : ℕ). string_bytes c.push_gap.new.text ++ map (λ (x : ℕ). f (coordinates x c.args.y c.loop-z.z)) (from_to a b)) c.x.ensures.value c.x-in-loop-z.ensures.value);
  end = inl (let t = c.loop-z-test.true in omega (arith, t));
}
