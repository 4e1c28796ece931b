use Rattle.std.proofs.Common.{arith, inl}
use Rattle.std.specs.String.{string_bytes}
use Rattle.poly_place.specs.Layers.{layer_words}
use Rattle.poly_place.proofs.LayerLemmas.{line_next}
use Rattle.poly_place.proofs.layer.push_lines.Goals as goal

pub loop-y-preserved : goal.loop-y-preserved
loop-y-preserved c = record {
  added = λ f s.
      line_next (layer_words f c.args.low c.args.high) c.args.low.y c.loop-y.y (string_bytes c.args.text.now) (string_bytes c.loop-y.text) _
      (let a = c.loop-y.auto.y in let v = c.y-y.ensures.value in omega (arith, a, v)) (c.loop-y.invariant.added f s) (c.in_ok-push_line.ensures f s);
  end = inl (let t = c.loop-y-test.true in omega (arith, t));
}
