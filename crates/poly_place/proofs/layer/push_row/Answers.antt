use Rattle.std.proofs.Common.{◌++◌, ◌∷◌, [], ℕ, ap, ◌∙◌, arith, inl, inr, map, get_or}
use Rattle.std.specs.List.{range_with_len}
use Rattle.std.specs.String.{string_bytes}
use Rattle.poly_cells.specs.Coordinates.{coordinates, IsInGrid}
use Rattle.poly_place.proofs.LayerLemmas.{symbol_next, range_ends}
use Rattle.poly_place.proofs.layer.push_row.Goals as goal

pub loop-x-preserved : goal.loop-x-preserved
loop-x-preserved c = record {
  added = λ f s.
      let here : IsInGrid (coordinates c.loop-x.x c.args.y c.args.z) = record {
        x_in = let t = c.loop-x-test.true in let e = c.requires.x_within in omega (arith, t, e);
        y_in = c.requires.y_within;
        z_in = c.requires.z_within;
      } in
      symbol_next (λ x. f (coordinates x c.args.y c.args.z)) (c.args.ends.0) c.loop-x.x (string_bytes c.args.text.now) (string_bytes c.loop-x.text) _
      (let a = c.loop-x.auto.x in omega (arith, a)) (c.loop-x.invariant.added f s)
      (c.in_ok-push_symbol.ensures
      ∙ ap (λ (b : ℕ). string_bytes c.loop-x.text ++ b ∷ []) (ap (λ (i : ℕ). get_or c.args.symbols.now i 0) c.bit_index.ensures ∙ s.shows (coordinates c.loop-x.x c.args.y c.args.z) here));
  end = inl (let t = c.loop-x-test.true in omega (arith, t));
}

pub returns : goal.returns
returns c = λ f s.
    c.loop-x.invariant.added f s
    ∙ ap (λ (n : ℕ). string_bytes c.args.text.now ++ map (λ (x : ℕ). f (coordinates x c.args.y c.args.z)) (range_with_len (c.args.ends.0) n))
    (range_ends (c.args.ends.0) (c.args.ends.1) c.loop-x.x (elim c.loop-x.invariant.end [ inl e ↦ inl (omega (arith, e)) | inr e ↦ inr e ]) (omega arith))
