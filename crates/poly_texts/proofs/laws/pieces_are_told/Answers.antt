use Rattle.poly_texts.proofs.NameLemmas.{pieces_named, pieces_new, pieces_shaped, maybe_named, maybe_in_order}
use Rattle.poly_texts.proofs.EqualLemmas.{any_named, any_not_maybe, equal_new, equal_needed, equal_shapes, spare_equal, spare_last, symbols_show}
use Rattle.poly_texts.proofs.laws.pieces_are_told.Goals as goal

pub returns : goal.returns
returns c = λ p z. record {
  named = pieces_named p z;
  new = pieces_new p z;
  shaped = pieces_shaped p z;
  maybe_named = maybe_named p z;
  maybe_in_order = maybe_in_order p z;
  any_named = any_named p z;
  any_not_maybe = any_not_maybe p z;
  equal_new = equal_new p z;
  equal_needed = equal_needed p z;
  equal_shapes = equal_shapes p z;
  spare_equal = spare_equal p z;
  spare_last = spare_last p z;
  symbols_show = symbols_show p z;
}
