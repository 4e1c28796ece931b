use Rattle.std.proofs.Common.{◌∙◌, ap, flat_map}
use Rattle.poly_texts.specs.Kinds.{kind_pieces, kind_maybe}
use Rattle.poly_texts.specs.Puzzle.{pieces_of, maybe_names}
use Rattle.poly_texts.proofs.draft.Draft.with_region.Goals as goal

pub invariant_of-result : goal.invariant_of-result
unfolding pieces_of maybe_names
invariant_of-result c = record {
  puzzle = rw (← c.self.view_is) at c.requires;
  pieces_are = c.in_ok-pieces.ensures ∙ ap (flat_map kind_pieces) c.as_slice.ensures.value;
  maybe_are = c.in_ok-maybe_pieces.ensures ∙ ap (flat_map kind_maybe) c.as_slice-2.ensures.value;
}
