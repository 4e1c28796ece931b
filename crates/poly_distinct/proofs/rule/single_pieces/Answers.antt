use Rattle.std.proofs.Common.{[], ap, sym, ◌∙◌, option_map}
use Rattle.std.specs.Map.Iter.{deref_pair}
use Rattle.poly_texts.specs.Puzzle.{names_of}
use Rattle.poly_place.proofs.CountLemmas.{entry_is}
use Rattle.poly_distinct.specs.declared.anchor.Anchor.TheVariants.{Piece}
use Rattle.poly_distinct.specs.Rule.{is_single}
use Rattle.poly_distinct.proofs.StepLemmas.{kept_more, kept_same}
use Rattle.poly_distinct.proofs.rule.single_pieces.Goals as goal
use Rattle.poly_distinct.proofs.rule.single_pieces.Goals.{then-is_single+in_ok-push, else-is_single}

pub loop-k-preserved : goal.loop-k-preserved
loop-k-preserved c =
    let entry = entry_is c.pieces-pieces.result.now.entries c.loop-k.k _ _ (sym c.get_index.ensures.entry ∙ ap (option_map deref_pair) c.unwrap.ensures) in
    elim c.if-is_single.branch [
      | then-is_single+in_ok-push w ↦
          kept_more Piece (is_single c.args.puzzle.now) (names_of c.pieces-pieces.result.now.entries) c.loop-k.k c.unwrap.result.0.now [] _ _ entry.lt entry.is
          (sym c.is_single.ensures ∙ w.if-is_single.true) (ap (λ v. v.items) w.anchors-is ∙ w.in_ok-push.ensures.items) c.loop-k.invariant
      | else-is_single w ↦
          ap (λ v. v.items) w.anchors-is
          ∙ kept_same Piece (is_single c.args.puzzle.now) (names_of c.pieces-pieces.result.now.entries) c.loop-k.k c.unwrap.result.0.now [] _ entry.lt entry.is
          (sym c.is_single.ensures ∙ w.if-is_single.false) c.loop-k.invariant
    ]
