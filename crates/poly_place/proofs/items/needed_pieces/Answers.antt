use Rattle.std.proofs.Common.{◌≡◌, ap, sym, ◌∙◌, option_map}
use Rattle.std.specs.Map.Iter.{deref_pair}
use Rattle.poly_texts.specs.Puzzle.{names_of, is_needed}
use Rattle.poly_place.proofs.CountLemmas.{entry_is, one_kept, one_left}
use Rattle.poly_place.proofs.items.needed_pieces.Goals as goal
use Rattle.poly_place.proofs.items.needed_pieces.Goals.{then-is_needed+in_ok-push, else-is_needed}

pub loop-k-preserved : goal.loop-k-preserved
loop-k-preserved c =
    let entry = entry_is c.pieces-pieces.result.now.entries c.loop-k.k _ _ (sym c.get_index.ensures.entry ∙ ap (option_map deref_pair) c.unwrap.ensures) in
    let name = (deref_pair c.unwrap.result).0 in
    let found : c.is_needed.result ≡ is_needed c.args.puzzle.now name =
    c.is_needed.ensures in
    elim c.if-is_needed.branch [
      | then-is_needed+in_ok-push w ↦
          one_kept (is_needed c.args.puzzle.now) (names_of c.pieces-pieces.result.now.entries) c.loop-k.k name c.loop-k.needed.items _ entry.lt entry.is
          (sym found ∙ w.if-is_needed.true) (ap (λ v. v.items) w.needed-is ∙ w.in_ok-push.ensures.items) c.loop-k.invariant
      | else-is_needed w ↦
          ap (λ v. v.items) w.needed-is
          ∙ one_left (is_needed c.args.puzzle.now) (names_of c.pieces-pieces.result.now.entries) c.loop-k.k name c.loop-k.needed.items entry.lt entry.is
          (sym found ∙ w.if-is_needed.false) c.loop-k.invariant
    ]
