use Rattle.poly_distinct.proofs.ExchangeLemmas.{formed_is}
use Rattle.poly_distinct.proofs.formed.FormedPiece.of.Goals as goal

pub returns : goal.returns
returns c =
    formed_is c.args.puzzle.now c.args.name c.args.shape.now c.in_ok-copy.field-0 c.in_ok-forms.forms.items c.in_ok-images.images.items _ c.is_mirrored-both.result c.in_ok-copy.ensures
    c.is_mirrored-both.ensures c.in_ok-forms.ensures c.in_ok-images.ensures c.of-role.ensures
