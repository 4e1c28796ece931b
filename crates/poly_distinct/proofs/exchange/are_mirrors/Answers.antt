use Rattle.std.proofs.Common.{◌∙◌}
use Rattle.poly_distinct.specs.Exchange.{second_of}
use Rattle.poly_distinct.proofs.ExchangeLemmas.{four, tests_are}
use Rattle.poly_distinct.proofs.exchange.are_mirrors.Goals as goal

pub returns : goal.returns
returns c =
    c.all_four.ensures ∙ four _ _ _ _ _ _ _ _ c.mirror_pieces.ensures c.keep_flags.ensures c.tell_names.ensures c.are_onto.ensures
    ∙ tests_are c.args.puzzle.now (second_of c.args.pairs.now) c.args.pieces.now c.requires
