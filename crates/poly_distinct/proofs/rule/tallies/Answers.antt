use Rattle.std.proofs.Common.{◌++◌, ◌∙◌, List, ap, filter, map}
use Rattle.poly_distinct.specs.Exchange.{has_mirrors}
use Rattle.poly_distinct.specs.Rule.{TallyValue, leaves_out, single_pieces, anchor_tally}
use Rattle.poly_distinct.proofs.RuleLemmas.{all_tallies, moves_case}
use Rattle.poly_distinct.proofs.rule.tallies.Goals as goal

pub returns : goal.returns
returns c =
    let p = c.args.compiled.now in
    let group = c.args.all.now.group in
    let moves = moves_case p c.args.exchange.now has_mirrors c.cell_moves-moves.result.now c.args.all.now c.args.turns.now c.requires.exchange c.requires.all c.requires.turns c.cell_moves-moves.ensures in
    all_tallies p group c.cell_moves-moves.result.now moves c.add_pieces.new.tallies.items c.add_cells.new.tallies.items
    (c.in_ok-add_pieces.ensures ∙ ap (λ (ts : List TallyValue). ts ++ filter leaves_out (map (anchor_tally p group) (single_pieces p))) c.new-tallies.ensures.items) c.in_ok-add_cells.ensures
