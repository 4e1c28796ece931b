use Rattle.std.proofs.Common.{◌∙◌}
use Rattle.poly_distinct.proofs.MateLemmas.{mates_by, no_mates}
use Rattle.poly_distinct.proofs.formed.mates.Goals as goal

pub returns-in-Some : goal.returns-in-Some
returns-in-Some c =
    c.copies.ensures ∙ mates_by c.args.puzzle.now c.kind_of.ensures.puzzle c.args.name c.in-Some.kind.now c.in-Some.ensures.kind c.in-Some.ensures.named

pub returns-in-None : goal.returns-in-None
returns-in-None c = no_mates c.args.puzzle.now c.kind_of.ensures.puzzle c.args.name c.in-None.ensures.none
