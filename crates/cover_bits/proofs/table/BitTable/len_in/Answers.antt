use Rattle.std.proofs.Common.{sym, subst, length}
use Rattle.cover_problem.specs.Covering.{list_of}
use Rattle.cover_problem.proofs.PartLemmas.{before_none}
use Rattle.cover_bits.specs.Parts.{words_for}
use Rattle.cover_bits.specs.Bits.{AreLeftBut}
use Rattle.cover_bits.proofs.table.BitTable.len_in.Goals as goal

pub list_in-requires-clause-left : goal.list_in-requires-clause-left
list_in-requires-clause-left c =
    subst (λ x. AreLeftBut c.args.self.now.problem x (words_for (length c.args.self.now.problem.options)) c.args.left.now c.args.gone.now)
    (sym (before_none c.args.item c.args.self.now.covered c.requires.uncovered)) c.requires.left

pub count-requires : goal.count-requires
count-requires c = c.list_in.ensures.sound

pub returns : goal.returns
returns c = c.count.ensures (list_of c.args.self.now.problem c.args.self.now.covered c.args.item) c.list_in.ensures
