use Rattle.std.proofs.Common.{sym, length}
use Rattle.std.proofs.lemmas.Bool.{eqb-true}
use Rattle.cover_bits.proofs.GoneLemmas.{first_all, none_all}
use Rattle.cover_bits.proofs.lists.ItemList.first.Goals as goal

pub returns-then-is_empty-clause-some : goal.returns-then-is_empty-clause-some
returns-then-is_empty-clause-some c =
    first_all c.args.self.now (eqb-true (length c.args.self.now.gone.now) 0 (sym c.if-is_empty.ensures)) c.args.start c.next_both.result c.next_both.ensures.some

pub returns-then-is_empty-clause-none : goal.returns-then-is_empty-clause-none
returns-then-is_empty-clause-none c e = none_all c.args.self.now c.args.start (c.next_both.ensures.none e)
