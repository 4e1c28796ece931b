use Rattle.std.proofs.Common.{◌-◌, arith}
use Rattle.packed_rows.proofs.NeighbourLemmas.{list_after, one_list_more}
use Rattle.packed_rows.proofs.row.lists.filled.Goals as goal

pub filling-init : goal.filling-init
filling-init c = record {
  row = c.requires.row;
  before = list_after _ (c.args.from - 1) _ _ (omega (arith, c.requires.after)) c.list-before.ensures;
  added = λ ns e. e;
  words = λ a. a;
  further = omega arith;
  within = c.requires.within;
}

pub filling-preserved : goal.filling-preserved
filling-preserved c =
    let i = c.filling.invariant in let list = c.list-list.result.now in
    let more = one_list_more c.args.lists.now c.filling.place _ list _ _ i.row (omega (arith, c.filling-test.true, c.len.ensures)) i.before
    c.list-list.ensures (omega (arith, c.if-list-ge-SHARED.false)) c.put_short.ensures.words c.put_short.ensures.added in
    record {
      row = more.row;
      before = list_after _ c.filling.place _ _ (omega arith) c.list-list.ensures;
      added = λ ns e. more.added ns (i.added ns e);
      words = λ a. more.words (i.words a);
      further = omega (arith, i.further);
      within = omega (arith, c.filling-test.true, c.len.ensures);
    }
