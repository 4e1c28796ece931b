use Rattle.std.proofs.Common.{◌<◌, length, sym, append-nil, arith}
use Rattle.packed_rows.specs.Neighbours.{told_from}
use Rattle.packed_rows.proofs.NeighbourLemmas.{adds_list, more_words}
use Rattle.packed_rows.proofs.row.Row.put_each.Goals as goal

pub putting-init : goal.putting-init
unfolding told_from
putting-init c = record {
  added = sym (append-nil c.args.self.now);
  words = λ k d l. absurd (omega arith);
  within = omega arith;
}

pub putting-preserved : goal.putting-preserved
putting-preserved c =
    let i = c.putting.invariant in let lists = c.args.lists.now in let k = c.putting.place in
    let l : k < length lists = omega (arith, c.putting-test.true, c.len.ensures) in
    let one = c.in_ok-put_after.ensures in
    record {
      added = c.fill-place.ensures.added _ (adds_list lists k _ _ _ _ _ l c.list_before.ensures c.list.ensures i.added one.added);
      words = c.fill-place.ensures.words (more_words lists k _ l c.list.ensures one.words i.words);
      within = c.fill-place.ensures.within;
    }
