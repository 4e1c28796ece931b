use Rattle.lab_book.specs.Tiling.{tile_at}
use Rattle.lab_book.proofs.BookLemmas.{judged_err}
use Rattle.lab_book.proofs.CallLemmas.{call_made, split_is}
use Rattle.lab_book.proofs.SplitLemmas.{split_same}
use Rattle.lab_book.proofs.book.Book.split_compared.Goals as goal

pub hand_back-requires : goal.hand_back-requires
hand_back-requires c =
    rw c.in-Ok.ensures.call (judged_err _ _ _ _ _ _ _ (split_is c.args.self.now _ c.grant-lease.result _ c.args.same)
    c.split_place.ensures.place c.in-Err.is)

pub commit_split-requires-clause-same : goal.commit_split-requires-clause-same
commit_split-requires-clause-same c = (split_same _ _ c.args.cut.path c.args.same (tile_at c.args.self.now.tiles c.in-Ok-split_place.i)
    c.requires c.in-Ok-split_place.ensures.fine).1

pub commit_split-requires-clause-outcome : goal.commit_split-requires-clause-outcome
commit_split-requires-clause-outcome c =
    rw c.in-Ok.ensures.call (call_made _ _ _ _ _ _ _ (split_is c.args.self.now _ c.grant-lease.result _ c.args.same)
    c.split_place.ensures.place c.in-Ok-split_place.is)
