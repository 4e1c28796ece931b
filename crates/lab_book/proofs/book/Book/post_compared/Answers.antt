use Rattle.lab_book.specs.Tiling.{tile_at}
use Rattle.lab_book.proofs.BookLemmas.{judged_err}
use Rattle.lab_book.proofs.CallLemmas.{call_made, post_is}
use Rattle.lab_book.proofs.DoubtLemmas.{post_same}
use Rattle.lab_book.proofs.book.Book.post_compared.Goals as goal

pub hand_back-requires : goal.hand_back-requires
hand_back-requires c =
    rw c.in-Ok.ensures (judged_err _ _ _ _ _ _ _ (post_is c.args.self.now _ c.grant-lease.result _ _ c.args.same)
    c.post_place.ensures.place c.in-Err.is)

pub commit_post-requires-clause-same : goal.commit_post-requires-clause-same
commit_post-requires-clause-same c = (post_same _ _ c.args.same c.args.stretch.from c.args.stretch.to
    (tile_at c.args.self.now.tiles c.in-Ok-post_place.i) c.requires c.in-Ok-post_place.ensures.fine).1

pub commit_post-requires-clause-outcome : goal.commit_post-requires-clause-outcome
commit_post-requires-clause-outcome c =
    rw c.in-Ok.ensures (call_made _ _ _ _ _ _ _ (post_is c.args.self.now _ c.grant-lease.result _ _ c.args.same)
    c.post_place.ensures.place c.in-Ok-post_place.is)
