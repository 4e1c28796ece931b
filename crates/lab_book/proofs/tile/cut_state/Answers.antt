use Rattle.std.proofs.Common.{refl}
use Rattle.x_branches.proofs.CutLemmas.{cut_parted}
use Rattle.lab_book.proofs.tile.cut_state.Goals as goal

pub returns : goal.returns
returns c =
    let cut = rw (← c.path-choices.ensures.path) at c.path-choices.ensures.cut in
    rw (c.in_ok-mark.ensures, c.in_ok-path.ensures.items, ← c.path-choices.ensures.path)
    (cut_parted c.path-choices.result.now _ _ _ cut.some refl c.split_at.ensures.front c.split_at.ensures.back)
