use Rattle.lab_book.proofs.SplitLemmas.{marks_fit, cut_same_fits, before_doubt, past_doubt, between_doubt}
use Rattle.lab_book.proofs.DoubtLemmas.{ends_fit}
use Rattle.lab_book.proofs.book.Book.against_split.Goals as goal

pub returns-in_default : goal.returns-in_default
returns-in_default c =
    let within = rw (← c.self.view_is) at c.requires.within in
    let same = rw (← c.self.view_is) at c.requires.same in
    let mark = marks_fit _ _ _ _ _ c.self.invariant.sound.tiling within in
    let cut = cut_same_fits _ _ _ _ same c.if-not-same.false c.is_sound.ensures.cut in
    rw (← c.self.view_is)
    (before_doubt _ _ _ _ _ c.if-not-same.false c.tile-tile.ensures _ _ _ c.mark.ensures c.requires.state mark cut
    (c.run_order.ensures.less _) c.in_default.not-Less)

pub returns-in_default-run_order : goal.returns-in_default-run_order
returns-in_default-run_order c =
    let within = rw (← c.self.view_is) at c.requires.within in
    let same = rw (← c.self.view_is) at c.requires.same in
    let mark = marks_fit _ _ _ _ _ c.self.invariant.sound.tiling within in
    let cut = cut_same_fits _ _ _ _ same c.if-not-same.false c.is_sound.ensures.cut in
    let end = ends_fit _ _ _ _ _ c.self.invariant.sound.tiling within in
    rw (← c.self.view_is)
    (past_doubt _ _ _ _ _ c.if-not-same.false c.tile-tile.ensures _ _ _ c.mark.ensures c.requires.state mark cut
    (c.run_order.ensures.less _)
    _ _ c.end.ensures end (c.run_order-2.ensures.less _) c.in-Less.is c.in_default-run_order.not-Less)

pub returns : goal.returns
returns c =
    let within = rw (← c.self.view_is) at c.requires.within in
    let same = rw (← c.self.view_is) at c.requires.same in
    let mark = marks_fit _ _ _ _ _ c.self.invariant.sound.tiling within in
    let cut = cut_same_fits _ _ _ _ same c.if-not-same.false c.is_sound.ensures.cut in
    let end = ends_fit _ _ _ _ _ c.self.invariant.sound.tiling within in
    rw (← c.self.view_is)
    (between_doubt _ _ _ _ _ c.if-not-same.false c.tile-tile.ensures _ _ _ c.mark.ensures c.requires.state mark cut
    (c.run_order.ensures.less _)
    _ _ c.end.ensures end (c.run_order-2.ensures.less _) c.in-Less.is c.in-Less-run_order.is)
