use Rattle.std.proofs.Common.{◌∙◌, ap, length, subst}
use Rattle.lab_book.specs.Book.{BookValue, IsBook}
use Rattle.lab_book.specs.Posted.{posted_visits}
use Rattle.lab_book.proofs.PostedLemmas.{closed_visits}
use Rattle.lab_book.proofs.book.Book.visited.Goals as goal

pub returns-clause-whole : goal.returns-clause-whole
returns-clause-whole c =
    let told = c.visited.ensures ∙ ap (λ (b : BookValue). length (posted_visits b.tiles)) c.self.view_is in
    let sound = subst IsBook c.self.view_is c.self.invariant.sound in
    λ closed. told ∙ ap length (closed_visits c.args.self.now.problem c.args.self.now.branch.lo c.args.self.now.first
    c.args.self.now.tiles c.args.self.now.branch.hi sound.tiling.tiles closed)
