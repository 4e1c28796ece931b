use Rattle.std.proofs.Common.{◌∙◌, ap, subst}
use Rattle.lab_book.specs.Book.{BookValue, IsBook}
use Rattle.lab_book.specs.Posted.{posted_steps}
use Rattle.lab_book.proofs.SumLemmas.{closed_steps}
use Rattle.lab_book.proofs.book.Book.steps.Goals as goal

pub returns-clause-whole : goal.returns-clause-whole
returns-clause-whole c =
    let told = c.steps.ensures ∙ ap (λ (b : BookValue). posted_steps b.tiles) c.self.view_is in
    let sound = subst IsBook c.self.view_is c.self.invariant.sound in
    λ closed. told ∙ closed_steps c.args.self.now.problem c.args.self.now.branch c.args.self.now.first c.args.self.now.tiles sound.tiling
    closed
