use Rattle.std.proofs.Common.{sym, subst, ap, ◌∙◌}
use Rattle.cover_problem.specs.Problem.{is_same}
use Rattle.cover_problem.proofs.ProblemLemmas.{is_same_decides}
use Rattle.x_branches.specs.Cut.{CutPath}
use Rattle.lab_book.specs.Book.{BookValue}
use Rattle.lab_world.specs.Worker.{HoldsTile}
use Rattle.lab_world.proofs.SplitLemmas.{can_shorten, split_made, split_refused, split_holds}
use Rattle.lab_world.proofs.worker.Worker.split.Goals as goal

pub split_compared-requires : goal.split_compared-requires
split_compared-requires g c =
    let held = rw (← c.self.view_is) at c.requires in
    sym (ap (λ (d : CutPath). is_same d.problem c.args.book.now.problem) c.in-Ok.ensures.cut
    ∙ (is_same_decides c.self.inside.runner.problem c.args.book.now.problem).1 held.problem)

pub returns-in-Err-split_compared-clause-refused : goal.returns-in-Err-split_compared-clause-refused
returns-in-Err-split_compared-clause-refused g c =
    let held = rw (← c.self.view_is) at c.requires in
    let told = split_refused c.args.book.now (record { grant = c.self.inside.lease; runner = c.self.inside.runner })
    c.is_sound.ensures.tiling held c.is_sound-2.ensures.runner c.args.level c.args.option c.in-Ok.ensures.untried c.split_compared.new.self
    c.in-Ok.cut c.in-Err-split_compared.field-0.fault c.in-Ok.ensures.cut c.in-Err-split_compared.ensures.refused in
    rw (← c.self.view_is) (c.in-Ok.ensures.untried, told.0, told.1)

pub returns-in-Err-split_compared-clause-holds : goal.returns-in-Err-split_compared-clause-holds
returns-in-Err-split_compared-clause-holds g c =
    let held = rw (← c.self.view_is) at c.requires in
    let told = split_refused c.args.book.now (record { grant = c.self.inside.lease; runner = c.self.inside.runner })
    c.is_sound.ensures.tiling held c.is_sound-2.ensures.runner c.args.level c.args.option c.in-Ok.ensures.untried c.split_compared.new.self
    c.in-Ok.cut c.in-Err-split_compared.field-0.fault c.in-Ok.ensures.cut c.in-Err-split_compared.ensures.refused in
    subst (λ (b : BookValue). HoldsTile b c.args.self.now) (sym told.1) c.requires

pub end_at-requires : goal.end_at-requires
end_at-requires g c =
    let held = rw (← c.self.view_is) at c.requires in
    can_shorten c.args.book.now (record { grant = c.self.inside.lease; runner = c.self.inside.runner })
    c.is_sound.ensures.tiling held c.is_sound-2.ensures.runner c.args.level c.args.option c.in-Ok.ensures.untried c.in-Ok-copy.copy
    c.in-Ok.cut c.in-Ok.ensures.cut c.in-Ok-copy.ensures

pub returns-clause-book : goal.returns-clause-book
returns-clause-book g c =
    let held = rw (← c.self.view_is) at c.requires in
    let made = split_made c.args.book.now (record { grant = c.self.inside.lease; runner = c.self.inside.runner })
    c.is_sound.ensures.tiling held c.is_sound-2.ensures.runner c.args.level c.args.option c.in-Ok.ensures.untried c.split_compared.new.self
    c.in-Ok.cut c.in-Ok-split_compared.id c.in-Ok.ensures.cut c.in-Ok-split_compared.ensures.made in
    rw (← c.self.view_is) made.book

pub returns-clause-reply : goal.returns-clause-reply
returns-clause-reply g c =
    let held = rw (← c.self.view_is) at c.requires in
    let made = split_made c.args.book.now (record { grant = c.self.inside.lease; runner = c.self.inside.runner })
    c.is_sound.ensures.tiling held c.is_sound-2.ensures.runner c.args.level c.args.option c.in-Ok.ensures.untried c.split_compared.new.self
    c.in-Ok.cut c.in-Ok-split_compared.id c.in-Ok.ensures.cut c.in-Ok-split_compared.ensures.made in
    rw (← c.self.view_is) (sym made.reply)

pub returns-clause-holds : goal.returns-clause-holds
returns-clause-holds g c =
    let held = rw (← c.self.view_is) at c.requires in
    let made = split_made c.args.book.now (record { grant = c.self.inside.lease; runner = c.self.inside.runner })
    c.is_sound.ensures.tiling held c.is_sound-2.ensures.runner c.args.level c.args.option c.in-Ok.ensures.untried c.split_compared.new.self
    c.in-Ok.cut c.in-Ok-split_compared.id c.in-Ok.ensures.cut c.in-Ok-split_compared.ensures.made in
    split_holds c.args.book.now (record { grant = c.self.inside.lease; runner = c.self.inside.runner })
    c.is_sound.ensures.tiling held c.is_sound-2.ensures.runner c.args.level c.args.option c.in-Ok.ensures.untried c.split_compared.new.self
    c.in-Ok-copy.copy c.in-Ok.cut c.end_at.new.self c.in-Ok.ensures.cut c.in-Ok-copy.ensures c.end_at.ensures
    made.book
