use Rattle.std.proofs.Common.{sym, ap, ◌∙◌}
use Rattle.cover_problem.specs.Problem.{is_same}
use Rattle.x_branches.specs.Stretch.{StretchValue}
use Rattle.lab_world.proofs.PostLemmas.{taken_reopens, reopened_same, post_done, post_undone}
use Rattle.lab_world.proofs.worker.Worker.post_compared.Goals as goal

pub post_compared-requires : goal.post_compared-requires
post_compared-requires g c =
    let same = rw (← c.self.view_is) at c.requires in
    same ∙ ap (λ (s : StretchValue). is_same s.problem c.args.book.now.problem) (sym c.in-Ok.ensures.stretch)

pub returns-in-Ok-post_compared-clause-holds : goal.returns-in-Ok-post_compared-clause-holds
returns-in-Ok-post_compared-clause-holds g c =
    rw (← c.self.view_is)
    (post_done c.args.book.now c.post_compared.new.self c.self.inside.lease c.self.inside.runner c.is_sound.ensures.tiling c.take_stretch.new.self
    c.in-Ok.stretch c.in-Ok-post_compared.posted c.in-Ok.ensures.marked c.in-Ok.ensures.stretch c.in-Ok-post_compared.ensures.made)

pub unreachable-requires : goal.unreachable-requires
unreachable-requires g c =
    taken_reopens c.self.inside.runner c.take_stretch.new.self c.in-Ok.stretch c.in-Err.refused.given c.in_default-reopen.field-0.fault
    c.is_sound-2.ensures.runner c.in-Ok.ensures.marked c.in-Ok.ensures.stretch c.in-Err.ensures.given_back
    c.in_default-reopen.ensures.refused

pub returns-clause-holds : goal.returns-clause-holds
returns-clause-holds g c =
    let same = reopened_same c.self.inside.runner c.take_stretch.new.self c.reopen.new.self c.in-Ok.stretch c.in-Err.refused.given
    c.in-Ok.ensures.marked c.in-Ok.ensures.stretch c.in-Err.ensures.given_back c.in-Ok-reopen.ensures.reopened in
    rw (← c.self.view_is)
    (post_undone c.args.book.now c.post_compared.new.self c.self.inside.lease c.self.inside.runner c.is_sound.ensures.tiling c.reopen.new.self
    c.in-Ok.stretch c.in-Err.refused.fault same c.in-Ok.ensures.stretch c.in-Err.ensures.refused)
