use Rattle.std.proofs.Common.{◌≡◌, Some, ap, ◌∙◌}
use Rattle.cover_problem.specs.Problem.{ProblemValue}
use Rattle.x_debug.specs.Session.{SessionValue}
use Rattle.x_debug.proofs.LoadLemmas.{world_problem, met_by_seated, loaded_is}
use Rattle.x_debug.proofs.session.Session.resume.Goals as goal

pub desk_of-requires-clause-runner : goal.desk_of-requires-clause-runner
desk_of-requires-clause-runner g c =
    let book : c.problem.result.now ≡ c.args.self.now.book.problem =
    ◌∙◌ {A = ProblemValue} c.problem.ensures (ap (λ (v : SessionValue). v.book.problem) c.self.view_is) in
    rw book c.requires.runner

pub sit_down-requires-clause-problem : goal.sit_down-requires-clause-problem
sit_down-requires-clause-problem g c =
    world_problem c.args.draft.now c.in_ok-book.book (Some c.in_ok-book.worker) c.in_ok-book.ensures.made c.args.self.now.book.problem c.requires.same

pub take_breaks-requires : goal.take_breaks-requires
take_breaks-requires g c =
    met_by_seated c.args.draft.now c.in_ok-book.book (Some c.in_ok-book.worker) c.in_ok-book.ensures.made c.sit_down.new.self c.args.self.now c.sit_down.ensures c.in_ok-breaks.breaks.keys c.in_ok-breaks.ensures
    c.is_sound.ensures.breaks

pub returns-clause-made : goal.returns-clause-made
returns-clause-made g c =
    loaded_is c.args.draft.now c.in_ok-book.book (Some c.in_ok-book.worker) c.in_ok-book.ensures.made c.args.self.now c.sit_down.new.self c.take_breaks.new.self c.sit_down.ensures c.in_ok-breaks.breaks.keys c.in_ok-breaks.ensures
    c.take_breaks.ensures
