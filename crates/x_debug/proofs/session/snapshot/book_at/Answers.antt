use Rattle.x_debug.proofs.LoadLemmas.{can_start}
use Rattle.x_debug.proofs.session.snapshot.book_at.Goals as goal

pub started-requires : goal.started-requires
started-requires g c = rw (c.branch-runner.ensures, c.state-state.ensures.state, ← c.requires) (can_start c.args.runner.now c.state-state.ensures.runner)

pub returns : goal.returns
returns g c = rw (c.branch-runner.ensures, c.state-state.ensures.state) at c.started.ensures
