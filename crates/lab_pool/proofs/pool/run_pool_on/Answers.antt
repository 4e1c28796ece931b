use Rattle.lab_pool.proofs.DoneLemmas.{none_held, same_on}
use Rattle.lab_pool.proofs.pool.run_pool_on.Goals as goal

pub returns-clause-none_held : goal.returns-clause-none_held
returns-clause-none_held g c = none_held c.args.book c.run_at.result c.run_at.ensures.searched c.run_at.ensures.finished

pub returns-then-waiting-eq0-clause-on : goal.returns-then-waiting-eq0-clause-on
returns-then-waiting-eq0-clause-on g c = same_on c.args.book c.settle.result c.settle.ensures.book
