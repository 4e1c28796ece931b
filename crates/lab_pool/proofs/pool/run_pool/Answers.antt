use Rattle.lab_pool.proofs.DoneLemmas.{back_at_no_thread}
use Rattle.lab_pool.proofs.pool.run_pool.Goals as goal

pub returns-clause-some_at_no_thread : goal.returns-clause-some_at_no_thread
returns-clause-some_at_no_thread g c = back_at_no_thread c.run_pool_on.result c.run_pool_on.ensures.none_back
