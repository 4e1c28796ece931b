use Rattle.std.proofs.Common.{[], arith}
use Rattle.std.proofs.lemmas.Result.{on_ok_weaker}
use Rattle.x_codes.specs.StateCode.{paths_code}
use Rattle.x_codes.proofs.StateLemmas.{choices_small, reads_paths}
use Rattle.x_codes.proofs.writing.put_paths.Goals as goal

pub returns-clause-code : goal.returns-clause-code
unfolding paths_code
returns-clause-code c = c.put_lists.ensures.added

pub returns-clause-reads : goal.returns-clause-reads
returns-clause-reads c =
    on_ok_weaker _ (λ words. reads_paths c.args.paths.now (λ i l. choices_small _ (λ k h. omega (arith, words i [] l k 0 h))))
    c.put_lists.ensures.words
