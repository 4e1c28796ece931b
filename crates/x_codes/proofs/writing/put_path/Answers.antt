use Rattle.std.proofs.Common.{arith}
use Rattle.std.proofs.lemmas.Result.{on_ok_weaker}
use Rattle.x_codes.specs.StateCode.{path_code}
use Rattle.x_codes.proofs.StateLemmas.{choices_small, reads_path}
use Rattle.x_codes.proofs.writing.put_path.Goals as goal

pub returns-clause-code : goal.returns-clause-code
unfolding path_code
returns-clause-code c = c.put_with_length.ensures.added

pub returns-clause-reads : goal.returns-clause-reads
returns-clause-reads c =
    let words = c.put_with_length.ensures.words in
    on_ok_weaker _ (λ _. reads_path c.args.path.now (choices_small _ (λ k l. omega (arith, words k 0 l)))) c.put_with_length.ensures.added
