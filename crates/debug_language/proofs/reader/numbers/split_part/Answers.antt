use Rattle.std.proofs.Common.{arith}
use Rattle.debug_language.proofs.ReadLemmas.{part_last, part_more}
use Rattle.debug_language.proofs.reader.numbers.split_part.Goals as goal

pub returns-in-empty : goal.returns-in-empty
returns-in-empty c = part_last c.args.word.now _ _ _ c.comma_at.ensures.first c.split_at.ensures.front c.split_at.ensures.back (omega arith)

pub returns-in-len1-up : goal.returns-in-len1-up
returns-in-len1-up c = part_more c.args.word.now _ _ _ c.comma_at.ensures.first c.split_at.ensures.front c.split_at.ensures.back c.in-len1-up.len_at_least
