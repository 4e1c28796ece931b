use Rattle.std.proofs.Common.{length}
use Rattle.std.specs.Prelude.{option_copied}
use Rattle.std.specs.List.{slice_split}
use Rattle.debug_language.specs.Reader.{numbers_from, is_comma, comma_parts}
use Rattle.debug_language.proofs.ReadLemmas.{IsReadTo}
use Rattle.debug_language.proofs.reader.numbers.joined_numbers.Given as goal

-- the numbers so far, and those of the parts left, are the numbers of all parts
abbrev pub invariant-loop-rest : goal.invariant-loop-rest
invariant-loop-rest l = IsReadTo l.numbers.items (comma_parts (option_copied l.rest)) (numbers_from (slice_split is_comma l.word))

abbrev pub decreases-loop-rest : goal.decreases-loop-rest
decreases-loop-rest l = length (comma_parts (option_copied l.rest))
