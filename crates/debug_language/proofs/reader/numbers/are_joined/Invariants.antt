use Rattle.std.proofs.Common.{◌≡◌, length}
use Rattle.std.specs.Prelude.{is_some, option_copied}
use Rattle.std.specs.List.{slice_split}
use Rattle.debug_language.specs.Reader.{numbers_from, is_comma, comma_parts}
use Rattle.debug_language.proofs.reader.numbers.are_joined.Given as goal

-- the parts left are numbers exactly where all parts are
abbrev pub invariant-loop-rest : goal.invariant-loop-rest
invariant-loop-rest l = is_some (numbers_from (comma_parts (option_copied l.rest))) ≡ is_some (numbers_from (slice_split is_comma l.word))

abbrev pub decreases-loop-rest : goal.decreases-loop-rest
decreases-loop-rest l = length (comma_parts (option_copied l.rest))
