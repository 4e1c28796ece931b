use Rattle.std.proofs.Common.{◌≡◌, length}
use Rattle.std.specs.Prelude.{is_some}
use Rattle.text_lines.specs.Lines.{words_of}
use Rattle.debug_language.specs.Reader.{numbers_from}
use Rattle.debug_language.proofs.reader.numbers.are_numbers.Given as goal

-- the words left are numbers exactly where all words are
abbrev pub invariant-loop-word : goal.invariant-loop-word
invariant-loop-word l = is_some (numbers_from (words_of l.rest)) ≡ is_some (numbers_from (words_of l.words))

abbrev pub decreases-loop-word : goal.decreases-loop-word
decreases-loop-word l = length l.rest
