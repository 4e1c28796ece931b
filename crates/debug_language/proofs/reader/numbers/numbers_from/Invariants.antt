use Rattle.std.proofs.Common.{length}
use Rattle.text_lines.specs.Lines.{words_of}
use Rattle.debug_language.specs.Reader.{numbers_from}
use Rattle.debug_language.proofs.ReadLemmas.{IsReadTo}
use Rattle.debug_language.proofs.reader.numbers.numbers_from.Given as goal

-- the numbers so far, and those of the words left, are the numbers of all words
abbrev pub invariant-loop-word : goal.invariant-loop-word
invariant-loop-word l = IsReadTo l.numbers.items (words_of l.rest) (numbers_from (words_of l.words))

abbrev pub decreases-loop-word : goal.decreases-loop-word
decreases-loop-word l = length l.rest
