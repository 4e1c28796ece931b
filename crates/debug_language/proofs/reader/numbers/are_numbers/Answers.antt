use Rattle.std.proofs.Common.{sym}
use Rattle.std.specs.Prelude.{is_some}
use Rattle.text_lines.specs.Lines.{words_of}
use Rattle.debug_language.specs.Reader.{numbers_from}
use Rattle.debug_language.proofs.ReadLemmas.{number_goes, number_stops, number_ends}
use Rattle.debug_language.proofs.reader.numbers.are_numbers.Goals as goal

pub returns-in_default-number_in : goal.returns-in_default-number_in
returns-in_default-number_in c =
    sym (number_stops (words_of c.loop-word.rest.now) (is_some (numbers_from (words_of c.args.words.now))) c.loop-word.invariant
    c.in-Some.word.now (words_of c.in-Some.after.now) c.in-Some.ensures.some (sym c.in_default-number_in.ensures))

pub loop-word-preserved : goal.loop-word-preserved
loop-word-preserved c =
    number_goes (words_of c.loop-word.rest.now) (is_some (numbers_from (words_of c.args.words.now))) c.loop-word.invariant
    c.in-Some.word.now (words_of c.in-Some.after.now) c.in-Some-number_in.field-0 c.in-Some.ensures.some (sym c.in-Some-number_in.ensures)

pub returns : goal.returns
returns c =
    sym (number_ends (words_of c.loop-word.rest.now) (is_some (numbers_from (words_of c.args.words.now))) c.loop-word.invariant c.in_default.ensures.none)
