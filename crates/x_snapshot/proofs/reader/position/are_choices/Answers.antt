use Rattle.std.proofs.Common.{sym}
use Rattle.std.specs.Prelude.{is_ok}
use Rattle.text_lines.specs.Lines.{words_of}
use Rattle.x_snapshot.specs.Reader.{choices_from}
use Rattle.x_snapshot.proofs.ChoiceLemmas.{choice_goes, choice_stops, choices_end}
use Rattle.x_snapshot.proofs.reader.position.are_choices.Goals as goal

pub returns-in_default-option_number : goal.returns-in_default-option_number
returns-in_default-option_number c =
    sym (choice_stops (words_of c.loop-word.rest.now) (is_ok (choices_from (words_of c.args.words.now))) c.loop-word.invariant
    c.in-Some.word.now (words_of c.in-Some.after.now) c.in-Some.ensures.some (sym c.in_default-option_number.ensures))

pub loop-word-preserved : goal.loop-word-preserved
loop-word-preserved c =
    choice_goes (words_of c.loop-word.rest.now) (is_ok (choices_from (words_of c.args.words.now))) c.loop-word.invariant
    c.in-Some.word.now (words_of c.in-Some.after.now) c.in-Some-option_number.field-0 c.in-Some.ensures.some (sym c.in-Some-option_number.ensures)

pub returns : goal.returns
returns c =
    sym (choices_end (words_of c.loop-word.rest.now) (is_ok (choices_from (words_of c.args.words.now))) c.loop-word.invariant c.in_default.ensures.none)
