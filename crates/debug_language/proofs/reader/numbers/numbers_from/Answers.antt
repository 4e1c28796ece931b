use Rattle.std.proofs.Common.{sym}
use Rattle.text_lines.specs.Lines.{words_of}
use Rattle.debug_language.specs.Reader.{numbers_from}
use Rattle.debug_language.proofs.ReadLemmas.{numbers_go, numbers_stop, numbers_end}
use Rattle.debug_language.proofs.reader.numbers.numbers_from.Goals as goal

pub returns-in_default-number_in-clause-said : goal.returns-in_default-number_in-clause-said
returns-in_default-number_in-clause-said c =
    sym (numbers_stop c.loop-word.numbers.items (words_of c.loop-word.rest.now) (numbers_from (words_of c.args.words.now)) c.loop-word.invariant
    c.in-Some.word.now (words_of c.in-Some.after.now) c.in-Some.ensures.some (sym c.in_default-number_in.ensures))

pub loop-word-preserved : goal.loop-word-preserved
loop-word-preserved c =
    rw c.in_ok-push.ensures.items
    (numbers_go c.loop-word.numbers.items (words_of c.loop-word.rest.now) (numbers_from (words_of c.args.words.now)) c.loop-word.invariant
    c.in-Some.word.now (words_of c.in-Some.after.now) c.in-Some-number_in.number c.in-Some.ensures.some (sym c.in-Some-number_in.ensures))

pub returns-clause-said : goal.returns-clause-said
returns-clause-said c =
    sym (numbers_end c.loop-word.numbers.items (words_of c.loop-word.rest.now) (numbers_from (words_of c.args.words.now)) c.loop-word.invariant c.in_default.ensures.none)
