use Rattle.std.proofs.Common.{[]}
use Rattle.std.proofs.lemmas.Result.{err_from_is_err_and}
use Rattle.text_lines.specs.Lines.{words_of}
use Rattle.text_lines.specs.Each.{each}
use Rattle.text_lines.proofs.EachLemmas.{each_goes, each_stops, each_ends}
use Rattle.text_lines.proofs.ResultLemmas.{passes_on}
use Rattle.x_snapshot.specs.Reader.{add_choice}
use Rattle.x_snapshot.proofs.reader.position.choices.Goals as goal

pub returns-in_err-take_choice : goal.returns-in_err-take_choice
returns-in_err-take_choice c =
    let p = err_from_is_err_and c.from_residual.result c.from_residual.ensures.1 in
    let all = each add_choice [] (words_of c.args.words.now) in
    rw (p.1, p.2)
    (passes_on c.in_err-take_choice.field-0.0 (add_choice c.loop-word.path.items c.in-Some.word.now) all
    (λ f h. each_stops add_choice c.loop-word.path.items (words_of c.loop-word.rest.now) all c.loop-word.invariant
    c.in-Some.word.now (words_of c.in-Some.after.now) f c.in-Some.ensures.some h)
    c.in_err-take_choice.ensures)

pub loop-word-preserved : goal.loop-word-preserved
loop-word-preserved c =
    each_goes add_choice c.loop-word.path.items (words_of c.loop-word.rest.now) (each add_choice [] (words_of c.args.words.now)) c.loop-word.invariant
    c.in-Some.word.now (words_of c.in-Some.after.now) c.take_choice.new.path.items c.in-Some.ensures.some c.in_ok-take_choice.ensures

pub returns : goal.returns
returns c =
    each_ends add_choice c.loop-word.path.items (words_of c.loop-word.rest.now) (each add_choice [] (words_of c.args.words.now)) c.loop-word.invariant c.in_default.ensures.none
