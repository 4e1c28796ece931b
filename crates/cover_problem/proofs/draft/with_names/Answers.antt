use Rattle.std.proofs.Common.{map}
use Rattle.std.proofs.lemmas.Result.{err_from_is_err_and}
use Rattle.text_lines.specs.Lines.{words_of}
use Rattle.text_lines.specs.Each.{each}
use Rattle.text_lines.proofs.EachLemmas.{each_goes, each_stops, each_ends}
use Rattle.cover_problem.specs.Validation.{add_name}
use Rattle.text_lines.proofs.ResultLemmas.{passes_on}
use Rattle.cover_problem.proofs.draft.with_names.Goals as goal

pub returns-in_err-take_name : goal.returns-in_err-take_name
returns-in_err-take_name c =
    let p = err_from_is_err_and c.from_residual.result c.from_residual.ensures.1 in
    let all = each add_name (map (λ n. n.bytes) c.args.names.keys) (words_of c.args.words.now) in
    let acc = map (λ n. n.bytes) c.loop-word.names.keys in
    rw (p.1, p.2)
    (passes_on c.in_err-take_name.field-0.0 (add_name acc c.in-Some.word.now) all
    (λ f h. each_stops add_name acc (words_of c.loop-word.rest.now) all c.loop-word.invariant
    c.in-Some.word.now (words_of c.in-Some.after.now) f c.in-Some.ensures.some h)
    c.in_err-take_name.ensures)

pub loop-word-preserved : goal.loop-word-preserved
loop-word-preserved c =
    let all = each add_name (map (λ n. n.bytes) c.args.names.keys) (words_of c.args.words.now) in
    let acc = map (λ n. n.bytes) c.loop-word.names.keys in
    each_goes add_name acc (words_of c.loop-word.rest.now) all c.loop-word.invariant
    c.in-Some.word.now (words_of c.in-Some.after.now) (map (λ n. n.bytes) c.take_name.new.names.keys) c.in-Some.ensures.some c.in_ok-take_name.ensures

pub returns : goal.returns
returns c =
    let all = each add_name (map (λ n. n.bytes) c.args.names.keys) (words_of c.args.words.now) in
    let acc = map (λ n. n.bytes) c.loop-word.names.keys in
    each_ends add_name acc (words_of c.loop-word.rest.now) all c.loop-word.invariant c.in_default.ensures.none
