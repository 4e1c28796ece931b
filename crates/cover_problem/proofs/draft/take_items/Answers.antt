use Rattle.std.proofs.Common.{map}
use Rattle.std.proofs.lemmas.Result.{err_from_is_err_and}
use Rattle.text_lines.specs.Lines.{words_of}
use Rattle.text_lines.specs.Each.{each}
use Rattle.text_lines.proofs.EachLemmas.{each_goes, each_stops, each_ends}
use Rattle.cover_problem.specs.Reading.{add_item}
use Rattle.text_lines.proofs.ResultLemmas.{passes_on}
use Rattle.cover_problem.proofs.draft.take_items.Goals as goal

pub returns-in_err-take_item-clause-items : goal.returns-in_err-take_item-clause-items
returns-in_err-take_item-clause-items c =
    let p = err_from_is_err_and c.from_residual.result c.from_residual.ensures.1 in
    let step = add_item (map (λ n. n.bytes) c.args.names.now.keys) in
    rw (p.1, p.2)
    (passes_on c.in_err-take_item.field-0.0 (step c.loop-word.option.items c.in-Some.word.now) (each step c.args.option.now.items (words_of c.args.words.now))
    (λ f h. each_stops step c.loop-word.option.items (words_of c.loop-word.rest.now) (each step c.args.option.now.items (words_of c.args.words.now)) c.loop-word.invariant.so_far
    c.in-Some.word.now (words_of c.in-Some.after.now) f c.in-Some.ensures.some h)
    c.in_err-take_item.ensures.item)

pub loop-word-preserved : goal.loop-word-preserved
loop-word-preserved c = record {
  so_far =
      let step = add_item (map (λ n. n.bytes) c.args.names.now.keys) in
      each_goes step c.loop-word.option.items (words_of c.loop-word.rest.now) (each step c.args.option.now.items (words_of c.args.words.now)) c.loop-word.invariant.so_far
      c.in-Some.word.now (words_of c.in-Some.after.now) c.take_item.new.option.items c.in-Some.ensures.some c.in_ok-take_item.ensures.item;
  marked = c.in_ok-take_item.ensures.marked;
}

pub returns-clause-items : goal.returns-clause-items
returns-clause-items c =
    let step = add_item (map (λ n. n.bytes) c.args.names.now.keys) in
    each_ends step c.loop-word.option.items (words_of c.loop-word.rest.now) (each step c.args.option.now.items (words_of c.args.words.now)) c.loop-word.invariant.so_far c.in_default.ensures.none
