use Rattle.std.proofs.Common.{arith, length, ◌∙◌}
use Rattle.cover_problem.proofs.BoundLemmas.{few}
use Rattle.std.proofs.lemmas.Nat.{mul-le}
use Rattle.cover_bits.proofs.NewLemmas.{items_have_places, columns_more, columns_done}
use Rattle.cover_bits.proofs.making.note_all.Goals as goal

pub note-requires-clause-items : goal.note-requires-clause-items
note-requires-clause-items c =
    let w = c.requires.words in
    rw c.option.ensures (items_have_places c.args.problem.now c.args.words c.loop-place.place (length c.loop-place.columns) c.requires.problem (let t = c.loop-place-test.true in let e = c.options-place-end.ensures in omega arith) (omega arith) (c.loop-place.invariant.long ∙ c.requires.long))

pub note-requires-clause-small : goal.note-requires-clause-small
note-requires-clause-small c = let w = c.requires.words in let f = (few c.args.problem.now c.requires.problem).1 in omega arith

pub note-requires-clause-fits : goal.note-requires-clause-fits
note-requires-clause-fits c =
    let w = c.requires.words in
    let f = few c.args.problem.now c.requires.problem in
    let a = f.0 in let b = f.1 in
    let m = mul-le (length c.args.problem.now.names) c.args.words 65535 4096 a (omega arith) in
    let l = c.loop-place.invariant.long in let k = c.requires.long in
    omega arith

pub loop-place-preserved : goal.loop-place-preserved
loop-place-preserved c =
    let w = c.requires.words in
    record {
      long = c.note.ensures.long ∙ c.loop-place.invariant.long;
      each = columns_more c.args.problem.now c.args.words c.loop-place.place c.requires.problem (let t = c.loop-place-test.true in let e = c.options-place-end.ensures in omega arith) (omega arith)
          c.loop-place.columns c.note.new.columns c.loop-place.invariant.each (rw c.option.ensures at c.note.ensures.each);
    }

pub returns : goal.returns
returns c = record {
  long = c.loop-place.invariant.long;
  columns = columns_done c.args.problem.now c.args.words c.loop-place.place c.loop-place.columns (let t = c.loop-place-test.false in let e = c.options-place-end.ensures in omega arith) c.loop-place.invariant.each;
}
