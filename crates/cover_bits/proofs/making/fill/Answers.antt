use Rattle.std.proofs.Common.{arith, add-one, ◌∙◌, ap, length-set}
use Rattle.cover_bits.proofs.NewLemmas.{filled_more}
use Rattle.cover_bits.proofs.making.fill.Goals as goal

pub loop-place-preserved : goal.loop-place-preserved
loop-place-preserved c = record {
  long = length-set c.loop-place.parts c.loop-place.place _ ∙ c.loop-place.invariant.long;
  parts = rw add-one (filled_more c.args.count c.loop-place.place c.loop-place.parts (record { word = c.full_word.result; place = c.loop-place.place }) (let t = c.loop-place-test.true in let r = c.requires.room in let l = c.loop-place.invariant.long in omega arith) c.loop-place.invariant.parts (ap (λ w. record { word = w; place = c.loop-place.place }) c.full_word.ensures));
}
