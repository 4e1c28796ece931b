use Rattle.std.proofs.Common.{◌≡◌, ◌+◌, length, arith, le_refl}
use Rattle.std.proofs.lemmas.Nat.{mul-le}
use Rattle.cover_bits.specs.Bits.{HasColumn}
use Rattle.cover_bits.proofs.WriteLemmas.{all_part, written_none, written_more, written_done}
use Rattle.cover_bits.proofs.passes.write_many.Goals as goal

pub loop-base-init : goal.loop-base-init
loop-base-init c = record {
  from = le_refl c.args.base;
  within = c.requires.base;
  written = written_none c.args.words c.args.base c.args.columns.now c.args.covered.now c.args.parts.now c.args.counts.now c.requires.few c.requires.placed;
}

pub write_next-requires-clause-columns : goal.write_next-requires-clause-columns
write_next-requires-clause-columns c =
    let depth = c.min-depth.ensures in
    rw (c.split_at-in-loop-base.ensures.back, c.split_at.ensures.front)
    (all_part (HasColumn c.args.words c.args.columns.now) c.args.covered.now c.loop-base.base c.min-depth.result (omega arith) c.requires.columns)

pub write_next-requires-clause-depth : goal.write_next-requires-clause-depth
write_next-requires-clause-depth c =
    let depth = c.min-depth.ensures in
    let back = c.split_at-in-loop-base.ensures.back_len in let front = c.split_at.ensures.front_len in
    let long = c.loop-base.invariant.written.counts_long in let room = c.requires.depth in
    omega arith

pub write_next-requires-clause-few : goal.write_next-requires-clause-few
write_next-requires-clause-few c = c.loop-base.invariant.written.few

pub write_next-requires-clause-within : goal.write_next-requires-clause-within
write_next-requires-clause-within c =
    let depth = c.min-depth.ensures in
    let back = c.split_at-in-loop-base.ensures.back_len in let front = c.split_at.ensures.front_len in
    let long = c.loop-base.invariant.written.parts_long in let room = c.requires.within in
    let most = mul-le (c.loop-base.base + length c.split_at-in-loop-base.result.1.now + 1) c.args.words (length c.args.covered.now + 1) c.args.words (omega arith) (le_refl c.args.words) in
    omega arith

pub write_next-requires-clause-placed : goal.write_next-requires-clause-placed
write_next-requires-clause-placed c = c.loop-base.invariant.written.set.placed

pub loop-base-preserved : goal.loop-base-preserved
loop-base-preserved c =
    let depth = c.min-depth.ensures in
    let less = c.loop-base-test.true in
    let back = c.split_at-in-loop-base.ensures.back_len in let front = c.split_at.ensures.front_len in
    let from = c.loop-base.invariant.from in
    let at : c.loop-base.base + length c.split_at-in-loop-base.result.1.now ≡ c.min-depth.result = omega arith in
    record {
      from = omega arith;
      within = omega arith;
      written = written_more c.args.words c.args.base c.loop-base.base c.min-depth.result c.args.columns.now c.args.covered.now c.args.parts.now c.loop-base.parts _
          c.args.counts.now c.loop-base.counts _ from (omega arith) (omega arith) c.loop-base.invariant.written
          (rw (at, c.split_at-in-loop-base.ensures.back, c.split_at.ensures.front) at c.write_next.ensures);
    }

pub returns : goal.returns
returns c =
    written_done c.args.words c.args.base c.loop-base.base c.args.columns.now c.args.covered.now c.args.parts.now c.loop-base.parts c.args.counts.now c.loop-base.counts
    c.loop-base.invariant.within c.loop-base-test.false c.loop-base.invariant.written
