use Rattle.std.proofs.Common.{◌+◌, length, refl, arith, le_refl}
use Rattle.std.proofs.lemmas.Nat.{mul-le}
use Rattle.cover_bits.proofs.WriteLemmas.{set_before, set_few, next_written}
use Rattle.cover_bits.proofs.passes.write_next.Goals as goal

pub set-left-requires-clause-within : goal.set-left-requires-clause-within
set-left-requires-clause-within c =
    let some = c.requires.some in
    let room = mul-le (c.args.base + 1) c.args.words (c.args.base + length c.args.items.now) c.args.words (omega arith) (le_refl c.args.words) in
    let long = c.split_at_mut-before.ensures.front_len in
    omega arith

pub without-requires-clause-placed : goal.without-requires-clause-placed
without-requires-clause-placed c =
    let some = c.requires.some in
    rw (c.set-left.ensures, set_before c.args.words c.args.base (c.args.base + length c.args.items.now) c.args.parts.now c.split_at_mut-before.result.0.now c.args.counts.now (omega arith) (c.requires.few c.args.base) c.split_at_mut-before.ensures.front)
    c.requires.placed

pub without-requires-clause-room : goal.without-requires-clause-room
without-requires-clause-room c =
    let few = set_few c.args.words c.args.base c.split_at_mut-before.result.0.now c.set-left.result.now c.args.counts.now (c.requires.few c.args.base) c.set-left.ensures in
    let long = c.split_at_mut-before.ensures.back_len in
    let room = c.requires.within in
    omega arith

pub overflow_cast-counts : goal.overflow_cast-counts
overflow_cast-counts c =
    let few = set_few c.args.words c.args.base c.split_at_mut-before.result.0.now c.set-left.result.now c.args.counts.now (c.requires.few c.args.base) c.set-left.ensures in
    let kept = c.without.ensures.few in
    let small = c.requires.small in
    record { fits = omega arith }

pub returns : goal.returns
returns c =
    let some = c.requires.some in
    let few = set_few c.args.words c.args.base c.split_at_mut-before.result.0.now c.set-left.result.now c.args.counts.now (c.requires.few c.args.base) c.set-left.ensures in
    let kept = c.without.ensures.few in
    next_written c.args.words c.args.base (c.args.base + length c.args.items.now) c.args.columns.now c.args.items.now c.args.parts.now c.args.counts.now
    c.split_at_mut-before.result.0.now c.split_at_mut-before.result.1.now c.without.new.into _ c.without.result
    (omega arith) c.requires.depth c.requires.few c.requires.within c.split_at_mut-before.ensures.front c.split_at_mut-before.ensures.back c.without.ensures.long refl (omega arith)
    (rw c.set-left.ensures at c.without.ensures.written)
