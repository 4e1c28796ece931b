use Rattle.std.proofs.Common.{take, take_all, arith, ◌∙◌}
use Rattle.cover_bits.specs.declared.sets.Part.{Part}
use Rattle.cover_bits.proofs.PartLemmas.{placed_at}
use Rattle.cover_bits.proofs.PassLemmas.{six_words, pass_more, pass_done}
use Rattle.cover_bits.proofs.passes.without_six.Goals as goal

pub offset_bounds-first-place : goal.offset_bounds-first-place
offset_bounds-first-place c =
    let none : Part = record { word = 0; place = 0 } in
    let at = (placed_at 0 c.args.words c.args.parts.now c.requires.placed c.loop-part.part-index none c.loop-part-test.true).0 in
    let small = c.requires.small in
    record { fits = omega arith }

pub bounds-first-place : goal.bounds-first-place
bounds-first-place c =
    let none : Part = record { word = 0; place = 0 } in
    let at = (placed_at 0 c.args.words c.args.parts.now c.requires.placed c.loop-part.part-index none c.loop-part-test.true).0 in
    let long = c.column_at-first.ensures.long in
    omega arith

pub offset_bounds-second-place : goal.offset_bounds-second-place
offset_bounds-second-place c =
    let none : Part = record { word = 0; place = 0 } in
    let at = (placed_at 0 c.args.words c.args.parts.now c.requires.placed c.loop-part.part-index none c.loop-part-test.true).0 in
    let small = c.requires.small in
    record { fits = omega arith }

pub bounds-second-place : goal.bounds-second-place
bounds-second-place c =
    let none : Part = record { word = 0; place = 0 } in
    let at = (placed_at 0 c.args.words c.args.parts.now c.requires.placed c.loop-part.part-index none c.loop-part-test.true).0 in
    let long = c.column_at-second.ensures.long in
    omega arith

pub offset_bounds-third-place : goal.offset_bounds-third-place
offset_bounds-third-place c =
    let none : Part = record { word = 0; place = 0 } in
    let at = (placed_at 0 c.args.words c.args.parts.now c.requires.placed c.loop-part.part-index none c.loop-part-test.true).0 in
    let small = c.requires.small in
    record { fits = omega arith }

pub bounds-third-place : goal.bounds-third-place
bounds-third-place c =
    let none : Part = record { word = 0; place = 0 } in
    let at = (placed_at 0 c.args.words c.args.parts.now c.requires.placed c.loop-part.part-index none c.loop-part-test.true).0 in
    let long = c.column_at-third.ensures.long in
    omega arith

pub offset_bounds-fourth-place : goal.offset_bounds-fourth-place
offset_bounds-fourth-place c =
    let none : Part = record { word = 0; place = 0 } in
    let at = (placed_at 0 c.args.words c.args.parts.now c.requires.placed c.loop-part.part-index none c.loop-part-test.true).0 in
    let small = c.requires.small in
    record { fits = omega arith }

pub bounds-fourth-place : goal.bounds-fourth-place
bounds-fourth-place c =
    let none : Part = record { word = 0; place = 0 } in
    let at = (placed_at 0 c.args.words c.args.parts.now c.requires.placed c.loop-part.part-index none c.loop-part-test.true).0 in
    let long = c.column_at-fourth.ensures.long in
    omega arith

pub offset_bounds-fifth-place : goal.offset_bounds-fifth-place
offset_bounds-fifth-place c =
    let none : Part = record { word = 0; place = 0 } in
    let at = (placed_at 0 c.args.words c.args.parts.now c.requires.placed c.loop-part.part-index none c.loop-part-test.true).0 in
    let small = c.requires.small in
    record { fits = omega arith }

pub bounds-fifth-place : goal.bounds-fifth-place
bounds-fifth-place c =
    let none : Part = record { word = 0; place = 0 } in
    let at = (placed_at 0 c.args.words c.args.parts.now c.requires.placed c.loop-part.part-index none c.loop-part-test.true).0 in
    let long = c.column_at-fifth.ensures.long in
    omega arith

pub offset_bounds-sixth-place : goal.offset_bounds-sixth-place
offset_bounds-sixth-place c =
    let none : Part = record { word = 0; place = 0 } in
    let at = (placed_at 0 c.args.words c.args.parts.now c.requires.placed c.loop-part.part-index none c.loop-part-test.true).0 in
    let small = c.requires.small in
    record { fits = omega arith }

pub bounds-sixth-place : goal.bounds-sixth-place
bounds-sixth-place c =
    let none : Part = record { word = 0; place = 0 } in
    let at = (placed_at 0 c.args.words c.args.parts.now c.requires.placed c.loop-part.part-index none c.loop-part-test.true).0 in
    let long = c.column_at-sixth.ensures.long in
    omega arith

pub loop-part-preserved : goal.loop-part-preserved
loop-part-preserved c =
    let few = c.loop-part.invariant.few in let more = c.keep-kept.ensures.few in
    record {
      long = c.keep-kept.ensures.long ∙ c.loop-part.invariant.long;
      few = omega arith;
      parts = pass_more (six_words c.column_at-first.result.now c.column_at-second.result.now c.column_at-third.result.now c.column_at-fourth.result.now c.column_at-fifth.result.now c.column_at-sixth.result.now)
          c.args.parts.now c.loop-part.part-index (record { word = 0; place = 0 }) c.loop-part-test.true (take c.loop-part.kept c.loop-part.into) (take c.keep-kept.result c.keep-kept.new.into)
          c.loop-part.invariant.parts c.keep-kept.ensures.kept;
    }

pub returns-clause-written : goal.returns-clause-written
returns-clause-written c =
    pass_done c.args.words c.args.columns.now c.args.items.now c.requires.some c.requires.most c.requires.columns (λ m. let t = c.type_inv.columns m in omega arith)
    c.column_at-first.result.now c.column_at-second.result.now c.column_at-third.result.now c.column_at-fourth.result.now c.column_at-fifth.result.now c.column_at-sixth.result.now
    c.column_at-first.ensures.column c.column_at-second.ensures.column c.column_at-third.ensures.column c.column_at-fourth.ensures.column c.column_at-fifth.ensures.column c.column_at-sixth.ensures.column
    c.args.parts.now (take c.loop-part.kept c.loop-part.into) c.requires.placed
    (rw (take_all c.loop-part.part-index c.args.parts.now c.loop-part-test.false) at c.loop-part.invariant.parts)
