use Rattle.std.proofs.Common.{le_refl, arith}
use Rattle.cover_bits.proofs.GoneLemmas.{list_within, counted_all, counted_first, counted_none}
use Rattle.cover_bits.proofs.lists.ItemList.count_each.Goals as goal

pub loop-option-init : goal.loop-option-init
loop-option-init c = record {
  few = le_refl 0;
  within = omega arith;
  counted = λ xs is. let e = counted_all xs c.args.self.now is in omega arith;
}

pub overflow_add-count : goal.overflow_add-count
overflow_add-count c =
    let within = list_within c.args.self.now c.requires c.in-Some.option c.in-Some.ensures.some.passes in
    let from = c.in-Some.ensures.some.from in let few = c.loop-option.invariant.few in let small = c.requires.small in
    record { fits = omega arith }

pub overflow_add-start : goal.overflow_add-start
overflow_add-start c =
    let within = list_within c.args.self.now c.requires c.in-Some.option c.in-Some.ensures.some.passes in
    let small = c.requires.small in
    record { fits = omega arith }

pub loop-option-smaller : goal.loop-option-smaller
loop-option-smaller c =
    let within = list_within c.args.self.now c.requires c.in-Some.option c.in-Some.ensures.some.passes in
    let from = c.in-Some.ensures.some.from in
    omega arith

pub loop-option-preserved : goal.loop-option-preserved
loop-option-preserved c =
    let within = list_within c.args.self.now c.requires c.in-Some.option c.in-Some.ensures.some.passes in
    let from = c.in-Some.ensures.some.from in let few = c.loop-option.invariant.few in
    record {
      few = omega arith;
      within = omega arith;
      counted = λ xs is.
          let e = counted_first xs c.args.self.now is c.loop-option.start c.in-Some.option c.in-Some.ensures.some in
          let h = c.loop-option.invariant.counted xs is in
          omega arith;
    }

pub returns : goal.returns
returns c xs is =
    let e = counted_none xs c.args.self.now is c.loop-option.start (c.first.ensures.none c.in_default.is) in
    let h = c.loop-option.invariant.counted xs is in
    omega arith
