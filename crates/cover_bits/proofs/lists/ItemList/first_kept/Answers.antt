use Rattle.std.proofs.Common.{le_refl, sym, arith, length}
use Rattle.cover_bits.specs.Parts.{in_both}
use Rattle.cover_bits.specs.Bits.{in_columns}
use Rattle.cover_bits.proofs.GoneLemmas.{both_within, first_kept, first_passed, first_none}
use Rattle.cover_bits.proofs.lists.ItemList.first_kept.Goals as goal

pub loop-option-init : goal.loop-option-init
loop-option-init c = record { from = le_refl c.args.start; before = λ j a b. absurd (omega arith) }

pub is_gone-requires-clause-within : goal.is_gone-requires-clause-within
is_gone-requires-clause-within c = both_within c.args.self.now c.requires c.in-Some.option c.in-Some.ensures.some.passes

pub returns-then-not-is_gone-clause-some : goal.returns-then-not-is_gone-clause-some
returns-then-not-is_gone-clause-some c =
    first_kept (in_both c.args.self.now.parts.now c.args.self.now.column.now) (in_columns (length c.args.self.now.column.now) c.args.self.now.columns.now c.args.self.now.gone.now)
    c.args.start c.loop-option.start c.loop-option.invariant.from c.loop-option.invariant.before c.in-Some.option c.in-Some.ensures.some (sym c.if-not-is_gone.ensures)

pub overflow_add-start : goal.overflow_add-start
overflow_add-start c =
    let within = both_within c.args.self.now c.requires c.in-Some.option c.in-Some.ensures.some.passes in
    let small = c.requires.small in
    record { fits = omega arith }

pub loop-option-smaller : goal.loop-option-smaller
loop-option-smaller c =
    let within = both_within c.args.self.now c.requires c.in-Some.option c.in-Some.ensures.some.passes in
    let from = c.in-Some.ensures.some.from in
    omega arith

pub loop-option-preserved : goal.loop-option-preserved
loop-option-preserved c = record {
  from = let a = c.loop-option.invariant.from in let b = c.in-Some.ensures.some.from in omega arith;
  before = first_passed (in_both c.args.self.now.parts.now c.args.self.now.column.now) (in_columns (length c.args.self.now.column.now) c.args.self.now.columns.now c.args.self.now.gone.now)
      c.args.start c.loop-option.start c.loop-option.invariant.from c.loop-option.invariant.before c.in-Some.option c.in-Some.ensures.some (sym c.if-not-is_gone.ensures);
}

pub returns-clause-none : goal.returns-clause-none
returns-clause-none c e =
    first_none (in_both c.args.self.now.parts.now c.args.self.now.column.now) (in_columns (length c.args.self.now.column.now) c.args.self.now.columns.now c.args.self.now.gone.now)
    c.args.start c.loop-option.start c.loop-option.invariant.from c.loop-option.invariant.before (c.next_both.ensures.none c.in_default.is)
