use Rattle.std.proofs.Common.{le_refl, sym, arith, length}
use Rattle.cover_bits.specs.Parts.{in_both}
use Rattle.cover_bits.specs.Bits.{in_columns}
use Rattle.cover_bits.proofs.GoneLemmas.{both_within, last_kept, last_passed, last_none}
use Rattle.cover_bits.proofs.lists.ItemList.last.Goals as goal

pub loop-option-init : goal.loop-option-init
loop-option-init c = record { below = le_refl c.args.end; after = λ j a b. absurd (omega arith) }

pub is_gone-requires-clause-within : goal.is_gone-requires-clause-within
is_gone-requires-clause-within c = both_within c.args.self.now c.requires c.in-Some.option c.in-Some.ensures.some.passes

pub returns-then-not-is_gone-clause-some : goal.returns-then-not-is_gone-clause-some
returns-then-not-is_gone-clause-some c =
    last_kept (in_both c.args.self.now.parts.now c.args.self.now.column.now) (in_columns (length c.args.self.now.column.now) c.args.self.now.columns.now c.args.self.now.gone.now)
    c.args.end c.loop-option.end c.loop-option.invariant.below c.loop-option.invariant.after c.in-Some.option c.in-Some.ensures.some (sym c.if-not-is_gone.ensures)

pub loop-option-smaller : goal.loop-option-smaller
loop-option-smaller c = c.in-Some.ensures.some.below

pub loop-option-preserved : goal.loop-option-preserved
loop-option-preserved c = record {
  below = let a = c.loop-option.invariant.below in let b = c.in-Some.ensures.some.below in omega arith;
  after = last_passed (in_both c.args.self.now.parts.now c.args.self.now.column.now) (in_columns (length c.args.self.now.column.now) c.args.self.now.columns.now c.args.self.now.gone.now)
      c.args.end c.loop-option.end c.loop-option.invariant.below c.loop-option.invariant.after c.in-Some.option c.in-Some.ensures.some (sym c.if-not-is_gone.ensures);
}

pub returns-clause-none : goal.returns-clause-none
returns-clause-none c e =
    last_none (in_both c.args.self.now.parts.now c.args.self.now.column.now) (in_columns (length c.args.self.now.column.now) c.args.self.now.columns.now c.args.self.now.gone.now)
    c.args.end c.loop-option.end c.loop-option.invariant.below c.loop-option.invariant.after (c.last_both.ensures.none c.in_default.is)
