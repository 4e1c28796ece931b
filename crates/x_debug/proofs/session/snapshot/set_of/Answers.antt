use Rattle.x_texts.specs.declared.breakpoint.Break.TheVariants as at
use Rattle.x_debug.proofs.BreakLemmas.{set_one_more}
use Rattle.x_debug.proofs.session.snapshot.set_of.Goals as goal

pub loop-breakpoint-preserved : goal.loop-breakpoint-preserved
loop-breakpoint-preserved c = record {
  keys =
      set_one_more c.args.draft.now.problem c.args.draft.now.breaks c.breaks-breakpoint-items.result.now c.loop-breakpoint.set.keys c.insert.new.self.keys c.loop-breakpoint.breakpoint-index (at.Level 0)
      c.is_sound.ensures.breaks c.breaks-breakpoint-items.ensures c.loop-breakpoint-test.true c.loop-breakpoint.invariant.keys c.in_ok-insert.ensures.keys;
}
