use Rattle.std.proofs.Common.{sym, ◌∙◌}
use Rattle.std.proofs.lemmas.Bool.{not-false, not-true}
use Rattle.x_texts.specs.declared.breakpoint.Break.TheVariants as at
use Rattle.x_snapshot.proofs.BreakLemmas.{taken_again, keys_taken, still_new}
use Rattle.x_snapshot.proofs.breakpoint.check_breaks.Goals as goal

pub returns-then-not-branch-clause-refused : goal.returns-then-not-branch-clause-refused
returns-then-not-branch-clause-refused c =
    taken_again c.args.breaks.now c.loop-breakpoint.seen.keys c.loop-breakpoint.breakpoint-index (at.Level 0) c.loop-breakpoint-test.true c.loop-breakpoint.invariant.keys c.args.problem.now
    (not-false _ (sym c.in_ok-insert.ensures.added ∙ c.if-not-branch.true))

pub loop-breakpoint-preserved : goal.loop-breakpoint-preserved
loop-breakpoint-preserved c =
    let new = not-true _ (sym c.in_ok-insert.ensures.added ∙ c.if-not-branch.false) in
    record {
      keys = keys_taken c.args.breaks.now c.loop-breakpoint.seen.keys c.loop-breakpoint.breakpoint-index (at.Level 0) c.loop-breakpoint-test.true c.loop-breakpoint.invariant.keys new c.insert.new.self.keys c.in_ok-insert.ensures.keys;
      new = still_new c.args.breaks.now c.loop-breakpoint.seen.keys c.loop-breakpoint.breakpoint-index (at.Level 0) c.loop-breakpoint-test.true c.loop-breakpoint.invariant.keys new c.loop-breakpoint.invariant.new;
    }
