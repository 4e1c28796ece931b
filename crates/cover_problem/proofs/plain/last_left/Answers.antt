use Rattle.std.proofs.Common.{◌<◌, ◌≤◌, ◌∙◌, sym, length}
use Rattle.cover_problem.specs.Plain.{is_in}
use Rattle.cover_problem.proofs.WalkLemmas.{last_yes, last_no, all_front}
use Rattle.cover_problem.proofs.plain.last_left.Goals as goal

pub returns-then-is_in : goal.returns-then-is_in
returns-then-is_in c =
    sym (last_yes (is_in c.args.options.now c.args.times.now c.args.limit) c.loop-k.rest.now c.in-Some.before.now c.in-Some.k.now c.in-Some.ensures.cases.0 (sym c.is_in.ensures ∙ c.if-is_in.true)) ∙ c.loop-k.invariant.same

pub loop-k-preserved : goal.loop-k-preserved
loop-k-preserved c = record {
  same = sym (last_no (is_in c.args.options.now c.args.times.now c.args.limit) c.loop-k.rest.now c.in-Some.before.now c.in-Some.k.now c.in-Some.ensures.cases.0 (sym c.is_in.ensures ∙ c.if-is_in.false)) ∙ c.loop-k.invariant.same;
  within = all_front (λ k. (0 < k) × (k ≤ length c.args.options.now)) c.loop-k.rest.now c.in-Some.before.now c.in-Some.k.now c.in-Some.ensures.cases.0 c.loop-k.invariant.within;
}
