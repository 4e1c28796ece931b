use Rattle.std.proofs.Common.{◌++◌, arith}
use Rattle.std.proofs.lemmas.Bool.Decides.{nat_tests}
use Rattle.debug_script.specs.Input.{raw_lines}
use Rattle.debug_script.specs.Refusals.{IsWantOrAsked}
use Rattle.debug_script.specs.Replies.{debug_replies}
use Rattle.debug_script.proofs.RefusalLemmas.{lines_left, asked_among, passed_on}
use Rattle.debug_script.proofs.ReplyLemmas.{answering_goes, answering_ends, answering_done}
use Rattle.debug_script.proofs.answers.answer_lines.Goals as goal

pub loop-rest-preserved : goal.loop-rest-preserved
loop-rest-preserved g c = (
  λ f k.
      answering_goes (c.args.text.now.items ++ debug_replies f 0 (raw_lines c.args.commands.now)) c.loop-rest.session c.in_ok-left.left
      c.loop-rest.text.items c.exchange.new.text.items c.loop-rest.rest.now c.raw_line.result.0.now c.raw_line.result.1.now
      (c.loop-rest.invariant.0 f k) c.raw_line.ensures.lines c.in_ok-left.ensures.text c.in-Some.further.now c.in_ok-left.ensures.session
      (λ u. rw c.in-Some.is at (c.in_ok-left.ensures.left u)),
  λ h. c.loop-rest.invariant.1 (lines_left c.loop-rest.session c.raw_line.result.0.now c.raw_line.result.1.now c.loop-rest.rest.now c.in-Some.further.now
      c.raw_line.ensures.lines (rw c.in-Some.is at (c.in_ok-left.ensures.left c.loop-rest.session)) h),
)

pub returns-in_default-clause-text : goal.returns-in_default-clause-text
returns-in_default-clause-text g c = λ f k.
    answering_ends (c.args.text.now.items ++ debug_replies f 0 (raw_lines c.args.commands.now)) c.loop-rest.session c.in_ok-left.left
    c.loop-rest.text.items c.exchange.new.text.items c.loop-rest.rest.now c.raw_line.result.0.now c.raw_line.result.1.now
    (c.loop-rest.invariant.0 f k) c.raw_line.ensures.lines c.in_ok-left.ensures.text
    (λ u. rw c.in_default.is at (c.in_ok-left.ensures.left u))

pub returns-clause-text : goal.returns-clause-text
returns-clause-text g c = λ f k.
    answering_done (c.args.text.now.items ++ debug_replies f 0 (raw_lines c.args.commands.now)) c.loop-rest.session c.loop-rest.text.items
    c.loop-rest.rest.now (c.loop-rest.invariant.0 f k) (grind (arith, nat_tests))

pub returns-in_err-left-clause-asked : goal.returns-in_err-left-clause-asked
returns-in_err-left-clause-asked g c =
    passed_on (IsWantOrAsked (raw_lines c.args.commands.now)) c.in_err-left.field-0.0 c.from_residual.result c.from_residual.ensures.1
    (asked_among c.raw_line.result.0.now (raw_lines c.loop-rest.rest.now) (raw_lines c.raw_line.result.1.now) (raw_lines c.args.commands.now)
    c.raw_line.ensures.lines c.loop-rest.invariant.1 c.in_err-left.field-0.0 c.in_err-left.ensures.asked)
