use Rattle.std.proofs.Common.{sym, ap, ◌∙◌, bytes_eq}
use Rattle.part_sums.proofs.EndLemmas.{ended_split, passed_line, passed_no}
use Rattle.part_sums.proofs.tail.up_to_end.Goals as goal

pub returns-then-eq : goal.returns-then-eq
returns-then-eq c =
    let same = ap (bytes_eq c.in-Some.line.now) (sym c.as_slice.ensures) ∙ sym c.eq.ensures ∙ c.if-eq.true in
    ended_split c.args.text.now c.loop-line.rest.now c.in-Some.line.now c.in-Some.after.now _ _ c.loop-line.invariant c.in-Some.ensures.some c.in-Some.ensures.first same c.split_at.ensures.front c.split_at.ensures.back

pub loop-line-preserved : goal.loop-line-preserved
loop-line-preserved c =
    let other = ap (bytes_eq c.in-Some.line.now) (sym c.as_slice.ensures) ∙ sym c.eq.ensures ∙ c.if-eq.false in
    passed_line c.args.text.now c.loop-line.rest.now c.in-Some.line.now c.in-Some.after.now c.loop-line.invariant c.in-Some.ensures.some c.in-Some.ensures.first other

pub returns : goal.returns
returns c = passed_no c.args.text.now c.loop-line.rest.now c.loop-line.invariant c.in_default.ensures.none
