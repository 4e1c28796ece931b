use Rattle.std.proofs.Common.{◌<◌, length, ap, ◌∙◌, arith}
use Rattle.text_lines.specs.Writing.{line_text}
use Rattle.x_texts.specs.Words.{visit_words}
use Rattle.x_texts.proofs.EndLemmas.{next_line}
use Rattle.x_texts.proofs.line.write_visits.Goals as goal

pub loop-place-preserved : goal.loop-place-preserved
loop-place-preserved c =
    let visits = c.args.visits.now in let place = c.loop-place.place in
    let l : place < length visits = omega (arith, c.loop-place-test.true, c.loop-place.auto.place-end, c.len-place-end.ensures) in
    next_line c.args.text.now.items c.loop-place.text.items c.bytes.result.now _ visits c.list.result.now place l c.list.ensures c.loop-place.invariant
    (c.bytes.ensures ∙ ap (λ path. line_text (visit_words path)) c.in_ok-turn.ensures.turned) c.in_ok-extend_from_slice.ensures.items
