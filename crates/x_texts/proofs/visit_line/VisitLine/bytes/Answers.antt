use Rattle.std.proofs.Common.{◌+◌, take, length, sym, ap, ◌∙◌, arith}
use Rattle.std.proofs.lemmas.List.{length-take-le}
use Rattle.text_lines.specs.Writing.{line_text}
use Rattle.x_texts.specs.Words.{visit_words}
use Rattle.x_texts.proofs.EndLemmas.{held_end, ends_within, closed_line}
use Rattle.x_texts.proofs.visit_line.VisitLine.bytes.Goals as goal

pub slice_bounds-result-end : goal.slice_bounds-result-end
slice_bounds-result-end c =
    let line = c.self.inside in let path = take line.count line.path.items in
    let at = c.index.ensures ∙ held_end line.bytes.items line.ends.items line.path.items line.count c.index.result.now c.self.invariant in
    let size = ap length c.deref.ensures.value in let within = ends_within line.bytes.items path c.self.invariant.closed in
    sym (length-take-le (c.index.result.now + 1) c.deref.result.now (omega (arith, at, size, within)))

pub overflow_add-result : goal.overflow_add-result
overflow_add-result c =
    let line = c.self.inside in let path = take line.count line.path.items in
    let at = c.index.ensures ∙ held_end line.bytes.items line.ends.items line.path.items line.count c.index.result.now c.self.invariant in
    let within = ends_within line.bytes.items path c.self.invariant.closed in omega (arith, at, within, line.bytes.ok.0)

pub returns : goal.returns
returns c =
    let line = c.self.inside in let holds = c.self.invariant in let path = take line.count line.path.items in
    let at = c.index.ensures ∙ held_end line.bytes.items line.ends.items line.path.items line.count c.index.result.now holds in
    (λ j. take (at j + 1) (c.deref.ensures.value j)) ∙ closed_line line.bytes.items line.ends.items path holds.line holds.closed (ends_within line.bytes.items path holds.closed)
    ∙ ap (λ path. line_text (visit_words path)) c.self.view_is
