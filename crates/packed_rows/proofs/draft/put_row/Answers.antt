use Rattle.std.proofs.Common.{◌-◌, ◌++◌, ap, ◌∙◌}
use Rattle.packed_rows.specs.Pieces.{span_of}
use Rattle.packed_rows.proofs.PieceLemmas.{draft_closed}
use Rattle.packed_rows.proofs.draft.put_row.Goals as goal

pub returns-clause-bytes : goal.returns-clause-bytes
returns-clause-bytes c =
    let b = c.put_part-from-2.new.block in let e = c.put_part-from-2.ensures in
    let closed = c.put_place.ensures.added ∙ ap (λ k. c.put_part-from-2.new.places.items ++ span_of c.put_part-from-2.result (k - c.put_part-from-2.result)) (c.len.ensures ∙ b.ok.0) in
    (draft_closed b.items _ _ _ e.from e.placed closed).1 ∙ e.bytes ∙ c.putting.invariant.bytes

pub returns-clause-placed : goal.returns-clause-placed
returns-clause-placed c =
    let b = c.put_part-from-2.new.block in let e = c.put_part-from-2.ensures in
    let closed = c.put_place.ensures.added ∙ ap (λ k. c.put_part-from-2.new.places.items ++ span_of c.put_part-from-2.result (k - c.put_part-from-2.result)) (c.len.ensures ∙ b.ok.0) in
    (draft_closed b.items _ _ _ e.from e.placed closed).0
