use Rattle.std.proofs.Common.{length, ◌∙◌, sym, ap}
use Rattle.packed_rows.specs.Rows.{RowsValue}
use Rattle.packed_rows.proofs.RowLemmas.{length-rows}
use Rattle.packed_rows.proofs.rows.Rows.len.Goals as goal

pub returns-clause-count : goal.returns-clause-count
returns-clause-count c =
    let p = c.self.inside in
    c.len.ensures ∙ p.ends.ok.0 ∙ sym (length-rows p.block.items p.places.items p.ends.items) ∙ ap (λ (v : RowsValue). length v.rows) c.self.view_is
