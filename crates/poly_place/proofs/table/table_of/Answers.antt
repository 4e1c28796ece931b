use Rattle.std.proofs.Common.{[], refl, ◌∙◌, arith}
use Rattle.poly_place.specs.Tables.{IsCellTable}
use Rattle.poly_place.proofs.TableLemmas.{table_written, empty_table}
use Rattle.poly_place.proofs.table.table_of.Goals as goal
use Rattle.poly_place.proofs.table.table_of.Goals.{After-deref_mut}

-- the table before a bit is set
empty : (c : After-deref_mut) → IsCellTable [] c.deref_mut.result.now
empty c = empty_table _ _ (c.deref_mut.ensures.value ∙ c.in_ok-bits.ensures) refl

pub set_bits-requires-clause-long : goal.set_bits-requires-clause-long
set_bits-requires-clause-long c = (empty (goal.at.set_bits-requires-clause-long c).After-deref_mut).long

pub returns : goal.returns
returns c =
    let before = empty (goal.at.returns c).After-deref_mut in
    let t = c.set_bits.ensures [] before in
    table_written _ _ _ _ (omega (arith, c.deref_mut.ensures.len, before.long, t.long)) t
