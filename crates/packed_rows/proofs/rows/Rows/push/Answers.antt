use Rattle.std.proofs.Common.{ℕ, ◌++◌, ◌∷◌, [], List, ◌∙◌, ap, arith}
use Rattle.packed_rows.specs.Rows.{RowsValue, rows_at}
use Rattle.packed_rows.proofs.RowLemmas.{one_pushed}
use Rattle.packed_rows.proofs.rows.Rows.push.Goals as goal

pub put_row-requires-clause-room : goal.put_row-requires-clause-room
put_row-requires-clause-room c = omega (arith, c.in_ok-reserve.ensures.ok, c.saturating_add.ensures, c.bytes-bytes.ensures.bound)

pub invariant_of-self-2 : goal.invariant_of-self-2
invariant_of-self-2 c =
    let p = c.self.inside in let i = c.self.invariant in let r = c.put_row.ensures in let e = c.end_row.ensures in
    let new = one_pushed p.block.items p.places.items p.ends.items _ _ _ c.put_row.new.places.items _ _ _ _ _ i.0 c.in_ok-reserve.ensures.items
    c.in_ok-reserve-3.ensures.items c.in_ok-reserve-4.ensures.items r.grows c.deref.ensures.value e.added e.ends r.placed r.bytes c.bytes-bytes.ensures.row.spelled in (
      new.keeps,
      record {
        block_fits = omega (arith, c.in_ok-reserve.ensures.ok, c.saturating_add.ensures, c.bytes-bytes.ensures.bound, r.long, r.capacity);
        places_fit = omega (arith, c.in_ok-reserve-3.ensures.ok, c.saturating_add-2.ensures, c.saturating_add-most.ensures, c.saturating_mul.ensures, r.few, c.deref.ensures.len, e.long, e.capacity);
        ends_fit = omega (arith, c.in_ok-reserve-4.ensures.ok, e.count, e.ends_capacity);
      },
    )

pub returns-clause-added : goal.returns-clause-added
returns-clause-added c =
    let p = c.self.inside in let i = c.self.invariant in let r = c.put_row.ensures in let e = c.end_row.ensures in
    let new = one_pushed p.block.items p.places.items p.ends.items _ _ _ c.put_row.new.places.items _ _ _ _ _ i.0 c.in_ok-reserve.ensures.items
    c.in_ok-reserve-3.ensures.items c.in_ok-reserve-4.ensures.items r.grows c.deref.ensures.value e.added e.ends r.placed r.bytes c.bytes-bytes.ensures.row.spelled in
    let rows = new.rows ∙ ap (λ ns. rows_at p.block.items p.places.items p.ends.items ++ ns ∷ []) c.bytes-bytes.ensures.numbers in
    rw (← c.self.view_is) (ap {B = RowsValue} (λ (rs : List (List ℕ)). record { rows = rs; kept = p.kept; room = 0 }) rows)
