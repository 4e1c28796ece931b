use Rattle.std.proofs.Common.{ℕ, ◌-◌, ◌++◌, ◌∷◌, [], List, length, ◌∙◌, ap, arith}
use Rattle.packed_rows.specs.Rows.{RowsValue, rows_at}
use Rattle.cover_problem.proofs.FlatListLemmas.{same_default}
use Rattle.packed_rows.proofs.RowLemmas.{one_piece_more}
use Rattle.packed_rows.proofs.rows.Rows.add_kept.Goals as goal

pub invariant_of-self : goal.invariant_of-self
invariant_of-self c =
    let p = c.self.inside in let i = c.self.invariant in let e = c.add_piece.ensures in let r = c.requires in let f = i.1 in
    let new = one_piece_more p.block.items p.places.items p.ends.items c.bytes.result.now c.args.more.now _ _ _ i.0 c.bytes.ensures.row
    (λ k d l. omega (arith, (c.type_inv.more k).fits, same_default c.args.more.now k d 0 l)) e.added e.place e.ends in
    let room = ap (λ (v : RowsValue). v.kept) c.self.view_is in
    let size = c.bytes.ensures.row.short in let same = ap length c.bytes.ensures.numbers in (
      new.keeps,
      record {
        block_fits = omega (arith, f.block_fits, e.long, e.capacity, r.short, r.some, room, size, same);
        places_fit = omega (arith, f.places_fit, e.few, e.places_capacity, r.some, room);
        ends_fit = omega (arith, f.ends_fit, e.count, e.ends_capacity, r.some, room);
      },
    )

pub returns : goal.returns
returns c =
    let p = c.self.inside in let i = c.self.invariant in let e = c.add_piece.ensures in
    let new = one_piece_more p.block.items p.places.items p.ends.items c.bytes.result.now c.args.more.now _ _ _ i.0 c.bytes.ensures.row
    (λ k d l. omega (arith, (c.type_inv.more k).fits, same_default c.args.more.now k d 0 l)) e.added e.place e.ends in
    let rows = new.rows ∙ ap (λ ns. rows_at p.block.items p.places.items p.ends.items ++ (ns ++ c.args.more.now) ∷ []) c.bytes.ensures.numbers in
    rw (← c.self.view_is) (ap {B = RowsValue} (λ (rs : List (List ℕ)). record { rows = rs; kept = p.kept - 1; room = p.room }) rows)
