use Rattle.std.proofs.Common.{◌≡◌, ℕ, suc, ◌-◌, List, length, take, ◌∙◌, sym, ap, subst, arith}
use Rattle.cover_problem.specs.FlatLists.{start_at}
use Rattle.packed_rows.specs.Rows.{RowsValue, rows_at, KeepsPieces}
use Rattle.packed_rows.proofs.RowLemmas.{length-rows, one_less}
use Rattle.packed_rows.proofs.rows.Rows.pop.Goals as goal

pub invariant_of-self : goal.invariant_of-self
invariant_of-self c =
    let p = c.self.inside in let k = c.len-count.result - 1 in let f = c.self.invariant.1 in
    let m = ap (λ (v : RowsValue). length v.rows) c.self.view_is in
    let n : suc k ≡ length p.ends.items = omega (arith, c.requires, m, length-rows p.block.items p.places.items p.ends.items, c.len-count.ensures, p.ends.ok.0) in
    let end = c.start_of-end.ensures ∙ ap (λ l. start_at 0 l k) (c.deref.ensures.value ∙ c.truncate.ensures.items) in
    let r = one_less p.block.items p.places.items p.ends.items c.start_of-end.result k c.self.invariant.0 n end in (
      subst (λ (w : List ℕ × List ℕ). KeepsPieces p.block.items w.0 w.1) (λ j. (sym c.truncate-2.ensures.items j, sym c.truncate.ensures.items j)) r.keeps,
      record {
        block_fits = f.block_fits;
        places_fit = omega (arith, f.places_fit);
        ends_fit = omega (arith, f.ends_fit);
      },
    )

pub returns : goal.returns
returns c =
    let p = c.self.inside in let k = c.len-count.result - 1 in
    let m = ap (λ (v : RowsValue). length v.rows) c.self.view_is in
    let long = length-rows p.block.items p.places.items p.ends.items in
    let n : suc k ≡ length p.ends.items = omega (arith, c.requires, m, long, c.len-count.ensures, p.ends.ok.0) in
    let end = c.start_of-end.ensures ∙ ap (λ l. start_at 0 l k) (c.deref.ensures.value ∙ c.truncate.ensures.items) in
    let r = one_less p.block.items p.places.items p.ends.items c.start_of-end.result k c.self.invariant.0 n end in
    let same : k ≡ length (rows_at p.block.items p.places.items p.ends.items) - 1 = omega (arith, n, long) in
    let rows = (λ j. rows_at p.block.items (c.truncate-2.ensures.items j) (c.truncate.ensures.items j)) ∙ r.rows
    ∙ ap (λ i. take i (rows_at p.block.items p.places.items p.ends.items)) same in
    rw (← c.self.view_is) (ap {B = RowsValue} (λ (rs : List (List ℕ)). record { rows = rs; kept = p.kept; room = p.room }) rows)
