use Rattle.std.proofs.Common.{◌≡◌, ℕ, List, ◌-◌, [], length, take, drop, get_or, ◌∙◌, sym, ap, subst, arith}
use Rattle.packed_rows.specs.Numbers.{numbers_of, IsSpelled}
use Rattle.packed_rows.specs.Pieces.{row_bytes, AreSpans}
use Rattle.cover_problem.specs.FlatLists.{start_at}
use Rattle.packed_rows.specs.Rows.{RowsValue}
use Rattle.cover_problem.proofs.FlatListLemmas.{same_default}
use Rattle.packed_rows.proofs.RowLemmas.{row_here}
use Rattle.packed_rows.proofs.rows.Rows.row.Goals as goal

pub start_of-start-requires : goal.start_of-start-requires
start_of-start-requires c =
    let p = c.self.inside in
    let r = row_here p.block.items p.places.items p.ends.items c.args.self.now.rows c.args.place c.self.invariant.0 (ap (λ (v : RowsValue). v.rows) c.self.view_is) c.requires in
    let d = ap length c.deref.ensures.value in omega (arith, r.end, d)

pub index-requires : goal.index-requires
index-requires c =
    let p = c.self.inside in
    let r = row_here p.block.items p.places.items p.ends.items c.args.self.now.rows c.args.place c.self.invariant.0 (ap (λ (v : RowsValue). v.rows) c.self.view_is) c.requires in
    omega (arith, r.end, p.ends.ok.0)

pub part-places-requires : goal.part-places-requires
part-places-requires c =
    let p = c.self.inside in
    let r = row_here p.block.items p.places.items p.ends.items c.args.self.now.rows c.args.place c.self.invariant.0 (ap (λ (v : RowsValue). v.rows) c.self.view_is) c.requires in
    let s : c.start_of-start.result ≡ start_at 0 p.ends.items c.args.place = c.start_of-start.ensures ∙ ap (λ l. start_at 0 l c.args.place) c.deref.ensures.value in
    let e = c.index.ensures ∙ same_default p.ends.items c.args.place c.index.result.now 0 r.end in
    let d = ap length c.deref-2.ensures.value in
    record { order = omega (arith, r.list.order, s, e); within = omega (arith, r.list.within, e, d) }

pub placed-requires : goal.placed-requires
placed-requires c =
    let p = c.self.inside in
    let r = row_here p.block.items p.places.items p.ends.items c.args.self.now.rows c.args.place c.self.invariant.0 (ap (λ (v : RowsValue). v.rows) c.self.view_is) c.requires in
    let s : c.start_of-start.result ≡ start_at 0 p.ends.items c.args.place = c.start_of-start.ensures ∙ ap (λ l. start_at 0 l c.args.place) c.deref.ensures.value in
    let e = c.index.ensures ∙ same_default p.ends.items c.args.place c.index.result.now 0 r.end in
    let same = c.part-places.ensures ∙ (λ j. take (e j - s j) (drop (s j) (c.deref-2.ensures.value j))) ∙ sym r.list.list in
    subst (λ (w : List ℕ × List ℕ). AreSpans (length w.0) w.1) (λ j. (sym c.deref-3.ensures.value j, sym same j)) r.placed

pub of-requires : goal.of-requires
of-requires c =
    let p = c.self.inside in
    let r = row_here p.block.items p.places.items p.ends.items c.args.self.now.rows c.args.place c.self.invariant.0 (ap (λ (v : RowsValue). v.rows) c.self.view_is) c.requires in
    let s : c.start_of-start.result ≡ start_at 0 p.ends.items c.args.place = c.start_of-start.ensures ∙ ap (λ l. start_at 0 l c.args.place) c.deref.ensures.value in
    let e = c.index.ensures ∙ same_default p.ends.items c.args.place c.index.result.now 0 r.end in
    let same = c.part-places.ensures ∙ (λ j. take (e j - s j) (drop (s j) (c.deref-2.ensures.value j))) ∙ sym r.list.list in
    subst IsSpelled (sym (c.placed.ensures ∙ (λ j. row_bytes (c.deref-3.ensures.value j) (same j)))) r.spelled

pub returns : goal.returns
returns c =
    let p = c.self.inside in
    let r = row_here p.block.items p.places.items p.ends.items c.args.self.now.rows c.args.place c.self.invariant.0 (ap (λ (v : RowsValue). v.rows) c.self.view_is) c.requires in
    let s : c.start_of-start.result ≡ start_at 0 p.ends.items c.args.place = c.start_of-start.ensures ∙ ap (λ l. start_at 0 l c.args.place) c.deref.ensures.value in
    let e = c.index.ensures ∙ same_default p.ends.items c.args.place c.index.result.now 0 r.end in
    let same = c.part-places.ensures ∙ (λ j. take (e j - s j) (drop (s j) (c.deref-2.ensures.value j))) ∙ sym r.list.list in
    c.of.ensures ∙ ap numbers_of (c.placed.ensures ∙ (λ j. row_bytes (c.deref-3.ensures.value j) (same j))) ∙ sym r.row
    ∙ ap (λ (v : RowsValue). get_or v.rows c.args.place []) c.self.view_is
