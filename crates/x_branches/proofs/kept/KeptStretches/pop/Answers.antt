use Rattle.std.proofs.Common.{◌≡◌, ℕ, ◌-◌, List, length, take, ◌∙◌, sym, ap, subst, arith}
use Rattle.packed_rows.specs.Rows.{RowsValue}
use Rattle.x_branches.specs.Stretch.{HeadValue, StretchValue, KeepsRows, kept_values}
use Rattle.x_branches.proofs.KeptLemmas.{kept_long, kept_first}
use Rattle.x_branches.proofs.kept.KeptStretches.pop.Goals as goal

pub pop-requires : goal.pop-requires
pop-requires c =
    let n = kept_long c.self.inside.heads.items c.self.inside.rows.rows c.self.invariant in
    omega (arith, c.requires, ap length c.self.view_is, n.1)

pub invariant_of-self : goal.invariant_of-self
invariant_of-self c =
    let hs = c.self.inside.heads.items in let rows = c.self.inside.rows.rows in
    let n = kept_long hs rows c.self.invariant in let k = length rows - 1 in
    let same : c.len-count.result - 1 ≡ k = omega (arith, c.len-count.ensures, c.self.inside.heads.ok.0, n.0) in
    let heads = c.truncate.ensures.items ∙ ap (λ i. take i hs) same in
    let kept = ap (λ (v : RowsValue). v.rows) c.pop.ensures in
    subst (λ (w : List HeadValue × List (List ℕ)). KeepsRows w.0 w.1) (λ j. (sym heads j, sym kept j)) (kept_first k hs rows c.self.invariant).0

pub returns : goal.returns
returns c =
    let hs = c.self.inside.heads.items in let rows = c.self.inside.rows.rows in
    let n = kept_long hs rows c.self.invariant in let k = length rows - 1 in
    let same : c.len-count.result - 1 ≡ k = omega (arith, c.len-count.ensures, c.self.inside.heads.ok.0, n.0) in
    let heads = c.truncate.ensures.items ∙ ap (λ i. take i hs) same in
    let kept = ap (λ (v : RowsValue). v.rows) c.pop.ensures in
    let long : k ≡ length (kept_values hs rows) - 1 = omega (arith, n.1) in
    (λ j. kept_values (heads j) (kept j)) ∙ (kept_first k hs rows c.self.invariant).1 ∙ ap (λ i. take i (kept_values hs rows)) long
    ∙ ap (λ (xs : List StretchValue). take (length xs - 1) xs) c.self.view_is
