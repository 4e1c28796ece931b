use Rattle.std.proofs.Common.{List, length, slice_get, ◌∙◌, sym, ap, arith}
use Rattle.x_branches.specs.Stretch.{StretchValue}
use Rattle.x_branches.proofs.KeptLemmas.{kept_long, kept_at}
use Rattle.x_branches.proofs.kept.KeptStretches.stretch.Goals as goal

pub index-head-requires : goal.index-head-requires
index-head-requires c =
    let n = kept_long c.self.inside.heads.items c.self.inside.rows.rows c.self.invariant in
    omega (arith, c.requires, ap length c.self.view_is, n.0, n.1, c.self.inside.heads.ok.0)

pub invariant_of-result : goal.invariant_of-result
invariant_of-result c =
    let hs = c.self.inside.heads.items in let rows = c.self.inside.rows.rows in
    let n = kept_long hs rows c.self.invariant in let m = ap length c.self.view_is in (
      omega (arith, c.requires, m, n.1),
      (kept_at hs rows c.args.place _ _ c.self.invariant (omega (arith, c.requires, m, n.0, n.1)) (c.head.view_is ∙ c.index-head.ensures)).row,
    )

pub returns : goal.returns
returns c =
    let hs = c.self.inside.heads.items in let rows = c.self.inside.rows.rows in
    let n = kept_long hs rows c.self.invariant in let m = ap length c.self.view_is in
    ap (λ (xs : List StretchValue). slice_get xs c.args.place) (sym c.self.view_is)
    ∙ (kept_at hs rows c.args.place _ _ c.self.invariant (omega (arith, c.requires, m, n.0, n.1)) (c.head.view_is ∙ c.index-head.ensures)).value
