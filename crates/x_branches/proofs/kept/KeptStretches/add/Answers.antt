use Rattle.std.proofs.Common.{ℕ, List, [], ◌∷◌, ◌++◌, ◌∙◌, sym, ap, subst}
use Rattle.packed_rows.specs.Rows.{RowsValue}
use Rattle.x_branches.specs.Stretch.{HeadValue, StretchValue, KeepsStretch, KeepsRows, kept_values}
use Rattle.x_branches.proofs.KeptLemmas.{kept_more, keeps_packed}
use Rattle.x_branches.proofs.kept.KeptStretches.add.Goals as goal

pub invariant_of-self-2 : goal.invariant_of-self-2
invariant_of-self-2 c =
    let s = c.args.stretch.now in let e = c.in_ok-pack.ensures in
    let keeps = subst (λ (x : StretchValue). KeepsStretch x.problem x.from x.to c.stretch.inside.steps c.stretch.inside.visits c.stretch.inside.levels.items)
    c.stretch.view_is c.stretch.invariant in
    let new = kept_more c.self.inside.heads.items c.self.inside.rows.rows (record { problem = s.problem; steps = c.stretch.inside.steps }) _
    c.self.invariant (keeps_packed s c.pack.new.row _ _ _ keeps e.ends e.visits e.levels) in
    let heads = c.push_reserved.ensures.items ∙ (λ j. c.in_ok-reserve.ensures.items j
    ++ record { problem = (λ (x : StretchValue). x.problem) (c.stretch.view_is j); steps = c.stretch.inside.steps } ∷ []) in
    let rows = ap (λ (v : RowsValue). v.rows) c.in_ok-push.ensures.added in
    subst (λ (w : List HeadValue × List (List ℕ)). KeepsRows w.0 w.1) (λ j. (sym heads j, sym rows j)) new.0

pub returns-clause-added : goal.returns-clause-added
returns-clause-added c =
    let s = c.args.stretch.now in let e = c.in_ok-pack.ensures in
    let keeps = subst (λ (x : StretchValue). KeepsStretch x.problem x.from x.to c.stretch.inside.steps c.stretch.inside.visits c.stretch.inside.levels.items)
    c.stretch.view_is c.stretch.invariant in
    let new = kept_more c.self.inside.heads.items c.self.inside.rows.rows (record { problem = s.problem; steps = c.stretch.inside.steps }) _
    c.self.invariant (keeps_packed s c.pack.new.row _ _ _ keeps e.ends e.visits e.levels) in
    let heads = c.push_reserved.ensures.items ∙ (λ j. c.in_ok-reserve.ensures.items j
    ++ record { problem = (λ (x : StretchValue). x.problem) (c.stretch.view_is j); steps = c.stretch.inside.steps } ∷ []) in
    let rows = ap (λ (v : RowsValue). v.rows) c.in_ok-push.ensures.added in
    (λ j. kept_values (heads j) (rows j)) ∙ new.1 ∙ (λ j. c.self.view_is j ++ e.ends j ∷ [])
