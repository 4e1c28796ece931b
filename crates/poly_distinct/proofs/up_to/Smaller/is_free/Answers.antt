use Rattle.std.proofs.Common.{ap, ◌∙◌}
use Rattle.poly_distinct.specs.UpTo.{UpToValue}
use Rattle.poly_distinct.specs.Free.{have_own_cells, carrier_count}
use Rattle.poly_distinct.proofs.FreeLemmas.{free_by_number, not_by_cells, not_by_number}
use Rattle.poly_distinct.proofs.up_to.Smaller.is_free.Goals as goal

pub returns-then-not-branch : goal.returns-then-not-branch
returns-then-not-branch c =
    not_by_cells c.args.self.now.puzzle c.args.self.now.group _ (c.in_ok-have_own_cells.ensures ∙ ap (λ (a : UpToValue). have_own_cells a.puzzle) c.self.view_is) c.if-not-branch.true

pub returns-in_default : goal.returns-in_default
returns-in_default c = not_by_number c.args.self.now.puzzle c.args.self.now.group _ c.in_ok-each.ensures c.in_default.is

pub returns : goal.returns
returns c =
    free_by_number c.args.self.now.puzzle c.args.self.now.group _ _ _ _ (c.in_ok-have_own_cells.ensures ∙ ap (λ (a : UpToValue). have_own_cells a.puzzle) c.self.view_is) c.if-not-branch.false
    c.in_ok-each.ensures c.in-Some.is (c.in_ok-carrier_count.ensures ∙ ap (λ (a : UpToValue). carrier_count a.puzzle a.group) c.self.view_is)
