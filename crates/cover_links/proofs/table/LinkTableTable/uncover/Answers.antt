use Rattle.std.proofs.Common.{List, ℕ, ◌≡◌, ◌++◌, ◌∷◌, [], sym, subst}
use Rattle.cover_problem.specs.Table.{TableValue}
use Rattle.cover_links.proofs.TableLemmas.{uncovers_can, uncovers}
use Rattle.cover_links.proofs.table.LinkTableTable.uncover.Goals as goal

pub uncover_item-requires : goal.uncover_item-requires
uncover_item-requires c = uncovers_can c.self.invariant (subst (λ (v : TableValue). (f : List ℕ) × (v.covered ≡ f ++ c.args.item ∷ [])) (sym c.self.view_is) c.requires)

pub invariant_of-self : goal.invariant_of-self
invariant_of-self c =
    let pop = c.pop.ensures in
    uncovers c.self.invariant (subst (λ (v : TableValue). (f : List ℕ) × (v.covered ≡ f ++ c.args.item ∷ [])) (sym c.self.view_is) c.requires) c.uncover_item.ensures pop.rest c.self.inside.covered.ok.0 pop.capacity
