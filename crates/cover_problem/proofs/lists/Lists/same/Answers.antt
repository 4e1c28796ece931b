use Rattle.std.proofs.Common.{◌∙◌, ◌&&◌, sym, ap, bytes_eq}
use Rattle.cover_problem.proofs.FlatListLemmas.{same_flat}
use Rattle.cover_problem.proofs.lists.Lists.same.Goals as goal

pub returns-then-eq : goal.returns-then-eq
returns-then-eq c =
    let a = c.self.inside in let b = c.other.inside in
    same_flat a.flat.items b.flat.items a.ends.items b.ends.items c.args.self.now c.args.other.now c.eq-then-eq.result c.self.invariant c.other.invariant c.self.view_is c.other.view_is
    (c.eq-then-eq.ensures ∙ ap (λ t. t && bytes_eq a.ends.items b.ends.items) (sym c.if-eq.true ∙ c.eq.ensures))

pub returns-else-eq : goal.returns-else-eq
returns-else-eq c =
    let a = c.self.inside in let b = c.other.inside in
    same_flat a.flat.items b.flat.items a.ends.items b.ends.items c.args.self.now c.args.other.now c.eq.result c.self.invariant c.other.invariant c.self.view_is c.other.view_is
    (c.if-eq.false ∙ ap (λ t. t && bytes_eq a.ends.items b.ends.items) (sym c.if-eq.false ∙ c.eq.ensures))
