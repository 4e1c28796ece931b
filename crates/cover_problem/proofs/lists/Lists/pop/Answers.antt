use Rattle.std.proofs.Common.{◌≡◌, ℕ, suc, ◌-◌, List, [], ◌∷◌, ◌++◌, length, ◌∙◌, sym, ap, subst, arith}
use Rattle.cover_problem.specs.FlatLists.{lists_at, start_at, IsParted}
use Rattle.cover_problem.proofs.FlatListLemmas.{popped, length-lists}
use Rattle.cover_problem.proofs.lists.Lists.pop.Goals as goal

pub invariant_of-self : goal.invariant_of-self
invariant_of-self c =
    let xs = c.self.inside.flat.items in let es = c.self.inside.ends.items in let k = c.len-count.result - 1 in
    let m : length (lists_at xs 0 es) ≡ length c.args.self.now = ap length c.self.view_is in
    let n : suc k ≡ length es = omega (arith, c.requires, m, length-lists xs 0 es, c.len-count.ensures, c.self.inside.ends.ok.0) in
    let end = c.start_of-end.ensures ∙ ap (λ l. start_at 0 l k) (c.deref.ensures.value ∙ c.truncate.ensures.items) in
    let r = popped xs es c.start_of-end.result k c.self.invariant n end in
    subst (λ (w : List ℕ × List ℕ). IsParted w.0 0 w.1) (λ j. (sym c.truncate-2.ensures.items j, sym c.truncate.ensures.items j)) r.parted

pub returns : goal.returns
returns c =
    let xs = c.self.inside.flat.items in let es = c.self.inside.ends.items in let k = c.len-count.result - 1 in
    let m : length (lists_at xs 0 es) ≡ length c.args.self.now = ap length c.self.view_is in
    let n : suc k ≡ length es = omega (arith, c.requires, m, length-lists xs 0 es, c.len-count.ensures, c.self.inside.ends.ok.0) in
    let end = c.start_of-end.ensures ∙ ap (λ l. start_at 0 l k) (c.deref.ensures.value ∙ c.truncate.ensures.items) in
    let r = popped xs es c.start_of-end.result k c.self.invariant n end in
    (r.last, sym c.self.view_is ∙ r.lists ∙ (λ j. lists_at (sym c.truncate-2.ensures.items j) 0 (sym c.truncate.ensures.items j) ++ r.last ∷ []))
