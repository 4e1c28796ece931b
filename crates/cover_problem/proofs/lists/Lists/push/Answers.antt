use Rattle.std.proofs.Common.{ℕ, List, [], ◌∷◌, ◌++◌, length, ◌∙◌, sym, ap, subst}
use Rattle.cover_problem.specs.FlatLists.{lists_at, IsParted}
use Rattle.cover_problem.proofs.FlatListLemmas.{push_parted, push_lists}
use Rattle.cover_problem.proofs.lists.Lists.push.Goals as goal

pub invariant_of-self-2 : goal.invariant_of-self-2
invariant_of-self-2 c =
    let p = c.self.inside in
    let all = c.in_ok-extend.ensures.added in
    let last = c.len-end.ensures ∙ c.extend.new.flat.ok.0 ∙ ap length all in
    let ends = c.push_reserved.ensures.items ∙ (λ j. c.make_room.ensures.same j ++ last j ∷ []) in
    subst (λ (w : List ℕ × List ℕ). IsParted w.0 0 w.1) (λ j. (sym all j, sym ends j)) (push_parted p.flat.items c.args.list.now 0 p.ends.items c.self.invariant)

pub returns-clause-added : goal.returns-clause-added
returns-clause-added c =
    let p = c.self.inside in
    let all = c.in_ok-extend.ensures.added in
    let last = c.len-end.ensures ∙ c.extend.new.flat.ok.0 ∙ ap length all in
    let ends = c.push_reserved.ensures.items ∙ (λ j. c.make_room.ensures.same j ++ last j ∷ []) in
    (λ j. lists_at (all j) 0 (ends j)) ∙ push_lists p.flat.items c.args.list.now 0 p.ends.items c.self.invariant ∙ ap (λ l. l ++ c.args.list.now ∷ []) c.self.view_is
