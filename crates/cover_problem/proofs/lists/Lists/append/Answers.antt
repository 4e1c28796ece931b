use Rattle.std.proofs.Common.{◌≡◌, ℕ, ◌+◌, ◌-◌, ◌<◌, List, ◌++◌, length, map, get_or, ◌∙◌, sym, ap, subst, arith}
use Rattle.cover_problem.specs.FlatLists.{lists_at, IsParted}
use Rattle.cover_problem.proofs.FlatListLemmas.{append_parted, append_lists, ends_within}
use Rattle.cover_problem.proofs.lists.Lists.append.Goals as goal

pub push_moved-requires-clause-fits : goal.push_moved-requires-clause-fits
push_moved-requires-clause-fits c =
    let p = c.self.inside in let q = c.other.inside in
    λ k d l.
    let n : k < length q.ends.items = let e = ap (length {A = ℕ}) c.deref-2.ensures.value in omega arith in
    let w = ends_within q.flat.items 0 q.ends.items c.other.invariant k d n in
    let e = ap (λ (es : List ℕ). get_or es k d) c.deref-2.ensures.value in
    omega (arith, w, e, c.in_ok-extend_from_slice.ensures.len, c.deref.ensures.len, c.len-end.ensures, c.len-count.ensures, c.len-end.type_inv, q.flat.ok.0)

pub invariant_of-self-2 : goal.invariant_of-self-2
invariant_of-self-2 c =
    let p = c.self.inside in let q = c.other.inside in
    let all = c.in_ok-extend_from_slice.ensures.items ∙ ap (λ l. p.flat.items ++ l) c.deref.ensures.value in
    let start : c.len-end.result - c.len-count.result ≡ length p.flat.items = omega (arith, c.in_ok-extend_from_slice.ensures.len, c.deref.ensures.len, c.len-end.ensures, c.len-count.ensures, p.flat.ok.0) in
    let ends = c.push_moved.ensures ∙ (λ j. c.in_ok-reserve.ensures.items j ++ map (λ e. start j + e) (c.deref-2.ensures.value j)) in
    subst (λ (w : List ℕ × List ℕ). IsParted w.0 0 w.1) (λ j. (sym all j, sym ends j)) (append_parted p.flat.items q.flat.items 0 p.ends.items q.ends.items c.self.invariant c.other.invariant)

pub returns-clause-added : goal.returns-clause-added
returns-clause-added c =
    let p = c.self.inside in let q = c.other.inside in
    let all = c.in_ok-extend_from_slice.ensures.items ∙ ap (λ l. p.flat.items ++ l) c.deref.ensures.value in
    let start : c.len-end.result - c.len-count.result ≡ length p.flat.items = omega (arith, c.in_ok-extend_from_slice.ensures.len, c.deref.ensures.len, c.len-end.ensures, c.len-count.ensures, p.flat.ok.0) in
    let ends = c.push_moved.ensures ∙ (λ j. c.in_ok-reserve.ensures.items j ++ map (λ e. start j + e) (c.deref-2.ensures.value j)) in
    (λ j. lists_at (all j) 0 (ends j)) ∙ append_lists p.flat.items q.flat.items 0 p.ends.items q.ends.items c.self.invariant ∙ (λ j. c.self.view_is j ++ c.other.view_is j)
