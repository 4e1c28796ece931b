use Rattle.std.proofs.Common.{◌+◌, ◌∙◌, refl, sym, ap, option_map, arith, subst}
use Rattle.std.specs.Prelude.{IfSome}
use Rattle.cover_problem.proofs.ActiveLemmas.{active_in}
use Rattle.cover_problem.proofs.BoundLemmas.{few}
use Rattle.cover_problem.proofs.ChoiceLemmas.{some_active, first_is, begins, next_is, takes, keeps, falls, walks_end, zero_ends}
use Rattle.cover_bits.proofs.WalkLemmas.{IsAhead}
use Rattle.cover_bits.proofs.ChooseLemmas.{first_met, next_met, some_number}
use Rattle.cover_bits.proofs.table.BitTable.shortest.Goals as goal

pub unwrap-best-requires : goal.unwrap-best-requires
unwrap-best-requires c =
    let m = first_met c.self.view_is c.self.invariant c.deref-2.result.now c.deref-2.ensures.value c.whole-rest.result c.take_next.new.rest c.take_next.result (option_map (λ k. k + 1) c.take_next.result)
    (record { first = c.take_next.ensures.first; left = c.take_next.ensures.left; none = c.take_next.ensures.none }) refl
    c.deref.result.now c.deref.ensures.value c.whole-rest.ensures.all in
    some_number c.take_next.result _ m.is (some_active _ _ c.requires.open)

pub len_in-least-requires : goal.len_in-least-requires
len_in-least-requires c =
    let m = first_met c.self.view_is c.self.invariant c.deref-2.result.now c.deref-2.ensures.value c.whole-rest.result c.take_next.new.rest c.take_next.result (option_map (λ k. k + 1) c.take_next.result)
    (record { first = c.take_next.ensures.first; left = c.take_next.ensures.left; none = c.take_next.ensures.none }) refl
    c.deref.result.now c.deref.ensures.value c.whole-rest.ensures.all in
    let f = first_is _ _ _ _ m.is (ap (option_map (λ k. k + 1)) c.unwrap-best.ensures) in
    record { left = c.requires.left; some = f.1; within = omega (arith, f.2, c.requires.problem.within); uncovered = (active_in _ _ _ f.0).0 }

pub loop-least-init : goal.loop-least-init
loop-least-init c =
    let m = first_met c.self.view_is c.self.invariant c.deref-2.result.now c.deref-2.ensures.value c.whole-rest.result c.take_next.new.rest c.take_next.result (option_map (λ k. k + 1) c.take_next.result)
    (record { first = c.take_next.ensures.first; left = c.take_next.ensures.left; none = c.take_next.ensures.none }) refl
    c.deref.result.now c.deref.ensures.value c.whole-rest.ensures.all in (
      begins _ _ _ _ m.is (ap (option_map (λ k. k + 1)) c.unwrap-best.ensures) _ c.len_in-least.ensures,
      rw (← c.deref-2.ensures.value) c.take_next.ensures.placed,
      subst (λ o. IfSome o (λ n. IsAhead c.self.inside.active.items c.take_next.new.rest n)) (ap (option_map (λ k. k + 1)) c.unwrap-best.ensures) m.ahead,
      c.take_next.ensures.starts,
    )

pub len_in-len-requires : goal.len_in-len-requires
len_in-len-requires c =
    let m = next_met c.self.view_is c.self.invariant c.deref-in-loop-least.result.now c.deref-in-loop-least.ensures.value c.loop-least.rest c.take_next-in-loop-least.new.rest
    c.take_next-in-loop-least.result (option_map (λ k. k + 1) c.take_next-in-loop-least.result) (record { first = c.take_next-in-loop-least.ensures.first; left = c.take_next-in-loop-least.ensures.left; none = c.take_next-in-loop-least.ensures.none }) refl (c.loop-least.number + 1) c.loop-least.invariant.2 in
    let n = next_is _ _ _ _ _ _ _ c.loop-least.invariant.0 m.is (ap (option_map (λ k. k + 1)) c.in-Some.is) in
    record { left = c.requires.left; some = n.1; within = omega (arith, n.2, c.requires.problem.within); uncovered = (active_in _ _ _ n.0).0 }

pub loop-least-smaller-then-len-least : goal.loop-least-smaller-then-len-least
loop-least-smaller-then-len-least c =
    let m = next_met c.self.view_is c.self.invariant c.deref-in-loop-least.result.now c.deref-in-loop-least.ensures.value c.loop-least.rest c.take_next-in-loop-least.new.rest
    c.take_next-in-loop-least.result (option_map (λ k. k + 1) c.take_next-in-loop-least.result) (record { first = c.take_next-in-loop-least.ensures.first; left = c.take_next-in-loop-least.ensures.left; none = c.take_next-in-loop-least.ensures.none }) refl (c.loop-least.number + 1) c.loop-least.invariant.2 in
    falls _ _ _ _ _ _ _ c.loop-least.invariant.0 m.is (ap (option_map (λ k. k + 1)) c.in-Some.is)

pub loop-least-preserved-then-len-least : goal.loop-least-preserved-then-len-least
loop-least-preserved-then-len-least c =
    let m = next_met c.self.view_is c.self.invariant c.deref-in-loop-least.result.now c.deref-in-loop-least.ensures.value c.loop-least.rest c.take_next-in-loop-least.new.rest
    c.take_next-in-loop-least.result (option_map (λ k. k + 1) c.take_next-in-loop-least.result) (record { first = c.take_next-in-loop-least.ensures.first; left = c.take_next-in-loop-least.ensures.left; none = c.take_next-in-loop-least.ensures.none }) refl (c.loop-least.number + 1) c.loop-least.invariant.2 in (
      takes _ _ _ _ _ _ _ c.loop-least.invariant.0 m.is (ap (option_map (λ k. k + 1)) c.in-Some.is) _ c.len_in-len.ensures c.if-len-least.true,
      rw (← c.deref-in-loop-least.ensures.value) c.take_next-in-loop-least.ensures.placed,
      subst (λ o. IfSome o (λ n. IsAhead c.self.inside.active.items c.take_next-in-loop-least.new.rest n)) (ap (option_map (λ k. k + 1)) c.in-Some.is) m.ahead,
      c.take_next-in-loop-least.ensures.starts,
    )

pub loop-least-smaller : goal.loop-least-smaller
loop-least-smaller c =
    let m = next_met c.self.view_is c.self.invariant c.deref-in-loop-least.result.now c.deref-in-loop-least.ensures.value c.loop-least.rest c.take_next-in-loop-least.new.rest
    c.take_next-in-loop-least.result (option_map (λ k. k + 1) c.take_next-in-loop-least.result) (record { first = c.take_next-in-loop-least.ensures.first; left = c.take_next-in-loop-least.ensures.left; none = c.take_next-in-loop-least.ensures.none }) refl (c.loop-least.number + 1) c.loop-least.invariant.2 in
    falls _ _ _ _ _ _ _ c.loop-least.invariant.0 m.is (ap (option_map (λ k. k + 1)) c.in-Some.is)

pub loop-least-preserved : goal.loop-least-preserved
loop-least-preserved c =
    let m = next_met c.self.view_is c.self.invariant c.deref-in-loop-least.result.now c.deref-in-loop-least.ensures.value c.loop-least.rest c.take_next-in-loop-least.new.rest
    c.take_next-in-loop-least.result (option_map (λ k. k + 1) c.take_next-in-loop-least.result) (record { first = c.take_next-in-loop-least.ensures.first; left = c.take_next-in-loop-least.ensures.left; none = c.take_next-in-loop-least.ensures.none }) refl (c.loop-least.number + 1) c.loop-least.invariant.2 in (
      keeps _ _ _ _ _ _ _ c.loop-least.invariant.0 m.is (ap (option_map (λ k. k + 1)) c.in-Some.is) _ c.len_in-len.ensures c.if-len-least.false,
      rw (← c.deref-in-loop-least.ensures.value) c.take_next-in-loop-least.ensures.placed,
      subst (λ o. IfSome o (λ n. IsAhead c.self.inside.active.items c.take_next-in-loop-least.new.rest n)) (ap (option_map (λ k. k + 1)) c.in-Some.is) m.ahead,
      c.take_next-in-loop-least.ensures.starts,
    )

pub returns-in_default : goal.returns-in_default
returns-in_default c =
    let m = next_met c.self.view_is c.self.invariant c.deref-in-loop-least.result.now c.deref-in-loop-least.ensures.value c.loop-least.rest c.take_next-in-loop-least.new.rest
    c.take_next-in-loop-least.result (option_map (λ k. k + 1) c.take_next-in-loop-least.result) (record { first = c.take_next-in-loop-least.ensures.first; left = c.take_next-in-loop-least.ensures.left; none = c.take_next-in-loop-least.ensures.none }) refl (c.loop-least.number + 1) c.loop-least.invariant.2 in
    sym (walks_end _ _ _ _ _ c.loop-least.invariant.0 (sym m.is ∙ ap (option_map (λ k. k + 1)) c.in_default.is))

pub returns : goal.returns
returns c = sym (zero_ends _ _ _ _ _ c.loop-least.invariant.0 (omega (arith, c.loop-least-test.false)))

pub overflow_add-result : goal.overflow_add-result
overflow_add-result c =
    let a = active_in _ _ _ c.loop-least.invariant.0.among in let b = a.2 in
    let w = c.requires.problem.within in let f = (few _ c.requires.problem).0 in
    omega arith

pub overflow_add-result-2 : goal.overflow_add-result-2
overflow_add-result-2 c =
    let a = active_in _ _ _ c.loop-least.invariant.0.among in let b = a.2 in
    let w = c.requires.problem.within in let f = (few _ c.requires.problem).0 in
    omega arith
