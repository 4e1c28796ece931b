-- A push, and a take by any seat, keep the rule.
use Rattle.std.proofs.Common.{◌≡◌, ℕ, zero, suc, ◌+◌, List, [], ◌∷◌, ◌++◌, set, sym, refl, ap, ◌∙◌, arith}
use mathlib.Core.Option.{some, some-ne-none}
use lib.ListN.{get_elem?}
use Rattle.crossbeam_deque.specs.Tasks.{Pushes, Takes, Admits}
use Rattle.lab_tickets.specs.declared.rule.Tally.{Tally}
use Rattle.lab_tickets.specs.Rule.{tally, times, times_taken, pushed_of, Balanced}

times-append : (x : ℕ) (xs ys : List ℕ) → times x (xs ++ ys) ≡ times x xs + times x ys
times-append x [] ys = omega arith
times-append x (y ∷ xs) ys = let t = times-append x xs ys in omega (arith, t)

some_is : (a b : Tally) → some a ≡ some b → a ≡ b
some_is a b e = cc

-- the taken ones after a change of one tally
taken_set : (x : ℕ) (views : List Tally) (port : ℕ) (v w : Tally) → get_elem? views port ≡ some v → times_taken x (set views port w) + times x v.taken ≡ times_taken x views + times x w.taken
taken_set x [] port v w e = absurd (some-ne-none v (sym e))
taken_set x (u ∷ us) zero v w e = let same = ap (λ (h : Tally). times x h.taken) (some_is u v e) in omega (arith, same)
taken_set x (u ∷ us) (suc k) v w e = let t = taken_set x us k v w e in omega (arith, t)

-- the pushed ones stay where the changed tally keeps its own
pushed_set : (views : List Tally) (port : ℕ) (v w : Tally) → get_elem? views port ≡ some v → w.pushed ≡ v.pushed → pushed_of (set views port w) ≡ pushed_of views
pushed_set [] port v w e same = refl
pushed_set (u ∷ us) zero v w e same = same ∙ sym (ap (λ (h : Tally). h.pushed) (some_is u v e))
pushed_set (u ∷ us) (suc k) v w e same = refl

pushed_set_first : (views : List Tally) (v w : Tally) → get_elem? views 0 ≡ some v → (pushed_of (set views 0 w) ≡ w.pushed) × (pushed_of views ≡ v.pushed)
pushed_set_first [] v w e = absurd (some-ne-none v (sym e))
pushed_set_first (u ∷ us) v w e = (refl, ap (λ (h : Tally). h.pushed) (some_is u v e))

taken_snoc : (x : ℕ) (views : List Tally) → times_taken x (views ++ tally [] [] ∷ []) ≡ times_taken x views
taken_snoc x [] = refl
taken_snoc x (u ∷ us) = let t = taken_snoc x us in omega (arith, t)

pushed_snoc : (views : List Tally) → pushed_of (views ++ tally [] [] ∷ []) ≡ pushed_of views
pushed_snoc [] = refl
pushed_snoc (u ∷ us) = refl

pub pushes : (v : Tally) (xs : List ℕ) → Pushes Balanced 0 v xs (λ w. w ≡ tally (v.pushed ++ xs) v.taken)
pushes v xs items views b at =
    let w = tally (v.pushed ++ xs) v.taken in
    let first = pushed_set_first views v w at in (
      w,
      (λ x.
          let t = taken_set x views 0 v w at in
          let p = ap (times x) first.0 ∙ times-append x v.pushed xs in
          let q = ap (times x) first.1 in
          let i = times-append x items xs in
          let h = b x in
          omega (arith, t, p, q, i, h)),
      refl,
    )

pub takes : (port : ℕ) (v : Tally) → Takes Balanced port v 1 (λ xs w. w ≡ tally v.pushed (v.taken ++ xs))
takes port v xs items views _ _ b at =
    let w = tally v.pushed (v.taken ++ xs) in (
      w,
      (λ x.
          let t = taken_set x views port v w at in
          let a = times-append x v.taken xs in
          let p = ap (times x) (pushed_set views port v w at refl) in
          let i = times-append x xs items in
          let h = b x in
          omega (arith, t, a, p, i, h)),
      refl,
    )

pub admits : Admits Balanced (tally [] [])
admits items views b x = ap (times x) (pushed_snoc views) ∙ b x ∙ ap (λ n. times x items + n) (sym (taken_snoc x views))
