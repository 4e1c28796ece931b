use Rattle.std.proofs.Common.{◌≡◌, ℕ, suc, ◌+◌, ◌<◌, ◌++◌, ◌∷◌, [], length, length-append, get_or, refl, sym, ap, ◌∙◌, arith, List}
use Rattle.cover_problem.specs.Problem.{option_at}
use Rattle.cover_links.specs.Layout.{start_of}
use Rattle.cover_links.proofs.LayoutLemmas.{start_zero, start_step}
use Rattle.cover_links.proofs.BuildLemmas.{size_small, start_most, pushed_each}
use Rattle.cover_links.proofs.build.starts.Goals as goal

pub loop-k-init : goal.loop-k-init
loop-k-init c =
    let p = c.args.problem.now in
    let empty : c.in_ok-starts.starts.items ≡ [] = c.in_ok-starts.ensures.items in
    let first : c.items-next.result + 2 ≡ start_of p 0 = omega (arith, start_zero p, c.items-next.ensures.count) in
    let items = c.push_reserved.ensures.items ∙ ap (λ (l : List ℕ). l ++ (c.items-next.result + 2) ∷ []) empty in
    record {
      count = ap length items;
      each = λ i le. ap (λ (l : List ℕ). get_or l i 0) items ∙ pushed_each (start_of p) [] 0 (c.items-next.result + 2) refl (λ k h. absurd (omega arith)) first i le;
      next = first;
      room = refl;
    }

pub overflow_add-next-in-loop-k-2 : goal.overflow_add-next-in-loop-k-2
overflow_add-next-in-loop-k-2 c =
    let p = c.args.problem.now in let k = c.loop-k.k in let s = c.loop-k.invariant in
    let lt : k < length p.options = omega (arith, c.loop-k-test.true, c.options-options.ensures) in
    let same : suc k ≡ k + 1 = omega arith in
    let step = start_step p k lt in let most = start_most p (suc k) (omega arith) in let small = size_small p c.items-next.ensures.problem in
    let long : length c.option.result.now ≡ length (option_at p (suc k)) = ap length c.option.ensures ∙ ap (λ n. length (option_at p n)) (sym same) in
    let n = s.next in
    record { fits = omega arith }

pub loop-k-preserved : goal.loop-k-preserved
loop-k-preserved c =
    let p = c.args.problem.now in let k = c.loop-k.k in let s = c.loop-k.invariant in
    let lt : k < length p.options = omega (arith, c.loop-k-test.true, c.options-options.ensures) in
    let same : suc k ≡ k + 1 = omega arith in
    let step = start_step p k lt in
    let long : length c.option.result.now ≡ length (option_at p (suc k)) = ap length c.option.ensures ∙ ap (λ n. length (option_at p n)) (sym same) in
    let at = s.next in
    let here : c.loop-k.next + (length c.option.result.now + 1) ≡ start_of p (suc k) = omega arith in
    let items = (c.push_reserved-in-loop-k).ensures.items in
    record {
      count = ap length items ∙ length-append c.loop-k.starts.items ((c.loop-k.next + (length c.option.result.now + 1)) ∷ []) ∙ (let l = s.count in let e : length c.loop-k.starts.items + 1 ≡ suc (k + 1) = omega arith in e);
      each = λ i le. ap (λ (l : List ℕ). get_or l i 0) items ∙ pushed_each (start_of p) c.loop-k.starts.items (suc k) (c.loop-k.next + (length c.option.result.now + 1)) s.count (λ j h. s.each j (omega arith)) here i (omega arith);
      next = here ∙ ap (start_of p) same;
      room = (c.push_reserved-in-loop-k).ensures.capacity ∙ s.room;
    }
