use Rattle.std.proofs.Common.{◌≡◌, ℕ, suc, ◌+◌, ◌-◌, length, set, refl, sym, ap, subst, ◌∙◌, arith, Some, List, Option}
use Rattle.cover_links.specs.declared.entry.TableEntry.{TableEntry}
use Rattle.cover_links.specs.Slots.{values, IsFull}
use Rattle.cover_links.proofs.FullRows.{filled, filled_none, filled_one, filled_values, filled_full, filled_length}
use Rattle.cover_links.proofs.block.Block.make.Goals as goal

pub loop-index-init : goal.loop-index-init
loop-index-init g c =
    let e : c.args.len - 0 ≡ c.args.len = omega arith in
    record { places = c.in_ok-base.ensures.1 ∙ sym (filled_none c.args.len c.args.blank) ∙ ap (λ n. filled 0 n c.args.blank) (sym e); begin = c.in_ok-base.ensures.0 }

pub put-requires : goal.put-requires
put-requires g c =
    let i = c.loop-index.index in let s = c.loop-index.invariant in let lt = c.loop-index-test.true in
    let l = ap length s.places ∙ filled_length i (c.args.len - i) c.args.blank in
    (sym s.begin, (i, refl, omega (arith, l, lt)))

pub loop-index-preserved : goal.loop-index-preserved
loop-index-preserved g c =
    let i = c.loop-index.index in let s = c.loop-index.invariant in let lt = c.loop-index-test.true in let n = c.args.len in let e = c.args.blank in
    let one : n - i ≡ suc (n - (i + 1)) = omega (arith, lt) in
    let next : suc i ≡ i + 1 = omega arith in
    record {
      places = c.put.ensures.1 i refl ∙ ap (λ (l : List (Option TableEntry)). set l i (Some e)) (s.places ∙ ap (λ k. filled i k e) one) ∙ filled_one i (n - (i + 1)) e ∙ ap (λ k. filled k (n - (i + 1)) e) next;
      begin = c.put.ensures.0 ∙ s.begin;
    }

all_filled : (i n : ℕ) (e : TableEntry) (cs : List (Option TableEntry)) → cs ≡ filled i (n - i) e → i ≡ n → cs ≡ filled n 0 e
all_filled i n e cs h same = let none : n - i ≡ 0 = omega arith in h ∙ ap (λ k. filled i k e) none ∙ ap (λ k. filled k 0 e) same

pub invariant_of-result : goal.invariant_of-result
invariant_of-result g c =
    let i = c.loop-index.index in let s = c.loop-index.invariant in let n = c.args.len in let e = c.args.blank in
    let same : i ≡ n = omega (arith, c.loop-index-test.false, c.loop-index.auto.index-end) in
    let all = all_filled i n e c.loop-index.slots.slots s.places same in
    let none : n + 0 ≡ n = omega arith in
    (ap length all ∙ filled_length n 0 e ∙ none, subst IsFull (sym all) (filled_full n e))

pub returns : goal.returns
returns g c =
    let i = c.loop-index.index in let s = c.loop-index.invariant in let n = c.args.len in let e = c.args.blank in
    let same : i ≡ n = omega (arith, c.loop-index-test.false, c.loop-index.auto.index-end) in
    ap values (all_filled i n e c.loop-index.slots.slots s.places same) ∙ filled_values n e
