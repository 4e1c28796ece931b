use Rattle.std.proofs.Common.{◌≡◌, ◌+◌, ◌-◌, ◌&&◌, ℕ, Bool, ap, sym, ◌∙◌, arith, nat_lt, get_or}
use Rattle.std.specs.List.{list_all}
use Rattle.std.proofs.lemmas.Bool.{le-ltb, lt-ltb}
use Rattle.shared_words.specs.Lists.{numbers}
use Rattle.poly_distinct.proofs.StepLemmas.{numbers_next}
use Rattle.poly_distinct.proofs.rule.are_above.Goals as goal

pub returns-then-counts-item : goal.returns-then-counts-item
returns-then-counts-item c =
    let f : ℕ → Bool = λ i. nat_lt c.args.number (get_or c.args.counts.now i 0) in
    let k = c.loop-item.item in
    sym (numbers_next f c.args.last k c.loop-item-test.true
    ∙ ap (λ b. b && list_all f (numbers (c.args.last - (k + 1)) (k + 1 + 1))) (le-ltb c.args.number (get_or c.args.counts.now (k + 1) 0) c.if-counts-item.true)) ∙ c.loop-item.invariant

pub loop-item-preserved : goal.loop-item-preserved
loop-item-preserved c =
    let f : ℕ → Bool = λ i. nat_lt c.args.number (get_or c.args.counts.now i 0) in
    let k = c.loop-item.item in
    sym (numbers_next f c.args.last k c.loop-item-test.true
    ∙ ap (λ b. b && list_all f (numbers (c.args.last - (k + 1)) (k + 1 + 1))) (lt-ltb c.args.number (get_or c.args.counts.now (k + 1) 0) c.if-counts-item.false)) ∙ c.loop-item.invariant

pub returns : goal.returns
returns c =
    let f : ℕ → Bool = λ i. nat_lt c.args.number (get_or c.args.counts.now i 0) in
    let past = c.loop-item-test.false in
    ap (λ (n : ℕ). list_all f (numbers n (c.loop-item.item + 1))) (let e : 0 ≡ c.args.last - c.loop-item.item = omega (arith, past) in e) ∙ c.loop-item.invariant
