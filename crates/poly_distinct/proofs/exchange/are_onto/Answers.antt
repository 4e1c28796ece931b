use Rattle.std.proofs.Common.{◌≡◌, ◌∙◌, ℕ, ◌==◌, Bool, ap, sym, true, false}
use Rattle.std.specs.List.{list_any}
use Rattle.poly_distinct.specs.Exchange.{second_of, FormedValue}
use Rattle.poly_distinct.proofs.ExchangeLemmas.{all_next, all_end}
use Rattle.poly_distinct.proofs.exchange.are_onto.Goals as goal

pub returns-then-not-is_reached : goal.returns-then-not-is_reached
returns-then-not-is_reached c =
    let test : FormedValue → Bool = λ k. list_any (λ o. second_of c.args.pairs.now o.name == k.name) c.args.pieces.now in
    let fails : test c.piece-item.result ≡ false = ap (λ (n : ℕ). list_any (λ o. second_of c.args.pairs.now o.name == n) c.args.pieces.now) (sym c.name.ensures) ∙ sym c.is_reached.ensures ∙ c.if-not-is_reached.true in
    sym (all_next test c.args.pieces.now c.loop-piece.piece-index c.piece-item.result false c.loop-piece-test.true c.piece-item.is fails) ∙ c.loop-piece.invariant

pub loop-piece-preserved : goal.loop-piece-preserved
loop-piece-preserved c =
    let test : FormedValue → Bool = λ k. list_any (λ o. second_of c.args.pairs.now o.name == k.name) c.args.pieces.now in
    let passes : test c.piece-item.result ≡ true = ap (λ (n : ℕ). list_any (λ o. second_of c.args.pairs.now o.name == n) c.args.pieces.now) (sym c.name.ensures) ∙ sym c.is_reached.ensures ∙ c.if-not-is_reached.false in
    sym (all_next test c.args.pieces.now c.loop-piece.piece-index c.piece-item.result true c.loop-piece-test.true c.piece-item.is passes) ∙ c.loop-piece.invariant

pub returns : goal.returns
returns c =
    let test : FormedValue → Bool = λ k. list_any (λ o. second_of c.args.pairs.now o.name == k.name) c.args.pieces.now in
    all_end test c.args.pieces.now c.loop-piece.piece-index c.loop-piece-test.false ∙ c.loop-piece.invariant
