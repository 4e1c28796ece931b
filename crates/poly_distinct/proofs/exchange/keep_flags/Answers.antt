use Rattle.std.proofs.Common.{◌≡◌, ◌∙◌, Bool, ap, sym, true, false}
use Rattle.poly_distinct.specs.Distinct.{keeps_flags}
use Rattle.poly_distinct.specs.Exchange.{second_of, FormedValue}
use Rattle.poly_distinct.proofs.ExchangeLemmas.{all_next, all_end}
use Rattle.poly_distinct.proofs.exchange.keep_flags.Goals as goal

pub returns-then-not-keeps_flags : goal.returns-then-not-keeps_flags
returns-then-not-keeps_flags c =
    let test : FormedValue → Bool = λ k. keeps_flags c.args.puzzle.now (second_of c.args.pairs.now) k.name in
    let fails : test c.piece-item.result ≡ false = ap (keeps_flags c.args.puzzle.now (second_of c.args.pairs.now)) (sym c.name.ensures) ∙ sym c.keeps_flags.ensures ∙ c.if-not-keeps_flags.true in
    sym (all_next test c.args.pieces.now c.loop-piece.piece-index c.piece-item.result false c.loop-piece-test.true c.piece-item.is fails) ∙ c.loop-piece.invariant

pub loop-piece-preserved : goal.loop-piece-preserved
loop-piece-preserved c =
    let test : FormedValue → Bool = λ k. keeps_flags c.args.puzzle.now (second_of c.args.pairs.now) k.name in
    let passes : test c.piece-item.result ≡ true = ap (keeps_flags c.args.puzzle.now (second_of c.args.pairs.now)) (sym c.name.ensures) ∙ sym c.keeps_flags.ensures ∙ c.if-not-keeps_flags.false in
    sym (all_next test c.args.pieces.now c.loop-piece.piece-index c.piece-item.result true c.loop-piece-test.true c.piece-item.is passes) ∙ c.loop-piece.invariant

pub returns : goal.returns
returns c =
    let test : FormedValue → Bool = λ k. keeps_flags c.args.puzzle.now (second_of c.args.pairs.now) k.name in
    all_end test c.args.pieces.now c.loop-piece.piece-index c.loop-piece-test.false ∙ c.loop-piece.invariant
