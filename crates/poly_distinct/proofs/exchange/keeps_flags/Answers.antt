use Rattle.std.proofs.Common.{ap, ap₂, ◌∙◌, ℕ}
use Rattle.std.proofs.Math.Bool.{beq}
use Rattle.poly_distinct.specs.Distinct.{keeps_flags}
use Rattle.poly_distinct.proofs.ExchangeLemmas.{four}
use Rattle.poly_distinct.proofs.exchange.keeps_flags.Goals as goal

pub returns : goal.returns
returns c =
    c.all_four.ensures
    ∙ four _ _ _ _ _ _ _ _ (ap₂ beq c.is_mirrored.ensures c.is_mirrored-2.ensures) (ap₂ beq c.is_needed.ensures c.is_needed-2.ensures)
    (ap₂ beq c.is_any.ensures c.is_any-2.ensures) (ap₂ beq c.is_spare.ensures c.is_spare-2.ensures)
    ∙ ap (λ (n : ℕ). keeps_flags c.args.puzzle.now (λ m. n) c.args.name) c.second_of-other.ensures
