use Rattle.std.proofs.Common.{◌≡◌, ◌∙◌, ◌%◌, List, ℕ, find, length, get_or, ap, ap₂, subst, sym}
use Rattle.poly_place.specs.Packings.{ChoiceValue}
use Rattle.poly_place.specs.Layers.{begins_with, copy_rank}
use Rattle.poly_place.proofs.LayerLemmas.{turn_is}
use Rattle.poly_place.proofs.symbol.shown_symbol.Goals as goal

pub returns-in-Some-clause-value : goal.returns-in-Some-clause-value
returns-in-Some-clause-value c =
    let word = c.in-Some.word.now in
    turn_is _ word _ (c.copy_rank.result % length word) c.args.choice.now.name c.symbol.result
    (c.in-Some.ensures.value ∙ ap₂ (λ (n : ℕ) (words : List (List ℕ)). find (begins_with n) words) c.name.ensures c.kinds.ensures)
    (ap (λ (k : ℕ). k % length word) (c.copy_rank.ensures ∙ ap (λ (cs : List ChoiceValue). copy_rank cs c.args.choice.now) c.placements.ensures))
    c.in-Some.ensures.some
    (subst (λ (n : ℕ). n ≡ get_or word (c.copy_rank.result % length word) n) (sym c.symbol.ensures.value) c.index-word-copy_rank.is)
