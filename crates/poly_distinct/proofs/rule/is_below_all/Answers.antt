use Rattle.std.proofs.Common.{ℕ, List, nat_lt, slice_index, ap₂, ◌∙◌}
use Rattle.std.specs.List.{list_all}
use Rattle.shared_words.specs.Lists.{numbers}
use Rattle.poly_distinct.proofs.CountsLemmas.{above_all}
use Rattle.poly_distinct.proofs.rule.is_below_all.Goals as goal

pub returns : goal.returns
returns c =
    c.are_above.ensures
    ∙ ap₂ (λ (counts : List ℕ) (last : ℕ). list_all (λ i. nat_lt c.args.number (slice_index counts i)) (numbers last 1)) c.as_slice.ensures.value c.primary.ensures
    ∙ above_all c.args.problem.now c.is_sound.ensures.problem c.args.number c.in_ok-counts.counts.items c.in_ok-counts.ensures
