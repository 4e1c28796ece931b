use Rattle.std.proofs.Common.{refl}
use Rattle.cover_counts.proofs.SearchLemmas.{chosen_bounds, chosen_first, arrives_end}
use Rattle.cover_counts.proofs.search.open_set.Goals as goal

pub first_option-next-requires-clause-some : goal.first_option-next-requires-clause-some
first_option-next-requires-clause-some g c = (chosen_bounds _ _ _ _ c.requires.at c.requires.open c.choose-item.ensures).1

pub first_option-next-requires-clause-within : goal.first_option-next-requires-clause-within
first_option-next-requires-clause-within g c = (chosen_bounds _ _ _ _ c.requires.at c.requires.open c.choose-item.ensures).2

pub returns-then-is_none-clause-known : goal.returns-then-is_none-clause-known
returns-then-is_none-clause-known g c =
    arrives_end _ _ _ _ _ _ _ _ c.requires.at c.requires.open c.choose-item.ensures c.first_option-next.ensures c.is_none.ensures c.if-is_none.true c.in_ok-add_state.ensures

pub returns-clause-open : goal.returns-clause-open
returns-clause-open g c =
    let b = chosen_bounds _ _ _ _ c.requires.at c.requires.open c.choose-item.ensures in
    (c.in_ok-take_up.ensures _ _ c.requires.at.covered c.requires.open b.0 (chosen_first _ _ _ _ _ c.requires.at c.requires.open b.0 c.first_option-next.ensures) c.requires.key, refl)
