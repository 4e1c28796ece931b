use Rattle.cover_counts.proofs.SearchLemmas.{chosen_bounds, chosen_first}
use Rattle.cover_counts.proofs.search.start.Goals as goal

pub first_option-next-requires-clause-some : goal.first_option-next-requires-clause-some
first_option-next-requires-clause-some g c = (chosen_bounds _ _ _ _ c.requires.at c.requires.open c.choose-item.ensures).1

pub first_option-next-requires-clause-within : goal.first_option-next-requires-clause-within
first_option-next-requires-clause-within g c = (chosen_bounds _ _ _ _ c.requires.at c.requires.open c.choose-item.ensures).2

pub returns : goal.returns
returns g c =
    let b = chosen_bounds _ _ _ _ c.requires.at c.requires.open c.choose-item.ensures in
    c.take_up.ensures _ _ c.requires.at.covered c.requires.open b.0 (chosen_first _ _ _ _ _ c.requires.at c.requires.open b.0 c.first_option-next.ensures) c.key_now.ensures
