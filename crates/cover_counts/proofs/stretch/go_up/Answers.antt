use Rattle.std.proofs.Common.{refl}
use Rattle.cover_problem.proofs.PathLemmas.{choice_has}
use Rattle.cover_counts.proofs.SearchLemmas.{leaves, left_at, left_is}
use Rattle.cover_counts.proofs.stretch.go_up.Goals as goal

pub option-requires-clause-some : goal.option-requires-clause-some
option-requires-clause-some g c = (choice_has _ _ _ c.requires.behind.1.choice).some

pub option-requires-clause-within : goal.option-requires-clause-within
option-requires-clause-within g c = (choice_has _ _ _ c.requires.behind.1.choice).within

pub uncover_last-requires : goal.uncover_last-requires
uncover_last-requires g c = leaves _ _ _ _ _ _ c.requires.behind.1.choice c.requires.behind.1.covered refl c.option.ensures

pub returns-clause-at : goal.returns-clause-at
returns-clause-at g c =
    let w = c.requires.behind in
    left_at _ _ _ w.0 _ _ _ c.requires.at.problem w.1.listed w.1.covered w.1.choice c.requires.at.same c.uncover_last.ensures.same_problem (rw c.option.ensures at c.uncover_last.ensures.covered)

pub returns-clause-back : goal.returns-clause-back
returns-clause-back g c = λ d k. left_is _ d _ _ _ k.covered k.choice (rw c.option.ensures at c.uncover_last.ensures.covered)
