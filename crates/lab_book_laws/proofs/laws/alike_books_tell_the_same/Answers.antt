use Rattle.lab_book_laws.proofs.CountLemmas.{held_alike, leased_alike, waiting_alike}
use Rattle.lab_book_laws.proofs.ToldLemmas.{visits_alike, steps_alike, levels_alike}
use Rattle.lab_book_laws.proofs.laws.alike_books_tell_the_same.Goals as goal

pub returns-clause-visits : goal.returns-clause-visits
returns-clause-visits c = visits_alike

pub returns-clause-steps : goal.returns-clause-steps
returns-clause-steps c = steps_alike

pub returns-clause-levels : goal.returns-clause-levels
returns-clause-levels c = levels_alike

pub returns-clause-waiting : goal.returns-clause-waiting
returns-clause-waiting c = λ a b k. waiting_alike a.tiles b.tiles k.tiles

pub returns-clause-leased : goal.returns-clause-leased
returns-clause-leased c = λ a b k. leased_alike a.tiles b.tiles k.tiles

pub returns-clause-held : goal.returns-clause-held
returns-clause-held c = λ a b k. held_alike a.tiles b.tiles k.tiles
