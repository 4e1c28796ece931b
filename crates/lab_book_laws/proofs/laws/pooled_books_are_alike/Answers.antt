use Rattle.lab_book_laws.proofs.PoolCallLemmas.{searched_by}
use Rattle.lab_book_laws.proofs.SearchedLemmas.{pool_alike, searched_tiling, finished_is_searched}
use Rattle.lab_book_laws.proofs.laws.pooled_books_are_alike.Goals as goal

pub returns-clause-alike : goal.returns-clause-alike
returns-clause-alike c = λ a b new k n s. pool_alike a b new k n s

pub returns-clause-tiling : goal.returns-clause-tiling
returns-clause-tiling c = λ b t. searched_tiling b t

pub returns-clause-finished : goal.returns-clause-finished
returns-clause-finished c = λ old new p b f a n. finished_is_searched old new p b f a n

pub returns-clause-promised : goal.returns-clause-promised
returns-clause-promised c = λ old es n a w l. searched_by old es n a w l
